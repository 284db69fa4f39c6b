-- The lines of an input, one after another.
use Rattle.std.proofs.Common.{◌≡◌, ℕ, zero, suc, Bool, false, List, [], ◌∷◌, ◌++◌, take, drop, Option, Some, None, Result, Ok, Err, refl, sym, ap, ◌∙◌, subst, arith, append_assoc, append-nil}
use Rattle.std.proofs.KnownBytes.{Appends-nil, Appends-trans, Consumes-trans}
use Rattle.std.proofs.lemmas.List.Concat.{flat_map-append}
use Rattle.std.proofs.lemmas.List.Elements.{All-append}
use Rattle.std.specs.Prelude.{All, IfErr, IsTrue, OnOk, flat_map, ◌↔◌}
use Rattle.std.proofs.lemmas.Bool.{true≢false}
use Rattle.std.specs.Io.KnownBytes.{Appends, Consumes, Keeps}
use Rattle.std.specs.Result.{IsErrAnd}
use Rattle.bepd_pair.specs.declared.input.Line.{Line}
use Rattle.bepd_pair.specs.declared.peers.Peers.{Peers}
use Rattle.bepd_pair.specs.declared.playing.PairFailure.{PairFailure}
use Rattle.bepd_pair.specs.declared.playing.PairFailure.TheVariants.{OutOfMemory, Read, Write}
use Rattle.bepd_pair.specs.Following.{FollowsLine, FollowsText}
use Rattle.bepd_pair.specs.Input.{HasCome, kept_line}
use Rattle.bepd_pair.specs.Playing.{FollowsBytes, FollowsEach, HasNoLineFeed, IsCut, WritesUnlessFailed, last_line}
use Rattle.bepd_pair.specs.Progress.{HasPlayed}
use Rattle.bepd_pair.specs.Words.{Text}

-- ---- a line that was followed

pub line_ended : (line : Line) (old new : Peers) (kept : Option Text) (printed written : List ℕ) (mid to : Option (List ℕ)) (r : Result (Unit {0}) PairFailure) → ((text : Text) → HasCome line text → kept ≡ kept_line text)
    → FollowsText kept old printed new → written ≡ printed → OnOk r (Appends mid to written)
    → OnOk r ((text : Text) → HasCome line text → (x : List ℕ) × FollowsLine text old x new × Appends mid to x)
line_ended line old new kept printed written mid to (Err e) come follows is w = tt
line_ended line old new kept printed written mid to (Ok x) come follows is w =
    λ text h. (printed, subst (λ t. FollowsText t old printed new) (come text h) follows, subst (Appends mid to) is w)

-- ---- lines

no_feed_more : (text : Text) (b : ℕ) → HasNoLineFeed text → (b ≡ 10 → ⊥) → HasNoLineFeed (text ++ b ∷ [])
no_feed_more [] b h not zero l = not
no_feed_more [] b h not (suc i) l = absurd (omega (arith, l))
no_feed_more (x ∷ xs) b h not zero l = h 0 (omega arith)
no_feed_more (x ∷ xs) b h not (suc i) l = no_feed_more xs b (λ k m. h (suc k) (omega (arith, m))) not i (omega (arith, l))

no_feed_none : HasNoLineFeed []
no_feed_none i l = absurd (omega (arith, l))

pub cut_none : IsCut [] [] []
cut_none = record { whole = refl; each = λ k d l. absurd (omega (arith, l)); last = no_feed_none }

cut_byte : (bytes : List ℕ) (lines : List Text) (rest : Text) (b : ℕ) → IsCut bytes lines rest → (b ≡ 10 → ⊥) → IsCut (bytes ++ b ∷ []) lines (rest ++ b ∷ [])
cut_byte bytes lines rest b h not = record {
  whole = ap (λ l. l ++ b ∷ []) h.whole ∙ append_assoc (flat_map (λ (line : Text). line ++ 10 ∷ []) lines) rest (b ∷ []);
  each = h.each;
  last = no_feed_more rest b h.last not;
}

one_line : (rest : Text) → HasNoLineFeed rest → All HasNoLineFeed (rest ∷ [])
one_line rest h zero d l = h
one_line rest h (suc k) d l = absurd (omega (arith, l))

cut_feed : (bytes : List ℕ) (lines : List Text) (rest : Text) → IsCut bytes lines rest → IsCut (bytes ++ 10 ∷ []) (lines ++ rest ∷ []) []
cut_feed bytes lines rest h =
    let front = flat_map (λ (line : Text). line ++ 10 ∷ []) lines in
    let more : flat_map (λ (line : Text). line ++ 10 ∷ []) (lines ++ rest ∷ []) ≡ front ++ (rest ++ 10 ∷ []) =
    flat_map-append (λ (line : Text). line ++ 10 ∷ []) lines (rest ∷ []) ∙ ap (λ l. front ++ l) (append-nil (rest ++ 10 ∷ [])) in
    record {
      whole = ap (λ l. l ++ 10 ∷ []) h.whole ∙ append_assoc front rest (10 ∷ []) ∙ sym more ∙ sym (append-nil _);
      each = All-append HasNoLineFeed lines (rest ∷ []) h.each (one_line rest h.last);
      last = no_feed_none;
    }

-- ---- one more line

pub follows_more : (old mid new : Peers) (lines : List Text) (line : Text) (printed more : List ℕ) → FollowsEach old lines printed mid → FollowsLine line mid more new
    → FollowsEach old (lines ++ line ∷ []) (printed ++ more) new
follows_more old mid new [] line printed more h one =
    (more, [], new, ap (λ l. l ++ more) h.0 ∙ sym (append-nil more), subst (λ p. FollowsLine line p more new) h.1 one, (refl, refl))
follows_more old mid new (l ∷ lines) line printed more (first, others, next, e, this, later) one =
    (first, others ++ more, next, ap (λ p. p ++ more) e ∙ append_assoc first others more, this, follows_more next mid new lines line others more later one)

module _ (start : Peers) (bytes : List ℕ) (line line' : Line) (old : Peers) (out mid : Option (List ℕ)) (h : HasPlayed start bytes line old out mid) where
  pub played_byte : (b : ℕ) → (b ≡ 10 → ⊥) → ((text : Text) → HasCome line text → HasCome line' (text ++ b ∷ [])) → HasPlayed start (bytes ++ b ∷ []) line' old out mid
  played_byte b not come = record {
    lines = h.lines;
    rest = h.rest ++ b ∷ [];
    cut = cut_byte bytes h.lines h.rest b h.cut not;
    come = come h.rest h.come;
    printed = h.printed;
    follows = h.follows;
    written = h.written;
  }

  abbrev EndsLine : Peers → Option (List ℕ) → Type 0
  EndsLine new to = (text : Text) → HasCome line text → (printed : List ℕ) × FollowsLine text old printed new × Appends mid to printed

  pub played_line : (new : Peers) (to : Option (List ℕ)) → EndsLine new to → HasCome line' [] → HasPlayed start (bytes ++ 10 ∷ []) line' new out to
  played_line new to ends come =
      let one = ends h.rest h.come in
      record {
        lines = h.lines ++ h.rest ∷ [];
        rest = [];
        cut = cut_feed bytes h.lines h.rest h.cut;
        come = come;
        printed = h.printed ++ one.0;
        follows = follows_more start old new h.lines h.rest h.printed one.0 h.follows one.1;
        written = Appends-trans out mid to h.printed one.0 h.written one.2;
      }

  written_so_far : (failure : PairFailure) (to : Option (List ℕ)) → WritesUnlessFailed (Err failure) [] mid to → WritesUnlessFailed (Err failure) h.printed out to
  written_so_far OutOfMemory to w = subst (Appends out to) (append-nil h.printed) (Appends-trans out mid to h.printed [] h.written w)
  written_so_far Read to w = subst (Appends out to) (append-nil h.printed) (Appends-trans out mid to h.printed [] h.written w)
  written_so_far Write to w = tt

  -- a failure after what was followed
  pub stops : (failure : PairFailure) (to : Option (List ℕ)) (more : List ℕ) → WritesUnlessFailed (Err failure) [] mid to → FollowsBytes (Err failure) start (bytes ++ more) out to
  stops failure to more w = record {
    front = bytes;
    part = (more, refl);
    lines = h.lines;
    rest = h.rest;
    cut = h.cut;
    printed = h.printed;
    end = old;
    follows = subst (λ l. FollowsEach start l h.printed old) (sym (append-nil h.lines)) h.follows;
    written = written_so_far failure to w;
  }

  -- the end of the input after a line feed, or where nothing was read
  pub ends_empty : h.rest ≡ [] → FollowsBytes (Ok tt) start bytes out mid
  ends_empty none = record {
    front = bytes;
    part = refl;
    lines = h.lines;
    rest = h.rest;
    cut = h.cut;
    printed = h.printed;
    end = old;
    follows = subst (λ l. FollowsEach start l h.printed old) (sym (ap (λ r. h.lines ++ last_line r) none ∙ append-nil h.lines)) h.follows;
    written = h.written;
  }

  last_is : (rest : Text) → (rest ≡ [] → ⊥) → last_line rest ≡ rest ∷ []
  last_is [] not = absurd (not refl)
  last_is (b ∷ bs) not = refl

  -- and with a last line without one
  pub ends_with : (new : Peers) (to : Option (List ℕ)) → (h.rest ≡ [] → ⊥) → EndsLine new to → FollowsBytes (Ok tt) start bytes out to
  ends_with new to some ends =
      let one = ends h.rest h.come in
      record {
        front = bytes;
        part = refl;
        lines = h.lines;
        rest = h.rest;
        cut = h.cut;
        printed = h.printed ++ one.0;
        end = new;
        follows = subst (λ l. FollowsEach start (h.lines ++ l) (h.printed ++ one.0) new) (sym (last_is h.rest some))
            (follows_more start old new h.lines h.rest h.printed one.0 h.follows one.1);
        written = Appends-trans out mid to h.printed one.0 h.written one.2;
      }

-- what was followed before a failure
abbrev pub FailsAfter : Line → Peers → Option (List ℕ) → Option (List ℕ) → PairFailure → Type 0
FailsAfter line old mid to failure = (start : Peers) (bytes : List ℕ) (out : Option (List ℕ)) → HasPlayed start bytes line old out mid → FollowsBytes (Err failure) start bytes out to

pub stops_here : (line : Line) (old : Peers) (mid to : Option (List ℕ)) (failure : PairFailure) → WritesUnlessFailed (Err failure) [] mid to → FailsAfter line old mid to failure
stops_here line old mid to failure w start bytes out h =
    subst (λ b. FollowsBytes (Err failure) start b out to) (append-nil bytes) (stops start bytes line line old out mid h failure to [] w)

-- the same where more was to be taken
abbrev pub FailsWith : Line → Peers → List ℕ → Option (List ℕ) → Option (List ℕ) → PairFailure → Type 0
FailsWith line old piece mid to failure = (start : Peers) (bytes : List ℕ) (out : Option (List ℕ)) → HasPlayed start bytes line old out mid → FollowsBytes (Err failure) start (bytes ++ piece) out to

-- the end of the input, where a last line has come
pub ends_as : (start : Peers) (bytes : List ℕ) (line line' : Line) (old : Peers) (out mid : Option (List ℕ)) (h : HasPlayed start bytes line old out mid) (r : Result (Unit {0}) PairFailure) (new : Peers) (to : Option (List ℕ))
    (b : Bool) → IsTrue b ↔ (h.rest ≡ []) → b ≡ false → OnOk r (EndsLine start bytes line line' old out mid h new to) → IfErr r (λ failure. WritesUnlessFailed (Err failure) [] mid to)
    → FollowsBytes r start bytes out to
ends_as start bytes line line' old out mid h (Ok x) new to b empty not ends fails =
    ends_with start bytes line line' old out mid h new to (λ none. true≢false (sym (empty.1 none) ∙ not)) ends
ends_as start bytes line line' old out mid h (Err failure) new to b empty not ends fails = stops_here line old mid to failure fails start bytes out h

-- ---- failures that are passed on

pub at_error : {A : Type 0} (P : PairFailure → Type 0) (r : Result A PairFailure) (e : PairFailure) → IsErrAnd r (λ x. x ≡ e) → P e → IfErr r P
at_error P (Ok x) e is p = tt
at_error P (Err f) e is p = subst P (sym is) p

pub failed_as : {A : Type 0} (P : Result A PairFailure → Type 0) (r : Result A PairFailure) (e : PairFailure) → IsErrAnd r (λ x. x ≡ e) → P (Err e) → P r
failed_as P (Ok x) e is p = absurd is
failed_as P (Err f) e is p = subst (λ x. P (Err x)) (sym is) p

-- what fails after some of the bytes fails after more
pub fails_later : (failure : PairFailure) (start : Peers) (bytes more : List ℕ) (out to : Option (List ℕ)) → FollowsBytes (Err failure) start bytes out to
    → FollowsBytes (Err failure) start (bytes ++ more) out to
fails_later failure start bytes more out to h = record {
  front = h.front;
  part = (h.part.0 ++ more, ap (λ l. l ++ more) h.part.1 ∙ append_assoc h.front h.part.0 more);
  lines = h.lines;
  rest = h.rest;
  cut = h.cut;
  printed = h.printed;
  end = h.end;
  follows = h.follows;
  written = h.written;
}

take_drop : {A : Type 0} (n : ℕ) (xs : List A) → take n xs ++ drop n xs ≡ xs
take_drop zero xs = refl
take_drop (suc n) [] = refl
take_drop (suc n) (x ∷ xs) = ap (λ l. x ∷ l) (take_drop n xs)

pub fails_after_part : (line now : Line) (old mid_peers : Peers) (piece : List ℕ) (n : ℕ) (out mid to : Option (List ℕ)) (failure : PairFailure)
    → ((start : Peers) (bytes : List ℕ) (from : Option (List ℕ)) → HasPlayed start bytes line old from out → HasPlayed start (bytes ++ take n piece) now mid_peers from mid)
    → FailsAfter now mid_peers mid to failure → FailsWith line old piece out to failure
fails_after_part line now old mid_peers piece n out mid to failure played fails start bytes from h =
    let part = fails start (bytes ++ take n piece) from (played start bytes from h) in
    subst (λ b. FollowsBytes (Err failure) start b from to) (append_assoc bytes (take n piece) (drop n piece) ∙ ap (λ l. bytes ++ l) (take_drop n piece))
    (fails_later failure start (bytes ++ take n piece) (drop n piece) from to part)

-- ---- the start

pub played_none : (start : Peers) (line : Line) (out : Option (List ℕ)) → HasCome line [] → HasPlayed start [] line start out out
played_none start line out come = record {
  lines = [];
  rest = [];
  cut = cut_none;
  come = come;
  printed = [];
  follows = (refl, refl);
  written = Appends-nil out;
}

-- ---- reads

pub kept_then : (a b c : Option (List ℕ)) (bs : List ℕ) → Keeps a b → Consumes b c bs → Consumes a c bs
kept_then None b c bs k h = tt
kept_then (Some xs) None c bs k h = absurd k
kept_then (Some xs) (Some ys) None bs k h = absurd h
kept_then (Some xs) (Some ys) (Some zs) bs k h = sym k ∙ h

pub read_none : (a b c : Option (List ℕ)) (bs buffer : List ℕ) (n : ℕ) → n ≡ 0 → Consumes a b bs → Consumes b c (take n buffer) → Consumes a c bs
read_none a b c bs buffer n none h k =
    subst (Consumes a c) (ap (λ m. bs ++ take m buffer) none ∙ append-nil bs) (Consumes-trans a b c bs (take n buffer) h k)
