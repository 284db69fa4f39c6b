-- Names that are scanned one after another.
use Rattle.std.proofs.Common.{◌≡◌, ℕ, suc, ◌<◌, length, take, drop, get_or, drop-cons, List, [], ◌∷◌, ◌++◌, true, false, Option, Some, None, refl, sym, ap, subst, ◌∙◌}
use Rattle.std.specs.Prelude.{MatchOption, Result, Ok, Err, is_some}
use Rattle.std.proofs.lemmas.List.{take-append-drop}
use Rattle.sync_record.specs.Records.{FileRecord, Name}
use Rattle.folder_core.specs.declared.scan.ScanAnswer.TheVariants.{Recorded, Unchanged, Moved, Busy}
use Rattle.folder_core.specs.States.{local}
use Rattle.folder_calls.specs.Shared.{CallerView, Sees, now}
use Rattle.folder_calls.specs.declared.refusal.ScanRefusal.TheVariants.{CounterFull, SequenceFull, HistoryFull}
use Rattle.file_store.specs.Sequences.{IsLook, LooksOnly, Since, not_called}
use Rattle.file_store.specs.Trees.{Tree}
use Rattle.file_store.proofs.SequenceLemmas.{called_on}
use Rattle.file_store.specs.declared.refusal.StoreRefusal.{StoreRefusal}
use Rattle.file_store.specs.declared.refusal.StoreRefusal.TheVariants.{StoreFault, NotEmpty, BadParent, OutOfMemory}
use Rattle.sync_scan.specs.AllNames.{GoesOver, ScansEach, ScansOne, Tried, UnlessBelow, is_below_any, sum_after}
use Rattle.sync_scan.specs.Told.{Giving}
use Rattle.std.proofs.lemmas.Bool.{true≢false}
use Rattle.sync_scan.specs.Looks.{MayFind, MayFindAt, ShownFirst, ShownSince, look_of}
use Rattle.sync_scan.specs.Stops.{counted, stop_of}
use Rattle.sync_scan.specs.declared.scanned.Look.{Look}
use Rattle.sync_scan.specs.declared.scanned.Look.TheVariants as look
use Rattle.sync_scan.specs.declared.scanned.Scanned.{Scanned}
use Rattle.sync_scan.specs.declared.scanned.Scanned.TheVariants.{Answered, Skipped, Changing}
use Rattle.sync_scan.specs.declared.sum.ScanStop.{ScanStop}
use Rattle.sync_scan.specs.declared.sum.ScanSum.{ScanSum}
use Rattle.sync_scan.specs.Scans.{GoesOn}
use Rattle.sync_scan.proofs.OnLemmas.{goes-itself, goes-then, one-goes}
use Rattle.sync_scan.proofs.ScanLemmas.{sees-itself, sees-on}

-- a name that is skipped is not looked at
pub skipped : (v : CallerView) (n : Name) (moment : ℕ) (unread : List Name) (may : Name → CallerView → Look → Type 0) (fails : StoreRefusal → Type 0)
    → is_below_any unread n ≡ true → ScansOne v v n moment (UnlessBelow unread may n) fails (Ok Skipped) v
skipped v n moment unread may fails below = record {
  read = v;
  since = goes-itself v;
  found = look.Skipped;
  may_be = (λ e. refl, λ e. absurd (true≢false (sym below ∙ e)));
  point = v;
  until = goes-itself v;
  sees = sees-itself v;
  asks = refl;
}

-- what may be found is said in other words
pub one-weaker : (first old new : CallerView) (n : Name) (moment : ℕ) (may other : CallerView → Look → Type 0) (fails : StoreRefusal → Type 0) (r : Result Scanned StoreRefusal)
    → ((v : CallerView) (look : Look) → may v look → other v look) → ScansOne first old n moment may fails r new → ScansOne first old n moment other fails r new
one-weaker first old new n moment may other fails (Ok s) weaker scans = record {
  read = scans.read;
  since = scans.since;
  found = scans.found;
  may_be = weaker scans.read scans.found scans.may_be;
  point = scans.point;
  until = scans.until;
  sees = scans.sees;
  asks = scans.asks;
}
one-weaker first old new n moment may other fails (Err e) weaker scans = scans

-- the names were begun with at an earlier point
pub one-earlier : (before first old new : CallerView) (n : Name) (moment : ℕ) (may : CallerView → Look → Type 0) (fails : StoreRefusal → Type 0) (r : Result Scanned StoreRefusal)
    → GoesOn before first → ScansOne first old n moment may fails r new → ScansOne before old n moment may fails r new
one-earlier before first old new n moment may fails (Ok s) goes scans = record {
  read = scans.read;
  since = goes-then before first scans.read goes scans.since;
  found = scans.found;
  may_be = scans.may_be;
  point = scans.point;
  until = scans.until;
  sees = scans.sees;
  asks = scans.asks;
}
one-earlier before first old new n moment may fails (Err e) goes scans = scans

pub each-weaker : (tried : List Tried) (first old new : CallerView) (moment : ℕ) (may other : Name → CallerView → Look → Type 0) (fails : Name → StoreRefusal → Type 0)
    → ((n : Name) (v : CallerView) (look : Look) → may n v look → other n v look) → ScansEach first old moment may fails tried new → ScansEach first old moment other fails tried new
each-weaker [] first old new moment may other fails weaker sees = sees
each-weaker (x ∷ xs) first old new moment may other fails weaker each =
    (each.0, one-weaker first old each.0 x.0 moment (may x.0) (other x.0) (fails x.0) x.1 (weaker x.0) each.1, each-weaker xs first each.0 new moment may other fails weaker each.2)

-- the store's tree is as it was
pub may-moved : {S : Type 0} (gives : Giving S) (keeps : Type 0) (t u : Tree) → (keeps → t ≡ u) → (n : Name) (local : Option FileRecord) (look : Look)
    → MayFind gives keeps t n local look → MayFind gives keeps u n local look
may-moved gives keeps t u same n local look may = (may.0, λ k. may.1 k ∙ ap (λ (x : Tree). look_of local (x.names n)) (same k))

-- the gate was shown this, in other words, and the store's tree is as it was
pub at-moved : {S : Type 0} (gives : Giving S) (shown other : S → CallerView → Type 0) (keeps : Type 0) (t u : Tree) → ((s : S) (v : CallerView) → shown s v → other s v) → (keeps → t ≡ u)
    → (n : Name) (v : CallerView) (look : Look) → MayFindAt gives shown keeps t n v look → MayFindAt gives other keeps u n v look
at-moved gives shown other keeps t u wider same n v look (s, is, may) = (s, wider s v is, may-moved (Since gives s) keeps t u same n (local (now v) n) look may)

pub below-moved : {S : Type 0} (gives : Giving S) (shown other : S → CallerView → Type 0) (keeps : Type 0) (t u : Tree) (unread : List Name) → ((s : S) (v : CallerView) → shown s v → other s v) → (keeps → t ≡ u)
    → (n : Name) (v : CallerView) (look : Look) → UnlessBelow unread (MayFindAt gives shown keeps t) n v look → UnlessBelow unread (MayFindAt gives other keeps u) n v look
below-moved gives shown other keeps t u unread wider same n v look may = (may.0, λ e. at-moved gives shown other keeps t u wider same n v look (may.1 e))

module _ {S W : Type 0} (gives : Giving S) (shown : S → W → Type 0) (view : W → CallerView) where
  -- what was shown since a moment was shown since an earlier one
  pub shown-earlier : (a b : S) → LooksOnly gives a b → (s : S) (v : CallerView) → ShownSince gives shown view b s v → ShownSince gives shown view a s v
  shown-earlier a b looks s v (since, was) = (called_on gives IsLook a b s looks since, was)

  -- what was shown at a moment was shown since then
  pub shown-first : (a s : S) (v : CallerView) → ShownFirst shown view a s v → ShownSince gives shown view a s v
  shown-first a s v (is, was) = (subst (LooksOnly gives a) (sym is) not_called, was)

  pub shown-same : (a s : S) (v : CallerView) → ShownSince gives shown view a s v → ShownSince gives shown view a s v
  shown-same a s v was = was

-- a name that is not below an unread directory
pub not-below : (unread : List Name) (may : Name → CallerView → Look → Type 0) (n : Name) → is_below_any unread n ≡ false
    → (v : CallerView) (look : Look) → may n v look → UnlessBelow unread may n v look
not-below unread may n apart v look found = (λ e. absurd (true≢false (sym e ∙ apart)), λ e. found)

module _ (first : CallerView) (moment : ℕ) (may : Name → CallerView → Look → Type 0) (fails : Name → StoreRefusal → Type 0) where
  pub after-seen : (a b c : CallerView) (n : Name) (r : Result Scanned StoreRefusal) → Sees a b → ScansOne first b n moment (may n) (fails n) r c → ScansOne first a n moment (may n) (fails n) r c
  after-seen a b c n (Ok s) sees scans = record {
    read = scans.read;
    since = scans.since;
    found = scans.found;
    may_be = scans.may_be;
    point = scans.point;
    until = scans.until;
    sees = sees-on a b scans.point sees scans.sees;
    asks = scans.asks;
  }
  after-seen a b c n (Err e) sees later = (sees-on a b c sees later.0, later.1)

  -- one name more was scanned
  pub each-more : (tried : List Tried) (a b c : CallerView) (n : Name) (r : Result Scanned StoreRefusal) → ScansEach first a moment may fails tried b
      → ScansOne first b n moment (may n) (fails n) r c → ScansEach first a moment may fails (tried ++ (n, r) ∷ []) c
  each-more [] a b c n r sees one = (c, after-seen a b c n r sees one, sees-itself c)
  each-more (t ∷ ts) a b c n r each one = (each.0, each.1, each-more ts each.0 b c n r each.2 one)

-- one name more was gone over, which does not stop the scan, or does
pub over-more : (ns : List Name) (tried : List Tried) (n : Name) (r : Result Scanned StoreRefusal) → GoesOver ns tried None → stop_of r ≡ None
    → GoesOver (ns ++ n ∷ []) (tried ++ (n, r) ∷ []) None
over-more [] [] n r over on = (refl, subst (λ o. MatchOption o (◌≡◌ {A = Option ScanStop} None None) (λ stop. (◌≡◌ {A = List Tried} [] []) × (None ≡ Some stop))) (sym on) refl)
over-more [] (t ∷ ts) n r over on = absurd over
over-more (m ∷ ms) [] n r over on = absurd over
over-more (m ∷ ms) (t ∷ ts) n r (same, next) on = (same, by (λ over. over-more ms ts n r over on) (stop_of t.1) next)
  where
    by : (GoesOver ms ts None → GoesOver (ms ++ n ∷ []) (ts ++ (n, r) ∷ []) None) → (o : Option ScanStop)
        → MatchOption o (GoesOver ms ts None) (λ stop. (ts ≡ []) × (None ≡ Some stop))
        → MatchOption o (GoesOver (ms ++ n ∷ []) (ts ++ (n, r) ∷ []) None) (λ stop. (ts ++ (n, r) ∷ [] ≡ []) × (None ≡ Some stop))
    by later None over = later over
    by later (Some s) (e, f) = absurd (cc)

pub over-stop : (ns rest : List Name) (tried : List Tried) (n : Name) (r : Result Scanned StoreRefusal) (s : ScanStop) → GoesOver ns tried None → stop_of r ≡ Some s
    → GoesOver (ns ++ n ∷ rest) (tried ++ (n, r) ∷ []) (Some s)
over-stop [] rest [] n r s over on = (refl, subst (λ o. MatchOption o (GoesOver rest [] (Some s)) (λ stop. (◌≡◌ {A = List Tried} [] []) × (Some s ≡ Some stop))) (sym on) (refl, refl))
over-stop [] rest (t ∷ ts) n r s over on = absurd over
over-stop (m ∷ ms) rest [] n r s over on = absurd over
over-stop (m ∷ ms) rest (t ∷ ts) n r s (same, next) on = (same, by (λ over. over-stop ms rest ts n r s over on) (stop_of t.1) next)
  where
    by : (GoesOver ms ts None → GoesOver (ms ++ n ∷ rest) (ts ++ (n, r) ∷ []) (Some s)) → (o : Option ScanStop)
        → MatchOption o (GoesOver ms ts None) (λ stop. (ts ≡ []) × (None ≡ Some stop))
        → MatchOption o (GoesOver (ms ++ n ∷ rest) (ts ++ (n, r) ∷ []) (Some s)) (λ stop. (ts ++ (n, r) ∷ [] ≡ []) × (Some s ≡ Some stop))
    by later None over = later over
    by later (Some z) (e, f) = absurd (cc)

-- one name more was counted
pub sum-more : (tried : List Tried) (sum : ScanSum) (n : Name) (r : Result Scanned StoreRefusal) → sum_after sum (tried ++ (n, r) ∷ []) ≡ counted (sum_after sum tried) r
sum-more [] sum n r = refl
sum-more (t ∷ ts) sum n r = sum-more ts (counted sum t.1) n r

-- a count says what stops the scan
pub counted-stop : (sum : ScanSum) (r : Result Scanned StoreRefusal) → sum.stopped ≡ None → (counted sum r).stopped ≡ stop_of r
counted-stop sum (Ok (Answered (Ok (Recorded k)))) on = on
counted-stop sum (Ok (Answered (Ok Unchanged))) on = on
counted-stop sum (Ok (Answered (Ok (Moved now)))) on = on
counted-stop sum (Ok (Answered (Ok Busy))) on = on
counted-stop sum (Ok (Answered (Err CounterFull))) on = on
counted-stop sum (Ok (Answered (Err SequenceFull))) on = refl
counted-stop sum (Ok (Answered (Err HistoryFull))) on = refl
counted-stop sum (Ok Skipped) on = on
counted-stop sum (Ok Changing) on = on
counted-stop sum (Err StoreFault) on = on
counted-stop sum (Err NotEmpty) on = on
counted-stop sum (Err BadParent) on = on
counted-stop sum (Err OutOfMemory) on = refl

-- some names were gone over, none of which stops the scan, and counted
abbrev pub Goes : CallerView → ℕ → (Name → CallerView → Look → Type 0) → (Name → StoreRefusal → Type 0) → List Name → ScanSum → ScanSum → CallerView → Type 0
Goes old moment may fails ns first sum new = (tried : List Tried) × ScansEach old old moment may fails tried new × GoesOver ns tried None × (sum ≡ sum_after first tried)

-- the same of all of them, or those up to one that stops it
abbrev pub Ends : CallerView → ℕ → (Name → CallerView → Look → Type 0) → (Name → StoreRefusal → Type 0) → List Name → ScanSum → ScanSum → CallerView → Type 0
Ends old moment may fails ns first sum new = (tried : List Tried) × ScansEach old old moment may fails tried new × GoesOver ns tried sum.stopped × (sum ≡ sum_after first tried)

-- the scan of a name, and its count
abbrev pub Next : CallerView → CallerView → ℕ → (Name → CallerView → Look → Type 0) → (Name → StoreRefusal → Type 0) → Name → ScanSum → ScanSum → CallerView → Type 0
Next first old moment may fails n sum more new = (r : Result Scanned StoreRefusal) × ScansOne first old n moment (may n) (fails n) r new × (more ≡ counted sum r)

module _ (old v w : CallerView) (moment : ℕ) (may : Name → CallerView → Look → Type 0) (fails : Name → StoreRefusal → Type 0) (ns : List Name) (n : Name) (first sum more : ScanSum)
    (goes : Goes old moment may fails ns first sum v) (next : Next old v moment may fails n sum more w) (on : sum.stopped ≡ None) where
  stop-is : more.stopped ≡ stop_of next.0
  stop-is = ap (λ (s : ScanSum). s.stopped) next.2 ∙ counted-stop sum next.0 on

  counts : more ≡ sum_after first (goes.0 ++ (n, next.0) ∷ [])
  counts = next.2 ∙ ap (λ s. counted s next.0) goes.3 ∙ sym (sum-more goes.0 first n next.0)

  pub goes-on : more.stopped ≡ None → Goes old moment may fails (ns ++ n ∷ []) first more w
  goes-on off = (
    goes.0 ++ (n, next.0) ∷ [],
    each-more old moment may fails goes.0 old v w n next.0 goes.1 next.1,
    over-more ns goes.0 n next.0 goes.2 (sym stop-is ∙ off),
    counts,
  )

  pub ends : (rest : List Name) → is_some more.stopped ≡ true → Ends old moment may fails (ns ++ n ∷ rest) first more w
  ends rest some = by more.stopped refl some
    where
      by : (o : Option ScanStop) → more.stopped ≡ o → is_some o ≡ true → Ends old moment may fails (ns ++ n ∷ rest) first more w
      by None e some = absurd (cc)
      by (Some s) e some = (
        goes.0 ++ (n, next.0) ∷ [],
        each-more old moment may fails goes.0 old v w n next.0 goes.1 next.1,
        subst (GoesOver (ns ++ n ∷ rest) (goes.0 ++ (n, next.0) ∷ [])) (sym e) (over-stop ns rest goes.0 n next.0 s goes.2 (sym stop-is ∙ e)),
        counts,
      )

pub next-weaker : (first old new : CallerView) (n : Name) (moment : ℕ) (may other : Name → CallerView → Look → Type 0) (fails : Name → StoreRefusal → Type 0) (sum more : ScanSum)
    → ((v : CallerView) (look : Look) → may n v look → other n v look) → Next first old moment may fails n sum more new → Next first old moment other fails n sum more new
next-weaker first old new n moment may other fails sum more weaker (r, one, e) = (r, one-weaker first old new n moment (may n) (other n) (fails n) r weaker one, e)

pub next-earlier : (before old new : CallerView) (n : Name) (moment : ℕ) (may : Name → CallerView → Look → Type 0) (fails : Name → StoreRefusal → Type 0) (sum more : ScanSum)
    → GoesOn before old → Next old old moment may fails n sum more new → Next before old moment may fails n sum more new
next-earlier before old new n moment may fails sum more goes (r, one, e) = (r, one-earlier before old old new n moment (may n) (fails n) r goes one, e)

pub goes-nowhere : (v : CallerView) (moment : ℕ) (may : Name → CallerView → Look → Type 0) (fails : Name → StoreRefusal → Type 0) (sum : ScanSum) → Goes v moment may fails [] sum sum v
goes-nowhere v moment may fails sum = ([], sees-itself v, refl, refl)

-- a list up to an element, with it and the rest
pub divided-at : {X : Type 0} (xs : List X) (i : ℕ) (d : X) → i < length xs → xs ≡ take i xs ++ get_or xs i d ∷ drop (suc i) xs
divided-at xs i d lt = sym (take-append-drop i xs) ∙ ap (λ l. take i xs ++ l) (drop-cons xs i d lt)

pub is-some : {X : Type 0} (o : Option X) → is_some o ≡ true → (x : X) × (o ≡ Some x)
is-some None e = absurd (cc)
is-some (Some x) e = (x, refl)

pub is-none : {X : Type 0} (o : Option X) → is_some o ≡ false → o ≡ None
is-none None e = refl
is-none (Some x) e = absurd (cc)

-- the caller saw the history go on after the names were scanned
pub each-seen : (tried : List Tried) (moment : ℕ) (may : Name → CallerView → Look → Type 0) (fails : Name → StoreRefusal → Type 0) (first a b c : CallerView) → ScansEach first a moment may fails tried b → Sees b c
    → ScansEach first a moment may fails tried c
each-seen [] moment may fails first a b c seen later = sees-on a b c seen later
each-seen (t ∷ ts) moment may fails first a b c each later = (each.0, each.1, each-seen ts moment may fails first each.0 b c each.2 later)

-- the history goes on where names are scanned
pub each-goes : (tried : List Tried) (moment : ℕ) (may : Name → CallerView → Look → Type 0) (fails : Name → StoreRefusal → Type 0) (first a b : CallerView) → ScansEach first a moment may fails tried b
    → GoesOn a b
each-goes [] moment may fails first a b seen = record { longer = seen.longer; same = seen.same }
each-goes (t ∷ ts) moment may fails first a b each =
    goes-then a each.0 b (one-goes first a each.0 t.0 moment (may t.0) (fails t.0) t.1 each.1) (each-goes ts moment may fails first each.0 b each.2)
