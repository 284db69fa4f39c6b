-- What each folder was asked for, one more change at a time.
use Rattle.std.proofs.Common.{◌≡◌, ◌≢◌, ◌<◌, ◌+◌, ◌==◌, ◌++◌, ◌∷◌, [], ℕ, zero, suc, List, Bool, Result, true, false, Some, map, filter, set, refl, sym, ◌∙◌, ap, subst, arith, append-nil}
use Rattle.std.specs.List.{All, AllByRecursion, slice_get}
use Rattle.std.proofs.lemmas.Bool.Decides.{eqb_tells}
use Rattle.std.proofs.lemmas.List.{map-append}
use Rattle.std.proofs.lemmas.List.Elements.{All-from_recursion, filter-append, recursion_from_All}
use Rattle.bep_messages.specs.declared.file_info.FileInfo.{FileInfo}
use Rattle.folder_calls.specs.Adds.{Asked, Asks}
use Rattle.folder_core.specs.declared.answer.Answer.{Answer}
use Rattle.folder_core.specs.declared.change.Change.{Change}
use Rattle.folder_calls.specs.declared.at.At.{At}
use Rattle.folder_calls.specs.declared.refusal.HistoryFull.{HistoryFull as FullHistory}
use Rattle.folder_calls.specs.Calls.{answer_at, index_value}
use Rattle.folder_calls.specs.Shared.{CallerView, ChangesAt, Gets}
use Rattle.peer_reader.specs.declared.folder.ReaderFolder.{ReaderFolder}
use Rattle.peer_reader.specs.declared.stop.ReaderStop.{ReaderStop}
use Rattle.peer_reader.specs.declared.stop.ReaderStop.TheVariants as stop
use Rattle.peer_reader.specs.Effects.{announced_change}
use Rattle.peer_reader.specs.Hears.{AskedOf, AsksEach, AsksOne, IsApart, StopsOne, asked_at}
use Rattle.sync_record.specs.Devices.{Identity}

abbrev pub at_place : ℕ → List Asked → List AskedOf
at_place k xs = map (λ x. (k, x)) xs

same_number : (k : ℕ) → (k == k) ≡ true
same_number k = grind (arith, eqb_tells k k)

other_number : (k m : ℕ) → m ≢ k → (m == k) ≡ false
other_number k m h = grind (arith, eqb_tells m k, h)

own_only : (k : ℕ) (xs : List Asked) → asked_at k (at_place k xs) ≡ xs
own_only k [] = refl
own_only k (x ∷ xs) = rw (same_number k) (ap (λ l. x ∷ l) (own_only k xs))

other_none : (k m : ℕ) → m ≢ k → (xs : List Asked) → asked_at k (at_place m xs) ≡ []
other_none k m h [] = refl
other_none k m h (x ∷ xs) = rw (other_number k m h) (other_none k m h xs)

pub asked_at-append : (k : ℕ) (xs ys : List AskedOf) → asked_at k (xs ++ ys) ≡ asked_at k xs ++ asked_at k ys
asked_at-append k xs ys =
    ap (map (λ a. a.1)) (filter-append (λ a. a.0 == k) xs ys)
    ∙ map-append (λ a. a.1) (filter (λ a. a.0 == k) xs) (filter (λ a. a.0 == k) ys)

pub at_own : (k : ℕ) (asked : List AskedOf) (xs : List Asked) → asked_at k (asked ++ at_place k xs) ≡ asked_at k asked ++ xs
at_own k asked xs = asked_at-append k asked (at_place k xs) ∙ ap (λ l. asked_at k asked ++ l) (own_only k xs)

pub at_other : (k m : ℕ) → m ≢ k → (asked : List AskedOf) (xs : List Asked) → asked_at k (asked ++ at_place m xs) ≡ asked_at k asked
at_other k m h asked xs =
    asked_at-append k asked (at_place m xs) ∙ ap (λ l. asked_at k asked ++ l) (other_none k m h xs) ∙ append-nil (asked_at k asked)

-- changes go together, as a law of histories says
abbrev pub GoTogether : Type 0
GoTogether = (xs ys : List Asked) (one two three : CallerView) → Asks one xs two → Asks two ys three → Asks one (xs ++ ys) three

abbrev pub AddEntries : Type 0
AddEntries = (asked : List Asked) (old new : CallerView) → Asks old asked new → new.opening ≡ old.opening

abbrev pub IsGot : Type 0
IsGot = (old new : CallerView) (c : Change) (reply : At Answer) → ChangesAt old c (Some reply) new → Gets old c reply.value new

-- one change was asked for, with this answer
pub asks_one : IsGot → (old new : CallerView) (c : Change) (reply : At Answer) (a : Answer) → ChangesAt old c (Some reply) new → reply.value ≡ a
    → Asks old ((c, a) ∷ []) new
asks_one got old new c reply a h e = (new, subst (λ x. Gets old c x new) e (got old new c reply h), refl)

pub asks_one_as : IsGot → (old new : CallerView) (c wanted : Change) (reply : At Answer) (a : Answer) → c ≡ wanted → ChangesAt old c (Some reply) new → reply.value ≡ a
    → Asks old ((wanted, a) ∷ []) new
asks_one_as got old new c wanted reply a same h e = subst (λ x. Asks old ((x, a) ∷ []) new) same (asks_one got old new c reply a h e)

module _ {W F : Type 0} (view : W → CallerView) (folder : W → F) where
  -- a folder was asked for the change that an Index or an IndexUpdate is, with this answer
  pub asks_index : IsGot → (old between new : ReaderFolder W) (peer : Identity) (files : List FileInfo) (is_whole kind : Bool) (c : Change)
      → (first reply : At (Result (Unit {0}) FullHistory)) (a : Answer) → is_whole ≡ kind → c ≡ announced_change kind peer files → new ≡ between → reply ≡ first
      → index_value reply.value ≡ a → folder between.calls ≡ folder old.calls → ChangesAt (view old.calls) c (Some (answer_at index_value first)) (view between.calls)
      → AsksOne view folder ((announced_change is_whole peer files, a) ∷ []) old new
  asks_index got old between new peer files is_whole kind c first reply a by_kind same is reply_is e keeps h =
      let wanted = announced_change is_whole peer files in
      let wants : c ≡ wanted = same ∙ ap (λ (b : Bool). announced_change b peer files) (sym by_kind) in
      let answer : index_value first.value ≡ a = ap (λ (r : At (Result (Unit {0}) FullHistory)). index_value r.value) (sym reply_is) ∙ e in
      let asked = asks_one_as got (view old.calls) (view between.calls) c wanted (answer_at index_value first) a wants h answer in
      subst (λ (f : ReaderFolder W). AsksOne view folder ((wanted, a) ∷ []) old f) (sym is) (keeps, asked)

  -- no folder was asked for anything
  pub each_same : (k : ℕ) (fs : List (ReaderFolder W)) → AsksEach view folder k [] fs fs
  each_same k [] = tt
  each_same k (f ∷ fs) = ((refl, refl), each_same (k + 1) fs)

  -- what a folder before them was asked for
  pub each_other : (k m : ℕ) → m < k → (asked : List AskedOf) (xs : List Asked) (fs gs : List (ReaderFolder W))
      → AsksEach view folder k asked fs gs → AsksEach view folder k (asked ++ at_place m xs) fs gs
  each_other k m h asked xs [] [] e = tt
  each_other k m h asked xs (f ∷ fs) [] e = e
  each_other k m h asked xs [] (g ∷ gs) e = e
  each_other k m h asked xs (f ∷ fs) (g ∷ gs) e =
      let apart : m ≢ k = λ same. absurd (omega (arith, h, same)) in
      let later : m < k + 1 = omega arith in (
        (e.0.0, subst (λ l. Asks (view f.calls) l (view g.calls)) (sym (at_other k m apart asked xs)) e.0.1),
        each_other (k + 1) m later asked xs fs gs e.1,
      )

  -- a folder was asked for more
  pub one_more : GoTogether → (f g h : ReaderFolder W) (asked xs : List Asked)
      → AsksOne view folder asked f g → AsksOne view folder xs g h → AsksOne view folder (asked ++ xs) f h
  one_more together f g h asked xs a b = (b.0 ∙ a.0, together asked xs _ _ _ a.1 b.1)

  pub each_more : GoTogether → (k : ℕ) (asked : List AskedOf) (olds news : List (ReaderFolder W)) (i : ℕ) (g h : ReaderFolder W) (xs : List Asked)
      → AsksEach view folder k asked olds news → slice_get news i ≡ Some g → AsksOne view folder xs g h
      → AsksEach view folder k (asked ++ at_place (k + i) xs) olds (set news i h)
  each_more together k asked [] [] i g h xs e there one = cc
  each_more together k asked (o ∷ os) [] i g h xs e there one = absurd e
  each_more together k asked [] (n ∷ ns) i g h xs e there one = absurd e
  each_more together k asked (o ∷ os) (n ∷ ns) zero g h xs e there one =
      let place : k ≡ k + 0 = omega arith in
      let same : n ≡ g = cc in
      let first = one_more together o n h (asked_at k asked) xs e.0 (subst (λ (x : ReaderFolder W). AsksOne view folder xs x h) (sym same) one) in
      subst (λ (p : ℕ). AsksEach view folder k (asked ++ at_place p xs) (o ∷ os) (h ∷ ns)) place (
        (first.0, subst (λ l. Asks (view o.calls) l (view h.calls)) (sym (at_own k asked xs)) first.1),
        each_other (k + 1) k (omega arith) asked xs os ns e.1,
      )
  each_more together k asked (o ∷ os) (n ∷ ns) (suc i) g h xs e there one =
      let place : (k + 1) + i ≡ k + suc i = omega arith in
      let apart : k + suc i ≢ k = λ same. absurd (omega (arith, same)) in (
        (e.0.0, subst (λ l. Asks (view o.calls) l (view n.calls)) (sym (at_other k (k + suc i) apart asked xs)) e.0.1),
        subst (λ (p : ℕ). AsksEach view folder (k + 1) (asked ++ at_place p xs) os (set ns i h)) place
            (each_more together (k + 1) asked os ns i g h xs e.1 there one),
      )

  -- the peer is still none of the folders' own device
  apart_each : AddEntries → (peer : Identity) (k : ℕ) (asked : List AskedOf) (olds news : List (ReaderFolder W))
      → AsksEach view folder k asked olds news → AllByRecursion (IsApart view peer) olds → AllByRecursion (IsApart view peer) news
  apart_each opening peer k asked [] [] e all = tt
  apart_each opening peer k asked (o ∷ os) [] e all = absurd e
  apart_each opening peer k asked [] (n ∷ ns) e all = absurd e
  apart_each opening peer k asked (o ∷ os) (n ∷ ns) e all = (
    (λ same. all.0 (same ∙ ap (λ s. s.me) (opening (asked_at k asked) (view o.calls) (view n.calls) e.0.1))),
    apart_each opening peer (k + 1) asked os ns e.1 all.1,
  )

  pub each_apart : AddEntries → (peer : Identity) (k : ℕ) (asked : List AskedOf) (olds news : List (ReaderFolder W))
      → AsksEach view folder k asked olds news → All (IsApart view peer) olds → All (IsApart view peer) news
  each_apart opening peer k asked olds news e all =
      All-from_recursion (IsApart view peer) news (apart_each opening peer k asked olds news e (recursion_from_All (IsApart view peer) olds all))

  -- a reader that stops at a change that is due in one sense, where it is so in another
  pub stops_as : (P Q : Change → Type 0) → ((c : Change) → P c → Q c) → (old new : ReaderFolder W) (why : ReaderStop)
      → StopsOne view folder P old new why → StopsOne view folder Q old new why
  stops_as P Q leads old new stop.HistoryFull h = (h.0, (h.1.0, leads h.1.0 h.1.1, h.1.2))
  stops_as P Q leads old new stop.OutOfMemory h = h
  stops_as P Q leads old new stop.InputEnded h = h
  stops_as P Q leads old new (stop.Read kind) h = h
  stops_as P Q leads old new (stop.Closed reason) h = h
  stops_as P Q leads old new (stop.Fault fault) h = h
  stops_as P Q leads old new stop.TimedOut h = h
