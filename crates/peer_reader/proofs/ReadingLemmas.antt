-- Events that are heard one after another.
use Rattle.std.proofs.Common.{◌≡◌, ◌++◌, ◌∷◌, [], ℕ, ◌+◌, List, map, filter, refl, sym, ◌∙◌, ap, subst, append_assoc, append-nil}
use Rattle.std.proofs.lemmas.List.{map-append}
use Rattle.bep_session.specs.declared.event.Event.{Event}
use Rattle.folder_core.specs.Steps.{is_accepted}
use Rattle.folder_calls.specs.Adds.{Adds, Asked, Asks}
use Rattle.folder_calls.specs.Shared.{CallerView}
use Rattle.peer_reader.proofs.EachLemmas.{AddEntries, GoTogether, asked_at-append, each_same}
use Rattle.peer_reader.specs.declared.counts.ReaderCounts.{ReaderCounts}
use Rattle.peer_reader.specs.declared.folder.ReaderFolder.{ReaderFolder}
use Rattle.peer_reader.specs.declared.hearing.Passed.{Passed}
use Rattle.peer_reader.specs.Effects.{Heard, after_event}
use Rattle.peer_reader.specs.Hears.{AskedOf, AsksEach, HasHeard, applied, asked_at, heard_of}
use Rattle.peer_reader.specs.Reading.{HasHeardAll, after_events}
use Rattle.sync_record.specs.Devices.{Identity}

-- the history of a folder is of the same opening, as a law says
pub openings : ((asked : List Asked) (old new : CallerView) → Asks old asked new → Adds old (filter (λ m. is_accepted m.1) asked) new) → AddEntries
openings adds asked old new h = ap (λ v. v.opening) (adds asked old new h).same

after_folders : (peer : Identity) (fs : List Heard) (es : List Event) (e : Event)
    → (after_events peer fs (es ++ e ∷ [])).folders ≡ (after_event peer (after_events peer fs es).folders e).folders
after_folders peer fs [] e = refl
after_folders peer fs (x ∷ es) e = after_folders peer (after_event peer fs x).folders es e

after_made : (peer : Identity) (fs : List Heard) (es : List Event) (e : Event)
    → (after_events peer fs (es ++ e ∷ [])).made ≡ (after_events peer fs es).made ++ (after_event peer (after_events peer fs es).folders e).made
after_made peer fs [] e = append-nil (after_event peer fs e).made
after_made peer fs (x ∷ es) e =
    let next = (after_event peer fs x).folders in
    let one = (after_event peer fs x).made in
    ap (λ l. one ++ l) (after_made peer next es e)
    ∙ sym (append_assoc one (after_events peer next es).made (after_event peer (after_events peer next es).folders e).made)

after_count : (peer : Identity) (fs : List Heard) (es : List Event) (e : Event) (c : ReaderCounts)
    → (after_events peer fs (es ++ e ∷ [])).count c ≡ (after_event peer (after_events peer fs es).folders e).count ((after_events peer fs es).count c)
after_count peer fs [] e c = refl
after_count peer fs (x ∷ es) e c = after_count peer (after_event peer fs x).folders es e ((after_event peer fs x).count c)

module _ {W F : Type 0} (view : W → CallerView) (folder : W → F) where
  -- what each folder was asked for, and then for more
  pub each_together : GoTogether → (k : ℕ) (one two : List AskedOf) (fs gs hs : List (ReaderFolder W))
      → AsksEach view folder k one fs gs → AsksEach view folder k two gs hs → AsksEach view folder k (one ++ two) fs hs
  each_together together k one two [] [] [] a b = tt
  each_together together k one two [] [] (h ∷ hs) a b = absurd b
  each_together together k one two [] (g ∷ gs) hs a b = absurd a
  each_together together k one two (f ∷ fs) [] hs a b = absurd a
  each_together together k one two (f ∷ fs) (g ∷ gs) [] a b = absurd b
  each_together together k one two (f ∷ fs) (g ∷ gs) (h ∷ hs) a b =
      let both = together (asked_at k one) (asked_at k two) (view f.calls) (view g.calls) (view h.calls) a.0.1 b.0.1 in (
        (b.0.0 ∙ a.0.0, subst (λ l. Asks (view f.calls) l (view h.calls)) (sym (asked_at-append k one two)) both),
        each_together together (k + 1) one two fs gs hs a.1 b.1,
      )

  -- one event more
  pub heard_more : GoTogether → (peer : Identity) (es : List Event) (e : Event) (olds mids news : List (ReaderFolder W)) (counts before later : ReaderCounts) (given : Passed)
      → HasHeardAll view folder peer es olds counts mids before → HasHeard view folder peer e mids before given news later
      → HasHeardAll view folder peer (es ++ e ∷ []) olds counts news later
  heard_more together peer es e olds mids news counts before later given a b =
      let fs = map heard_of olds in
      let now = after_events peer fs es in
      let same : map heard_of mids ≡ now.folders = a.heard in
      let made = after_made peer fs es e in
      let all = map-append applied now.made (after_event peer now.folders e).made in
      let more = subst (λ l. AsksEach view folder 0 (map applied (after_event peer l e).made) mids news) same b.asks in
      record {
        heard = b.heard ∙ ap (λ l. (after_event peer l e).folders) same ∙ sym (after_folders peer fs es e);
        asks = subst (λ l. AsksEach view folder 0 l olds news) (sym (ap (map applied) made ∙ all))
            (each_together together 0 (map applied now.made) (map applied (after_event peer now.folders e).made) olds mids news a.asks more);
        counts_are = b.counts_are ∙ ap (λ l. (after_event peer l e).count before) same
            ∙ ap (λ c. (after_event peer now.folders e).count c) a.counts_are ∙ sym (after_count peer fs es e counts);
      }

  -- no event yet
  pub heard_no_event : (peer : Identity) (olds : List (ReaderFolder W)) (counts : ReaderCounts) → HasHeardAll view folder peer [] olds counts olds counts
  heard_no_event peer olds counts = record { heard = refl; asks = each_same view folder 0 olds; counts_are = refl }
