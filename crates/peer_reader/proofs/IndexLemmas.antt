-- An Index or an IndexUpdate of a folder, and events that mean nothing to folders.
use Rattle.std.proofs.Common.{◌≡◌, ◌+◌, ◌++◌, ◌∷◌, [], ℕ, List, Bool, true, false, cond, Option, Some, None, map, length, set, get_or, refl, sym, ◌∙◌, ap, subst, arith}
use Rattle.std.specs.List.{position, position_or_len, prefix_len, slice_get}
use Rattle.std.specs.Prelude.{nat_lt, not}
use Rattle.std.proofs.lemmas.List.{get_or-map, length-map, map-set, set-get_or}
use Rattle.std.proofs.lemmas.Option.{get_or_from_slice_get, slice_get_within}
use Rattle.bep_messages.specs.declared.file_info.FileInfo.{FileInfo}
use Rattle.bep_session.specs.declared.event.Event.{Event}
use Rattle.folder_calls.specs.Adds.{Asked}
use Rattle.folder_calls.specs.Shared.{CallerView}
use Rattle.folder_core.specs.declared.answer.Answer.TheVariants.{Applied, HistoryFull}
use Rattle.folder_core.specs.declared.change.Change.{Change}
use Rattle.peer_reader.proofs.EachLemmas.{GoTogether, at_place, each_more, each_same}
use Rattle.peer_reader.specs.declared.counts.ReaderCounts.{ReaderCounts}
use Rattle.peer_reader.specs.declared.folder.ReaderFolder.{ReaderFolder}
use Rattle.peer_reader.specs.declared.hearing.Passed.{Passed}
use Rattle.peer_reader.specs.declared.stop.ReaderStop.{ReaderStop}
use Rattle.peer_reader.specs.declared.stop.ReaderStop.TheVariants as stop
use Rattle.peer_reader.specs.Effects.{Effect, Heard, after_event, announced_change, asked_effect, full_of, index_effect, is_shared_as, more_of, no_effect, place_of}
use Rattle.peer_reader.specs.Hears.{AsksEach, AsksOne, HasHeard, IsDue, Stops, StopsOne, applied, before_change, event_of, heard_of, passed_of, passed_over}
use Rattle.sync_record.specs.Devices.{Identity}

-- ---- the place of a folder

prefix-map : {A B : Type 0} (p : B → Bool) (f : A → B) (xs : List A) → prefix_len (λ x. not (p x)) (map f xs) ≡ prefix_len (λ x. not (p (f x))) xs
prefix-map p f [] = refl
prefix-map p f (x ∷ xs) = ap (λ (n : ℕ). cond (not (p (f x))) (1 + n) 0) (prefix-map p f xs)

position-map : {A B : Type 0} (p : B → Bool) (f : A → B) (xs : List A) → position p (map f xs) ≡ position (λ x. p (f x)) xs
position-map p f xs =
    ap (λ (n : ℕ). cond (nat_lt n (length (map f xs))) (Some n) None) (prefix-map p f xs)
    ∙ ap (λ (m : ℕ). cond (nat_lt (position_or_len (λ x. p (f x)) xs) m) (Some (position_or_len (λ x. p (f x)) xs)) None) (length-map xs f)

pub place_is : {W : Type 0} (id : List ℕ) (fs : List (ReaderFolder W)) (found : Option ℕ) → found ≡ position (λ f. is_shared_as id (heard_of f)) fs → found ≡ place_of id (map heard_of fs)
place_is id fs found e = e ∙ sym (position-map (is_shared_as id) heard_of fs)

-- a Request, of a shared folder or not
pub asked_is : (fs : List Heard) (o : Option ℕ) → asked_effect fs o ≡ record { folders = fs; made = []; count = (asked_effect fs o).count }
asked_is fs None = refl
asked_is fs (Some i) = refl

-- ---- an Index or an IndexUpdate, of the folder with this id

abbrev announced : Bool → List ℕ → List FileInfo → Event
announced is_whole id files = event_of (record { folder = id; files = files; is_whole = is_whole })

pub announced_effect : (is_whole : Bool) (id : List ℕ) (files : List FileInfo) (peer : Identity) (fs : List Heard) (o : Option ℕ) → place_of id fs ≡ o
    → after_event peer fs (announced is_whole id files) ≡ index_effect (announced_change is_whole peer) files fs o
announced_effect true id files peer fs o placed = ap (λ (p : Option ℕ). index_effect (full_of peer) files fs p) placed
announced_effect false id files peer fs o placed = ap (λ (p : Option ℕ). index_effect (more_of peer) files fs p) placed

pub announced_passed : (is_whole : Bool) (id : List ℕ) (files : List FileInfo) (fs : List Heard) (o : Option ℕ) → place_of id fs ≡ o
    → passed_over id o ≡ passed_of fs (announced is_whole id files)
announced_passed true id files fs o placed = sym (ap (passed_over id) placed)
announced_passed false id files fs o placed = sym (ap (passed_over id) placed)

pub announced_alone : (is_whole : Bool) (id : List ℕ) (files : List FileInfo) (peer : Identity) (fs : List Heard) (n : ℕ)
    → before_change peer fs (announced is_whole id files) n ≡ no_effect fs
announced_alone true id files peer fs n = refl
announced_alone false id files peer fs n = refl

pub announced_due : (is_whole : Bool) (id : List ℕ) (files : List FileInfo) (peer : Identity) (fs : List Heard) (n : ℕ) → place_of id fs ≡ Some n
    → (change : Change) → change ≡ announced_change is_whole peer files → IsDue peer fs (announced is_whole id files) n change
announced_due true id files peer fs n placed change same = (placed, same)
announced_due false id files peer fs n placed change same = (placed, same)

module _ {W F : Type 0} (view : W → CallerView) (folder : W → F) where
  -- ---- events that mean nothing to the folders

  -- an event of which only something is counted
  pub heard_alone : (peer : Identity) (event : Event) (olds : List (ReaderFolder W)) (counts : ReaderCounts) (given : Passed) (later : ReaderCounts) (count : ReaderCounts → ReaderCounts)
      → after_event peer (map heard_of olds) event ≡ record { folders = map heard_of olds; made = []; count = count } → later ≡ count counts → given ≡ passed_of (map heard_of olds) event
      → HasHeard view folder peer event olds counts given olds later
  heard_alone peer event olds counts given later count e counted passes =
      record {
        heard = sym (ap (λ (x : Effect). x.folders) e);
        asks = subst (λ (x : Effect). AsksEach view folder 0 (map applied x.made) olds olds) (sym e) (each_same view folder 0 olds);
        counts_are = counted ∙ sym (ap (λ (x : Effect). x.count counts) e);
        passed_is = passes;
      }

  -- ---- a change of the folder at a place

  same_heard : (i : ℕ) (olds : List (ReaderFolder W)) (f g : ReaderFolder W) → slice_get olds i ≡ Some f → heard_of g ≡ heard_of f → map heard_of (set olds i g) ≡ map heard_of olds
  same_heard i olds f g there same =
      let now : get_or (map heard_of olds) i (heard_of f) ≡ heard_of f
      = get_or-map heard_of olds i f (heard_of f) (slice_get_within olds i f there) ∙ ap heard_of (get_or_from_slice_get olds i f f there) in
      map-set heard_of olds i g ∙ ap (set (map heard_of olds) i) (same ∙ sym now) ∙ set-get_or (map heard_of olds) i (heard_of f)

  asked_alone : GoTogether → (i : ℕ) (olds : List (ReaderFolder W)) (f g : ReaderFolder W) (asked : List Asked) → slice_get olds i ≡ Some f → AsksOne view folder asked f g
      → AsksEach view folder 0 (at_place i asked) olds (set olds i g)
  asked_alone together i olds f g asked there asks =
      let place : 0 + i ≡ i = omega arith in
      subst (λ (p : ℕ). AsksEach view folder 0 (at_place p asked) olds (set olds i g)) place (each_more view folder together 0 [] olds olds i f g asked (each_same view folder 0 olds) there asks)

  -- an event that is one change of the folder at a place
  pub heard_change : GoTogether → (peer : Identity) (event : Event) (i : ℕ) (change : Change) (count : ReaderCounts → ReaderCounts) (olds : List (ReaderFolder W)) (counts : ReaderCounts) (f g : ReaderFolder W) (later : ReaderCounts) (given : Passed)
      → after_event peer (map heard_of olds) event ≡ record { folders = map heard_of olds; made = (i, change) ∷ []; count = count }
      → slice_get olds i ≡ Some f → heard_of g ≡ heard_of f → AsksOne view folder ((change, Applied) ∷ []) f g → later ≡ count counts → given ≡ passed_of (map heard_of olds) event
      → HasHeard view folder peer event olds counts given (set olds i g) later
  heard_change together peer event i change count olds counts f g later given e there same asks counted passes =
      record {
        heard = same_heard i olds f g there same ∙ sym (ap (λ (x : Effect). x.folders) e);
        asks = subst (λ (x : Effect). AsksEach view folder 0 (map applied x.made) olds (set olds i g)) (sym e) (asked_alone together i olds f g ((change, Applied) ∷ []) there asks);
        counts_are = counted ∙ sym (ap (λ (x : Effect). x.count counts) e);
        passed_is = passes;
      }

  -- one that is due, and is refused, or for which memory is out
  pub change_stops : GoTogether → (peer : Identity) (event : Event) (i : ℕ) (wanted : Change) (olds : List (ReaderFolder W)) (counts : ReaderCounts) (f g : ReaderFolder W) (later : ReaderCounts) (why : ReaderStop)
      → before_change peer (map heard_of olds) event i ≡ no_effect (map heard_of olds)
      → ((change : Change) → change ≡ wanted → IsDue peer (map heard_of olds) event i change)
      → slice_get olds i ≡ Some f → StopsOne view folder (λ change. change ≡ wanted) f g why → later ≡ counts
      → Stops view folder peer event olds counts why (set olds i g) later
  change_stops together peer event i wanted olds counts f g later stop.HistoryFull e due there stops counted =
      let change = stops.1.0 in (
        i,
        (
          change,
          due change stops.1.1,
          record {
            heard = same_heard i olds f g there stops.0 ∙ sym (ap (λ (x : Effect). x.folders) e);
            asks = subst (λ (x : Effect). AsksEach view folder 0 (map applied x.made ++ (i, (change, HistoryFull)) ∷ []) olds (set olds i g)) (sym e)
                (asked_alone together i olds f g ((change, HistoryFull) ∷ []) there stops.1.2);
            counts_are = counted ∙ sym (ap (λ (x : Effect). x.count counts) e);
          },
        ),
      )
  change_stops together peer event i wanted olds counts f g later stop.OutOfMemory e due there stops counted = (
    i,
    record {
      heard = same_heard i olds f g there stops.0 ∙ sym (ap (λ (x : Effect). x.folders) e);
      asks = subst (λ (x : Effect). AsksEach view folder 0 (map applied x.made ++ []) olds (set olds i g)) (sym e) (asked_alone together i olds f g [] there stops.1);
      counts_are = counted ∙ sym (ap (λ (x : Effect). x.count counts) e);
    },
  )
  change_stops together peer event i wanted olds counts f g later stop.InputEnded e due there stops counted = stops
  change_stops together peer event i wanted olds counts f g later (stop.Read kind) e due there stops counted = stops
  change_stops together peer event i wanted olds counts f g later (stop.Closed reason) e due there stops counted = absurd stops
  change_stops together peer event i wanted olds counts f g later (stop.Fault fault) e due there stops counted = absurd stops
  change_stops together peer event i wanted olds counts f g later stop.TimedOut e due there stops counted = stops
