-- What a reader asks of the shared folders (own rule).
use Rattle.std.specs.Prelude.{◌≡◌, ◌≢◌, ⊤, if◌then◌else◌, ℕ, ◌+◌, ◌==◌, true, List, [], ◌∷◌, ◌++◌, map, filter, Option, Some, None}
use Rattle.std.specs.List.{slice_get}
use Rattle.bep_messages.specs.declared.cluster_config.ClusterConfig.{ClusterConfig}
use Rattle.bep_session.specs.declared.event.Event.{Event}
use Rattle.bep_session.specs.declared.event.Event.TheVariants.{PeerHello, PeerConfig, Full, More, Asked as AskedEvent, Answered, UnknownResponse, Skipped, PeerClosed, Ended}
use Rattle.folder_core.specs.declared.answer.Answer.TheVariants.{Applied, HistoryFull}
use Rattle.folder_core.specs.declared.change.Change.{Change}
use Rattle.folder_core.specs.declared.change.Change.TheVariants.{Forget}
use Rattle.folder_core.specs.Steps.{is_accepted}
use Rattle.folder_calls.specs.Adds.{Adds, Asked, Asks}
use Rattle.folder_calls.specs.Shared.{CallerView}
use Rattle.peer_reader.specs.Counts.{one_change}
use Rattle.peer_reader.specs.Effects.{Effect, Heard, Made, after_config_of, after_event, full_of, is_forgotten, more_of, no_effect, place_of}
use Rattle.peer_reader.specs.declared.counts.ReaderCounts.{ReaderCounts}
use Rattle.peer_reader.specs.declared.folder.ReaderFolder.{ReaderFolder}
use Rattle.peer_reader.specs.declared.hearing.Announced.{Announced}
use Rattle.peer_reader.specs.declared.hearing.Passed.{Passed}
use Rattle.peer_reader.specs.declared.hearing.Passed.TheVariants as passed
use Rattle.peer_reader.specs.declared.stop.ReaderStop.{ReaderStop}
use Rattle.peer_reader.specs.declared.stop.ReaderStop.TheVariants as stop
use Rattle.sync_record.specs.Devices.{Identity}

-- a change that a folder was asked for, by the folder's place, with its answer
abbrev pub AskedOf : Type 0
AskedOf = ℕ × Asked

abbrev pub applied : Made → AskedOf
applied m = (m.0, (m.1, Applied))

-- those of the folder at this place, in order
abbrev pub asked_at : ℕ → List AskedOf → List Asked
asked_at k asked = map (λ a. a.1) (filter (λ a. a.0 == k) asked)

-- what is counted of a folder's forget, if it is due
abbrev pub counted_forget : Identity → ClusterConfig → Heard → ReaderCounts → ReaderCounts
counted_forget peer config f c = if is_forgotten peer config f then one_change c else c

-- what a folder is asked for at a ClusterConfig
abbrev pub forget_asked : Identity → ClusterConfig → Heard → List Asked
forget_asked peer config f = if is_forgotten peer config f then (Forget peer, Applied) ∷ [] else []

-- an Index, which has all records of the peer, or an IndexUpdate, which has more
abbrev pub event_of : Announced → Event
event_of a =
    if a.is_whole then Full (record { folder = a.folder; files = a.files }) else More (record { folder = a.folder; files = a.files })

-- of an index of the folder with this id, which has that place
abbrev pub passed_over : List ℕ → Option ℕ → Passed
passed_over id None = passed.Unshared id
passed_over id (Some n) = passed.Nothing

-- what others than the folders are given of an event
abbrev pub passed_of : List Heard → Event → Passed
passed_of fs (PeerConfig config) = passed.Config config
passed_of fs (AskedEvent q) = passed.Asked (place_of q.folder fs) q
passed_of fs (Answered m) = passed.Answered m
passed_of fs (UnknownResponse id) = passed.Unknown id
passed_of fs (PeerHello m) = passed.Nothing
passed_of fs (Full m) = passed_over m.folder (place_of m.folder fs)
passed_of fs (More m) = passed_over m.folder (place_of m.folder fs)
passed_of fs (Skipped kind) = passed.Nothing
passed_of fs (PeerClosed reason) = passed.Nothing
passed_of fs (Ended fault) = passed.Nothing

-- the change that the folder at a place is due at an event, as an option
abbrev pub forget_due : Identity → ClusterConfig → Option Heard → Change → Type 0
forget_due peer config None change = ⊥
forget_due peer config (Some f) change = (is_forgotten peer config f ≡ true) × (change ≡ Forget peer)

abbrev pub IsDue : Identity → List Heard → Event → ℕ → Change → Type 0
IsDue peer fs (PeerConfig config) n change = forget_due peer config (slice_get fs n) change
IsDue peer fs (Full m) n change = (place_of m.folder fs ≡ Some n) × (change ≡ full_of peer m.files)
IsDue peer fs (More m) n change = (place_of m.folder fs ≡ Some n) × (change ≡ more_of peer m.files)
IsDue peer fs _ n change = ⊥

-- what an event came to before the change of the folder at place n
abbrev pub before_change : Identity → List Heard → Event → ℕ → Effect
before_change peer fs (PeerConfig config) n = after_config_of peer config n fs
before_change peer fs _ n = no_effect fs

abbrev pub heard_of : {W : Type 0} → ReaderFolder W → Heard
heard_of f = record { id = f.id; kept = f.kept_index_id; told = f.is_told }

-- the peer is not this device
abbrev pub IsApart : {W : Type 0} → (W → CallerView) → Identity → ReaderFolder W → Type 0
IsApart view peer f = peer ≢ (view f.calls).opening.me

module _ {W F : Type 0} (view : W → CallerView) (folder : W → F) where
  -- the folder was asked for these changes, one after another
  abbrev pub AsksOne : List Asked → ReaderFolder W → ReaderFolder W → Type 0
  AsksOne asked old new = (folder new.calls ≡ folder old.calls) × Asks (view old.calls) asked (view new.calls)

  -- a reader stops at a change of a folder, which is as before: the folder refused it, or memory is out
  abbrev pub StopsOne : (Change → Type 0) → ReaderFolder W → ReaderFolder W → ReaderStop → Type 0
  StopsOne due old new stop.HistoryFull =
      (heard_of new ≡ heard_of old) × ((change : Change) × due change × AsksOne ((change, HistoryFull) ∷ []) old new)
  StopsOne due old new stop.OutOfMemory = (heard_of new ≡ heard_of old) × AsksOne [] old new
  StopsOne due old new _ = ⊥

  -- each folder from this place on was asked for its changes
  abbrev pub AsksEach : ℕ → List AskedOf → List (ReaderFolder W) → List (ReaderFolder W) → Type 0
  AsksEach k asked [] [] = ⊤
  AsksEach k asked (f ∷ fs) [] = ⊥
  AsksEach k asked [] (g ∷ gs) = ⊥
  AsksEach k asked (f ∷ fs) (g ∷ gs) = AsksOne (asked_at k asked) f g × AsksEach (k + 1) asked fs gs

  -- Of the caller of each folder from this place on there are just the entries of its changes that were accepted more, in their order.
  abbrev pub AddsEach : ℕ → List AskedOf → List (ReaderFolder W) → List (ReaderFolder W) → Type 0
  AddsEach k asked [] [] = ⊤
  AddsEach k asked (f ∷ fs) [] = ⊥
  AddsEach k asked [] (g ∷ gs) = ⊥
  AddsEach k asked (f ∷ fs) (g ∷ gs) =
      Adds (view f.calls) (filter (λ a. is_accepted a.1) (asked_at k asked)) (view g.calls) × AddsEach (k + 1) asked fs gs

  -- an event was heard: the folders were asked for its changes, which were made
  pub record HasHeard (peer : Identity) (event : Event) (olds : List (ReaderFolder W)) (counts : ReaderCounts) (given : Passed) (news : List (ReaderFolder W)) (later : ReaderCounts) : Type 0 where
    pub heard : map heard_of news ≡ (after_event peer (map heard_of olds) event).folders
    pub asks : AsksEach 0 (map applied (after_event peer (map heard_of olds) event).made) olds news
    pub counts_are : later ≡ (after_event peer (map heard_of olds) event).count counts
    pub passed_is : given ≡ passed_of (map heard_of olds) event

  -- An event was not heard to its end: its changes before that of the folder at some place were made, and then these were asked for.
  pub record IsCutShort (peer : Identity) (event : Event) (olds : List (ReaderFolder W)) (counts : ReaderCounts) (n : ℕ) (refused : List AskedOf) (news : List (ReaderFolder W)) (later : ReaderCounts) : Type 0 where
    pub heard : map heard_of news ≡ (before_change peer (map heard_of olds) event n).folders
    pub asks : AsksEach 0 (map applied (before_change peer (map heard_of olds) event n).made ++ refused) olds news
    pub counts_are : later ≡ (before_change peer (map heard_of olds) event n).count counts

  -- a reader stops at an event
  abbrev pub Stops : Identity → Event → List (ReaderFolder W) → ReaderCounts → ReaderStop → List (ReaderFolder W) → ReaderCounts → Type 0
  Stops peer event olds counts (stop.Closed reason) news later = (event ≡ PeerClosed reason) × (news ≡ olds) × (later ≡ counts)
  Stops peer event olds counts (stop.Fault fault) news later = (event ≡ Ended fault) × (news ≡ olds) × (later ≡ counts)
  Stops peer event olds counts stop.HistoryFull news later =
      (n : ℕ) × ((change : Change) × IsDue peer (map heard_of olds) event n change
      × IsCutShort peer event olds counts n ((n, (change, HistoryFull)) ∷ []) news later)
  Stops peer event olds counts stop.OutOfMemory news later = (n : ℕ) × IsCutShort peer event olds counts n [] news later
  Stops peer event olds counts stop.InputEnded news later = ⊥
  Stops peer event olds counts (stop.Read kind) news later = ⊥
  Stops peer event olds counts stop.TimedOut news later = ⊥
