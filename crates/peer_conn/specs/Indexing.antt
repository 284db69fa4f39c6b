-- What an indexer tells of the folders that are shared with the peer (Block Exchange Protocol v1, "Index" and "Index Update"; from where
-- it tells, and in which order, are own rules).
use Rattle.std.specs.Prelude.{◌≡◌, ⊤, ℕ, Bool, List, [], ◌∷◌, ◌++◌, Option, Some, None, IsSome, set, slice_get}
use Rattle.std.specs.List.{AllZip}
use Rattle.bep_frames.specs.declared.frame.Message.{Message}
use Rattle.bep_frames.specs.declared.frame.Message.TheVariants as message
use Rattle.bep_messages.specs.declared.cluster_config.ClusterConfig.{ClusterConfig}
use Rattle.folder_calls.specs.Shared.{CallerView, Sees, now}
use Rattle.folder_core.specs.Reads.{known}
use Rattle.index_sender.specs.Pages.{Progress, sending_from}
use Rattle.peer_conn.specs.Configs.{folder_in, start_in}
use Rattle.peer_conn.specs.Turns.{GivesMessage}
use Rattle.peer_conn.specs.declared.indexer.IndexerFolder.{IndexerFolder}
use Rattle.peer_conn.specs.declared.indexer.IndexerEnd.{IndexerEnd}
use Rattle.peer_conn.specs.declared.indexer.IndexerEnd.TheVariants.{Closed, Gone, OutOfMemory}

abbrev pub IsPing : Message → Type 0
IsPing (message.Ping p) = ⊤
IsPing m = ⊥

module _ {C : Type 0} (gives : C → Option ClusterConfig → C → Type 0) where
  -- that no ClusterConfig will come any more was said last
  abbrev pub EndsFor : IndexerEnd → C → Type 0
  EndsFor Closed to = (before : C) × gives before None to
  EndsFor Gone to = ⊤
  EndsFor OutOfMemory to = ⊤

-- From where a folder is told: if the peer's ClusterConfig has it, as that says, by this device's greatest sequence at a point that the
-- caller knew; else not at all.
abbrev pub BeginsAt : {W : Type 0} → (W → CallerView) → ClusterConfig → IndexerFolder W → Option Progress → Type 0
BeginsAt view config f None = folder_in f.id config ≡ None
BeginsAt view config f (Some s) =
    IsSome (folder_in f.id config) × (point : CallerView) × Sees (view f.calls) point
    × (s ≡ sending_from (start_in config f.id point.opening.me f.index_id (known (now point) point.opening.me)))

module _ {W F : Type 0} (folder : W → F) (view : W → CallerView) (says : F → ℕ → Type 0) where
  -- What was put of folders that are told from there: pages, each the next of its folder by what its caller then knew, with no record above what was
  -- said of the folder to be kept, and Pings. How far each folder was told, and how far it is told then.
  pub data Tells (fs : List (IndexerFolder W)) (start : List (Option Progress)) : List (Option Progress) → List Message → Type 0 where
    nothing : Tells fs start start []
    page : (told : List (Option Progress)) (more : List Message) (i : ℕ) (f : IndexerFolder W) (old new : Progress) (v : CallerView) (kept : ℕ) (is_waiting : Bool) (m : Message)
        → Tells fs start told more → slice_get fs i ≡ Some f → slice_get told i ≡ Some (Some old) → Sees (view f.calls) v → says (folder f.calls) kept
        → GivesMessage f.id kept v old new is_waiting (Some m) → Tells fs start (set told i (Some new)) (more ++ m ∷ [])
    no_page : (told : List (Option Progress)) (more : List Message) (i : ℕ) (f : IndexerFolder W) (old new : Progress) (v : CallerView) (kept : ℕ) (is_waiting : Bool)
        → Tells fs start told more → slice_get fs i ≡ Some f → slice_get told i ≡ Some (Some old) → Sees (view f.calls) v → says (folder f.calls) kept
        → GivesMessage f.id kept v old new is_waiting None → Tells fs start (set told i (Some new)) more
    ping : (told : List (Option Progress)) (more : List Message) (m : Message) → Tells fs start told more → IsPing m → Tells fs start told (more ++ m ∷ [])

  module _ {C : Type 0} (gives : C → Option ClusterConfig → C → Type 0) where
    -- What is put once this device's ClusterConfig was: nothing where none of the peer comes, or memory is out; else what is told of the
    -- folders that the peer's has.
    pub data TellsPeer (from to : C) (fs : List (IndexerFolder W)) : List Message → IndexerEnd → Type 0 where
      unanswered : gives from None to → TellsPeer from to fs [] Closed
      no_memory : TellsPeer from to fs [] OutOfMemory
      told : (peer : ClusterConfig) (mid : C) (start end : List (Option Progress)) (more : List Message) (why : IndexerEnd) → gives from (Some peer) mid
          → AllZip (BeginsAt view peer) fs start → Tells fs start end more → EndsFor gives why to → TellsPeer from to fs more why

    -- all that an indexer puts
    pub data Indexes (config : ClusterConfig) (from to : C) (fs : List (IndexerFolder W)) (before : List Message) : List Message → IndexerEnd → Type 0 where
      not_begun : Indexes config from to fs before before Gone
      begun : (more : List Message) (why : IndexerEnd) → TellsPeer from to fs more why → Indexes config from to fs before (before ++ message.ClusterConfig config ∷ more) why
