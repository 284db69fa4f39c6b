-- What the peer says of the folders of a connection, and when another connection is to begin (own rule).
use Rattle.std.specs.Prelude.{◌≡◌, ◌==◌, ◌&&◌, ◌||◌, ℕ, Bool, true, false, not, bytes_eq, if◌then◌else◌, List, [], ◌∷◌, Option, Some, None, length, slice_set}
use Rattle.std.specs.Bool.{beq}
use Rattle.std.specs.List.{slice_get}
use Rattle.bep_messages.specs.declared.cluster_config.ClusterConfig.{ClusterConfig}
use Rattle.bep_messages.specs.declared.folder.Folder.{Folder}
use Rattle.peer_conn.specs.Configs.{folder_in}
use Rattle.peer_link.specs.declared.told.Anew.{Anew}
use Rattle.peer_link.specs.declared.told.Told.{Told}
use Rattle.peer_link.specs.declared.told.ToldFolder.{ToldFolder}
use Rattle.peer_reader.specs.Effects.{index_told}
use Rattle.peer_reader.specs.declared.folder.ReaderFolder.{ReaderFolder}
use Rattle.sync_record.specs.Devices.{Identity}

-- whether the peer shares the folder, has paused it, and the number of its index of it
abbrev pub told_of : ℕ → Option Folder → Told
told_of index None = record { is_shared = false; is_paused = false; index_id = 0 }
told_of index (Some f) = record { is_shared = true; is_paused = f.paused; index_id = index }

abbrev pub told_in : Identity → ClusterConfig → List ℕ → Told
told_in peer config id = told_of (index_told peer config id) (folder_in id config)

-- before the first ClusterConfig
abbrev pub untold : {W : Type 0} → ReaderFolder W → ToldFolder
untold f = record { id = f.id; first = told_of 0 None; is_lost = false }

-- at the first one
abbrev pub begun : Identity → ClusterConfig → ToldFolder → ToldFolder
begun peer config f = record f { first = told_in peer config f.id }

abbrev pub Begins : Identity → ClusterConfig → List ToldFolder → List ToldFolder → Type 0
Begins peer config olds news =
    (length news ≡ length olds) × ((k : ℕ) (f : ToldFolder) → slice_get olds k ≡ Some f → slice_get news k ≡ Some (begun peer config f))

abbrev pub is_same : Told → Told → Bool
is_same a b = beq a.is_shared b.is_shared && beq a.is_paused b.is_paused && (a.index_id == b.index_id)

abbrev pub differs : Identity → ClusterConfig → ToldFolder → Bool
differs peer config f = not (is_same (told_in peer config f.id) f.first)

abbrev pub is_of : List ℕ → ToldFolder → Bool
is_of id f = bytes_eq f.id id

-- records of the folder at a place were passed over
abbrev pub Loses : ℕ → List ToldFolder → List ToldFolder → Type 0
Loses k olds news = (f : ToldFolder) × (slice_get olds k ≡ Some f) × (news ≡ slice_set olds k (record f { is_lost = true }))

-- a later ClusterConfig says another thing of some folders
abbrev pub lost_by : Identity → ClusterConfig → ToldFolder → ToldFolder
lost_by peer config f = record f { is_lost = f.is_lost || differs peer config f }

abbrev pub LosesDiffering : Identity → ClusterConfig → List ToldFolder → List ToldFolder → Type 0
LosesDiffering peer config olds news =
    (length news ≡ length olds) × ((k : ℕ) (f : ToldFolder) → slice_get olds k ≡ Some f → slice_get news k ≡ Some (lost_by peer config f))

-- the first reason counts
abbrev pub or_else : Option Anew → Anew → Option Anew
or_else None why = Some why
or_else (Some first) why = Some first

-- no number is kept of a folder that lost records
abbrev pub without_number : {W : Type 0} → ToldFolder → ReaderFolder W → ReaderFolder W
without_number t f = if t.is_lost then record f { kept_index_id = 0 } else f

abbrev pub WithoutNumber : {W : Type 0} → List ToldFolder → List (ReaderFolder W) → List (ReaderFolder W) → Type 0
WithoutNumber {W} told olds news =
    (length news ≡ length olds) × ((k : ℕ) (t : ToldFolder) (f : ReaderFolder W) → slice_get told k ≡ Some t → slice_get olds k ≡ Some f → slice_get news k ≡ Some (without_number t f))
