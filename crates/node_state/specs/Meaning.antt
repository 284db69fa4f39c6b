-- What the text of a state file means (own rule).
use Rattle.std.specs.Prelude.{◌≡◌, ◌≢◌, ◌++◌, ℕ, ℤ, List, [], None, Option, length, map, filter, AllPairs}
use Rattle.std.specs.FinMap.{empty, entries, from_entries}
use Rattle.std.specs.List.{AllByRecursion}
use Rattle.bep_messages.specs.declared.fault.MessageFault.{MessageFault}
use Rattle.bep_messages.specs.Faults.{message_fault}
use Rattle.bep_messages.specs.Structs.{file_info}
use Rattle.bep_messages.specs.Tables.{Values}
use Rattle.bep_messages.specs.Values.{value}
use Rattle.folder_core.specs.Restores.{MayRestore, restored_folder}
use Rattle.sync_names.specs.Refusal.{refusal}
use Rattle.sync_record.specs.Devices.{Identity}
use Rattle.sync_record.specs.Infos.{record_of}
use Rattle.sync_record.specs.Records.{FileRecord}
use Rattle.node_state.specs.declared.edition.Edition.{Edition}
use Rattle.node_state.specs.declared.edition.Edition.TheVariants.{First, Second}
use Rattle.node_state.specs.declared.state.State.{State}
use Rattle.node_state.specs.declared.state.StoredFolder.{StoredFolder}
use Rattle.node_state.specs.Peers.{is_kept}
use Rattle.node_state.specs.Tables.{entry_table, peer_table, folder_table, state_table, first_folder_table, first_state_table}
use Rattle.node_state.specs.Written.{first_line, kept_peers, second_line}

-- ---- what is told of a folder, in either version

pub record Told : Type 0 where
  pub id : List ℕ
  pub index_id : ℕ
  pub last : ℤ
  pub entries : List (Values entry_table)
  pub peers : List (Values peer_table)

abbrev pub told_first : Values first_folder_table → Told
told_first v = record { id = v.0; index_id = v.1.0; last = v.1.1.0; entries = v.1.1.1.0; peers = [] }

abbrev pub told_second : Values folder_table → Told
told_second v = record { id = v.0; index_id = v.1.0; last = v.1.1.0; entries = v.1.1.1.0; peers = v.1.1.1.1.0 }

abbrev pub line : Edition → List ℕ
line First = first_line
line Second = second_line

-- what the message after the first line tells, and its fault
abbrev pub told : Edition → List ℕ → List Told
told First body = map told_first (value first_state_table body).0
told Second body = map told_second (value state_table body).0

abbrev pub body_fault : Edition → List ℕ → Option MessageFault
body_fault First body = message_fault first_state_table body
body_fault Second body = message_fault state_table body

-- ---- what is refused of it, and what it is

-- the entry's device has 32 bytes, and its name is safe
abbrev pub IsEntry : Values entry_table → Type 0
IsEntry e = (length e.0 ≡ 32) × (refusal (file_info e.1.0).name ≡ None)

-- what the device announces
abbrev pub announced : Values entry_table → Identity × FileRecord
announced e = (e.0, record_of (file_info e.1.0))

abbrev pub peer_of : Values peer_table → Identity × ℕ
peer_of p = (p.0, p.1.0)

-- nothing of the folder is refused
pub record IsAllowed (me : Identity) (f : Told) : Type 0 where
  pub index_id : f.index_id ≢ 0
  pub entries : AllByRecursion IsEntry f.entries
  pub restores : MayRestore me (map announced f.entries) f.last
  pub devices : AllByRecursion (λ p. length p.0 ≡ 32) f.peers
  pub once : AllPairs (λ p q. p.0 ≢ q.0) f.peers

-- the folder that this device keeps then; a peer with index id 0 has none
abbrev pub stored : Identity → Told → StoredFolder
stored me f = record {
  id = f.id;
  index_id = f.index_id;
  folder = restored_folder me (map announced f.entries) f.last;
  peers = from_entries (filter is_kept (map peer_of f.peers));
}

-- the folder without kept index ids
abbrev pub without_peers : StoredFolder → StoredFolder
without_peers f = record f { peers = empty }

-- To this device the text means this state: after the first line comes a message in which nothing is refused and no two
-- folders have the same id.
pub record Means (me : Identity) (text : List ℕ) (s : State) : Type 0 where
  pub edition : Edition
  pub body : List ℕ
  pub begins : text ≡ line edition ++ body
  pub readable : body_fault edition body ≡ None
  pub allowed : AllByRecursion (IsAllowed me) (told edition body)
  pub once : AllPairs (λ f g. f.id ≢ g.id) (told edition body)
  pub is : s.folders ≡ map (stored me) (told edition body)

-- ---- what is read of a written state

-- the folder's device reads it again: it is this device, and the index id isn't 0
pub record IsOwn (me : Identity) (f : StoredFolder) : Type 0 where
  pub device : f.folder.me ≡ me
  pub index_id : f.index_id ≢ 0

-- nothing of the written state is refused: each folder is this device's own, and no two have the same id
pub record IsReadable (me : Identity) (s : State) : Type 0 where
  pub own : AllByRecursion (IsOwn me) s.folders
  pub once : AllPairs (λ f g. f.id ≢ g.id) s.folders

-- what is written of the folder: no open pull, and no peer of which no number is kept
abbrev pub written_folder : StoredFolder → StoredFolder
written_folder f = record f { folder = record f.folder { pulls = empty }; peers = from_entries (kept_peers f.peers) }

abbrev pub written_state : State → State
written_state s = record { folders = map written_folder s.folders }

-- no pull of the folder is open, and of each of its peers a number is kept: all of it is written
pub record IsClosed (f : StoredFolder) : Type 0 where
  pub pulls : f.folder.pulls ≡ empty
  pub peers : AllByRecursion (λ p. p.1 ≢ 0) (entries f.peers)
