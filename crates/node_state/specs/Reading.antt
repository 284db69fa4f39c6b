-- The bytes that fields of a number hold, one after the other, and what they make of a state.
use Rattle.std.specs.Prelude.{◌≡◌, ◌≢◌, ◌∷◌, ◌++◌, ℕ, List, [], None, Option, length, map, AllPairs}
use Rattle.bep_messages.specs.Contents.{byte_lists, contents}
use Rattle.bep_messages.specs.declared.fault.MessageFault.{MessageFault}
use Rattle.bep_messages.specs.Faults.{message_fault}
use Rattle.bep_messages.specs.Tables.{◌▹◌, ◌is◌, Table, End, Int64, Uint64, Words, Values}
use Rattle.bep_messages.specs.Values.{value}
use Rattle.std.specs.List.{AllByRecursion}
use Rattle.bep_wire.specs.Fields.{fields}
use Rattle.folder_core.specs.Restores.{records_of}
use Rattle.folder_core.specs.States.{IsFolder}
use Rattle.sync_names.specs.Refusal.{refusal}
use Rattle.sync_record.specs.Infos.{info_of, record_of}
use Rattle.sync_record.specs.Devices.{Identity}
use Rattle.sync_record.specs.Records.{FileRecord}
use Rattle.node_state.specs.declared.edition.Edition.{Edition}
use Rattle.node_state.specs.declared.edition.Edition.TheVariants.{First, Second}
use Rattle.node_state.specs.declared.front.Front.{Front}
use Rattle.node_state.specs.declared.state.StoredFolder.{StoredFolder}
use Rattle.node_state.specs.Meaning.{IsAllowed, IsEntry, Told, announced, line, peer_of, told_first, told_second}
use Rattle.node_state.specs.Written.{kept_peers}
use Rattle.node_state.specs.Tables.{entry_table, peer_table, folder_table, first_folder_table}

abbrev pub held : ℕ → List ℕ → List (List ℕ)
held number bytes = byte_lists (contents number (fields bytes).items)

-- no field of the number is left, and no fault
abbrev pub HoldsNone : ℕ → List ℕ → Type 0
HoldsNone number bytes = (held number bytes ≡ []) × ((fields bytes).fault ≡ None)

-- the first field of the number holds these bytes, and then come others
abbrev pub HoldsFirst : ℕ → List ℕ → List ℕ → List ℕ → Type 0
HoldsFirst number bytes first rest = (held number bytes ≡ first ∷ held number rest) × ((fields bytes).fault ≡ (fields rest).fault)

-- after the first line comes a folder, also one that can't be read
pub record HasFolder (text : List ℕ) : Type 0 where
  pub edition : Edition
  pub body : List ℕ
  pub begins : text ≡ line edition ++ body
  pub some : held 1 body ≢ []

-- ---- a folder without its lists

abbrev pub front_table : Table
front_table =
    (1 is Words)  -- id
    ▹ (2 is Uint64)  -- index_id
    ▹ (3 is Int64)  -- last
    ▹ End

abbrev pub front_parts : Front → Values front_table
front_parts f = (f.id, (f.index_id, (f.last, tt)))

abbrev pub front_of : Values front_table → Front
front_of (id, (index_id, (last, none))) = record { id = id; index_id = index_id; last = last }

-- ---- the lists of a folder

abbrev pub peers_held : Edition → List ℕ → List (List ℕ)
peers_held First bytes = []
peers_held Second bytes = held 5 bytes

abbrev pub entry_pairs : List ℕ → List (Identity × FileRecord)
entry_pairs bytes = map (λ b. announced (value entry_table b)) (held 4 bytes)

abbrev pub peer_pairs : Edition → List ℕ → List (Identity × ℕ)
peer_pairs edition bytes = map (λ b. peer_of (value peer_table b)) (peers_held edition bytes)

-- no two pairs are of one device
abbrev pub AreOnce : List (Identity × ℕ) → Type 0
AreOnce ps = AllPairs (λ p q. p.0 ≢ q.0) ps

-- ---- what is right

abbrev pub IsGoodEntry : List ℕ → Type 0
IsGoodEntry bytes = (message_fault entry_table bytes ≡ None) × IsEntry (value entry_table bytes)

abbrev pub IsGoodPeer : List ℕ → Type 0
IsGoodPeer bytes = (message_fault peer_table bytes ≡ None) × (length (value peer_table bytes).0 ≡ 32)

abbrev pub folder_fault : Edition → List ℕ → Option MessageFault
folder_fault First bytes = message_fault first_folder_table bytes
folder_fault Second bytes = message_fault folder_table bytes

abbrev pub folder_told : Edition → List ℕ → Told
folder_told First bytes = told_first (value first_folder_table bytes)
folder_told Second bytes = told_second (value folder_table bytes)

abbrev pub IsGoodFolder : Identity → Edition → List ℕ → Type 0
IsGoodFolder me edition bytes = (folder_fault edition bytes ≡ None) × IsAllowed me (folder_told edition bytes)

-- ---- what is written is read as it was

-- a device's record: the device has 32 bytes, the name is safe, and the record's message has this record
pub record IsReadBack (p : Identity × FileRecord) : Type 0 where
  pub device : length p.0 ≡ 32
  pub name : refusal (info_of p.1).name ≡ None
  pub same : record_of (info_of p.1) ≡ p.1

-- a folder whose records and peers are read back
pub record IsWritable (f : StoredFolder) : Type 0 where
  pub folder : IsFolder f.folder
  pub records : AllByRecursion IsReadBack (records_of f.folder)
  pub peers : AllByRecursion (λ p. length p.0 ≡ 32) (kept_peers f.peers)
