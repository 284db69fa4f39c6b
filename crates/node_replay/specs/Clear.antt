-- Why nothing is recovered (own rule): each fault, and what has to hold for it not to lie in what is told.
use Rattle.std.specs.Prelude.{◌≡◌, ◌≢◌, ⊤, ℕ, List, Option, None, IsTrue}
use Rattle.std.specs.List.{AllByRecursion}
use Rattle.bep_messages.specs.declared.file_info.FileInfo.{FileInfo}
use Rattle.folder_core.specs.States.{FolderState, IsFolder}
use Rattle.node_journal.specs.declared.frame.Frame.{Frame}
use Rattle.node_journal.specs.declared.part.Part.{Part}
use Rattle.node_journal.specs.declared.plan.Plan.{Plan}
use Rattle.node_state.specs.declared.state.State.{State}
use Rattle.node_state.specs.declared.state.StoredFolder.{StoredFolder}
use Rattle.sync_names.specs.Refusal.{refusal}
use Rattle.sync_record.specs.Devices.{Identity}
use Rattle.sync_record.specs.Infos.{record_of}
use Rattle.sync_record.specs.Records.{FileRecord}
use Rattle.node_replay.specs.declared.fault.RecoverFault.{RecoverFault}
use Rattle.node_replay.specs.declared.fault.RecoverFault.TheVariants.{UnsafeName, BadPlan, NoIndexId, BadRecords, OutOfMemory}
use Rattle.node_replay.specs.Recovered.{IsRecovered, folder_stored, number_stored, stored_of}
use Rattle.node_replay.specs.Told.{is_pullable, lasts_told, number_after, parts_of, records_told}

-- ---- what the frames say. Memory may be missing wherever there is something to take over.

-- a record that is told: its name is safe
abbrev pub IsClearRecord : RecoverFault → FileInfo → Type 0
IsClearRecord UnsafeName info = refusal info.name ≡ None
IsClearRecord BadPlan info = ⊤
IsClearRecord NoIndexId info = ⊤
IsClearRecord BadRecords info = ⊤
IsClearRecord OutOfMemory info = ⊥

-- a plan: its target's name is safe, and it can be pulled
abbrev pub IsClearPlan : RecoverFault → Plan → Type 0
IsClearPlan UnsafeName p = refusal p.target.name ≡ None
IsClearPlan BadPlan p = IsTrue (is_pullable (record_of p.target))
IsClearPlan NoIndexId p = ⊤
IsClearPlan BadRecords p = ⊤
IsClearPlan OutOfMemory p = ⊥

abbrev pub IsClearPart : RecoverFault → Part → Type 0
IsClearPart e p = AllByRecursion (IsClearRecord e) p.records × AllByRecursion (IsClearPlan e) p.plans

-- ---- a folder, of which this is stored and these parts tell

abbrev pub IsClearFrom : RecoverFault → Identity → Option StoredFolder → List Part → Type 0
IsClearFrom UnsafeName me stored parts = AllByRecursion (IsClearPart UnsafeName) parts
IsClearFrom BadPlan me stored parts = AllByRecursion (IsClearPart BadPlan) parts
IsClearFrom NoIndexId me stored parts = number_after (number_stored stored) parts ≢ 0
IsClearFrom BadRecords me stored parts =
    (t : FolderState) × IsFolder t × IsRecovered (records_told parts) (lasts_told parts) (folder_stored me stored) t
IsClearFrom OutOfMemory me stored parts = ⊥

-- the folder of this id
abbrev pub IsClear : RecoverFault → Identity → State → List Frame → List ℕ → Type 0
IsClear e me state frames id = IsClearFrom e me (stored_of id state.folders) (parts_of id frames)

-- out of memory, or there is no folder with what is told laid over this one
abbrev pub IsNoFolder : List FileRecord → List ℕ → FolderState → RecoverFault → Type 0
IsNoFolder told lasts s UnsafeName = ⊥
IsNoFolder told lasts s BadPlan = ⊥
IsNoFolder told lasts s NoIndexId = ⊥
IsNoFolder told lasts s BadRecords = (t : FolderState) → IsFolder t → ¬ (IsRecovered told lasts s t)
IsNoFolder told lasts s OutOfMemory = ⊤
