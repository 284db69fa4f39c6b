-- Which folder a command is about (own rule).
use Rattle.std.specs.Prelude.{◌≡◌, ℕ, Bool, List, bytes_eq, position, slice_get, Option, Some, None, IsSomeAnd, Result, Ok, Err}
use Rattle.std.specs.Option.{ok_or}
use Rattle.node_folder.specs.declared.folder.FolderWorker.{FolderWorker}
use Rattle.node_commands.specs.declared.command.Command.{Command}
use Rattle.node_commands.specs.declared.command.Command.TheVariants.{Best, Conflicts, Folders, History, Local, Need, Peers, Quit, Scan, Skipped, Status, StatusJson, StatusPage, Verify}
use Rattle.node_commands.specs.declared.refusal.Refusal.{Refusal}
use Rattle.node_commands.specs.declared.refusal.Refusal.TheVariants.{UnknownFolder}

-- the folder has this id
abbrev pub has_id : {S W : Type 0} → List ℕ → FolderWorker S W → Bool
has_id id worker = bytes_eq worker.folder.now.settings.id id

-- the place of the first folder with this id
abbrev pub place_of : {S W : Type 0} → List ℕ → List (FolderWorker S W) → Result ℕ Refusal
place_of id folders = ok_or (position (has_id id) folders) UnknownFolder

-- this is the first folder with this id
abbrev pub IsFolderOf : {S W : Type 0} → List ℕ → List (FolderWorker S W) → FolderWorker S W → Type 0
IsFolderOf id folders worker = (place : ℕ) × (place_of id folders ≡ Ok place) × (slice_get folders place ≡ Some worker)

-- the id of the folder that a command is about, if it is about one
abbrev pub folder_id : Command → Option (List ℕ)
folder_id (Scan id) = Some id.now
folder_id (Need id) = Some id.now
folder_id (Skipped id) = Some id.now
folder_id (Best id) = Some id.now
folder_id (Local id) = Some id.now
folder_id (Conflicts id) = Some id.now
folder_id Folders = None
folder_id Peers = None
folder_id Status = None
folder_id StatusJson = None
folder_id StatusPage = None
folder_id (History id) = Some id.now
folder_id (Verify id) = Some id.now
folder_id Quit = None

-- it is about a folder that isn't there
abbrev pub IsOfNoFolder : {S W : Type 0} → List (FolderWorker S W) → Command → Type 0
IsOfNoFolder folders command = IsSomeAnd (folder_id command) (λ id. place_of id folders ≡ Err UnknownFolder)
