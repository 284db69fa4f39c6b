-- Which lines are refused before anything is done (own rule).
use Rattle.std.specs.Prelude.{◌≡◌, ◌≢◌, ◌⊎◌, None, List, Result, Err, string_bytes, ⊤}
use Rattle.sync_scan.specs.declared.sum.ScanSum.{ScanSum}
use Rattle.node_folder.specs.declared.folder.FolderWorker.{FolderWorker}
use Rattle.node_commands.specs.Commands.{command_text}
use Rattle.node_commands.specs.Folders.{IsOfNoFolder}
use Rattle.node_commands.specs.declared.command.Command.{Command}
use Rattle.node_commands.specs.declared.lines.InputLine.{InputLine}
use Rattle.node_commands.specs.declared.lines.InputLine.TheVariants.{Line, NoMemory, End, Over, Failed}
use Rattle.node_commands.specs.declared.refusal.Refusal.{Refusal}
use Rattle.node_commands.specs.declared.refusal.Refusal.TheVariants.{OutOfMemory, UnknownCommand, UnknownFolder}

-- A line that is no command is refused as that; one that is a command, if it is about a folder that isn't there; and one for which memory ran out.
abbrev pub Refuses : {S W : Type 0} → List (FolderWorker S W) → InputLine → Result (Unit {0}) Refusal → Type 0
Refuses folders (Line text) answered =
    (((c : Command) → string_bytes text ≢ command_text c) × (answered ≡ Err UnknownCommand))
    ⊎ ((c : Command) × (string_bytes text ≡ command_text c) × (IsOfNoFolder folders c → answered ≡ Err UnknownFolder))
Refuses folders NoMemory answered = answered ≡ Err OutOfMemory
Refuses folders End answered = ⊤
Refuses folders Over answered = ⊤
Refuses folders (Failed kind) answered = ⊤

-- a scan stopped before its end, or left names out
abbrev pub IsCut : ScanSum → Type 0
IsCut sum = (sum.stopped ≢ None) ⊎ (sum.other ≢ 0)
