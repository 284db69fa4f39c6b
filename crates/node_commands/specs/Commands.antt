-- The commands of a node, as lines without their line feed (own rule).
use Rattle.std.specs.Prelude.{ℕ, List, ◌++◌, codes}
use Rattle.node_commands.specs.declared.command.Command.{Command}
use Rattle.node_commands.specs.declared.command.Command.TheVariants.{Best, Conflicts, Folders, History, Local, Need, Peers, Quit, Scan, Skipped, Status, StatusJson, StatusPage, Verify}

-- the line that asks for it; the rest of the line after the space is the folder's id
abbrev pub command_text : Command → List ℕ
command_text (Scan id) = codes "scan " ++ id.now
command_text (Need id) = codes "need " ++ id.now
command_text (Skipped id) = codes "skipped " ++ id.now
command_text (Best id) = codes "best " ++ id.now
command_text (Local id) = codes "local " ++ id.now
command_text (Conflicts id) = codes "conflicts " ++ id.now
command_text Folders = codes "folders"
command_text Peers = codes "peers"
command_text Status = codes "status"
command_text StatusJson = codes "status json"
command_text StatusPage = codes "status page"
command_text (History id) = codes "history " ++ id.now
command_text (Verify id) = codes "verify " ++ id.now
command_text Quit = codes "quit"
