-- The command lines of `bepd` (own rule): `best FOLDER`, `pair`, `run --config FILE`, `ask --config FILE COMMAND`, `status --config FILE`, `new DIRECTORY` with what is for Syncthing, and calls for help and the version. How words become commands and
-- values is the rule of `clap`.
use Rattle.std.specs.Prelude.{◌≡◌, ◌≢◌, ◌⊎◌, ⊤, Bool, true, false, ◌==◌, List, [], ◌∷◌, Option, Some, None, Result, Ok, Err, String, Vec, option_and_then, option_map, codes, map, if◌then◌else◌, bytes_eq}
use Rattle.std.specs.declared.alloc.Global.{Global}
use Rattle.std.specs.IoError.{error_kind}
use Rattle.std.specs.String.{string_bytes}
use Rattle.std.specs.declared.io.Error.{Error as IoError}
use Rattle.std.specs.declared.io.ErrorKind.TheVariants as io
use Rattle.clap.specs.Words.{App, Kinds, IsAmong, Row, Rule, Text, fault_of, first_of, new_app, new_rule, subcommand_of, with_rule, with_subcommand}
use Rattle.clap.specs.Simple.{on_top}
use Rattle.clap.specs.declared.error.kind.ErrorKind.{ErrorKind}
use Rattle.clap.specs.declared.error.kind.ErrorKind.TheVariants.{DisplayHelp, DisplayVersion, MissingSubcommand, OutOfMemory}
use Rattle.clap.specs.declared.builder.action.ArgAction.TheVariants.{SetTrue}
use Rattle.bepd_new.specs.declared.purpose.NewWords.{NewWords}
use Rattle.bepd_run.specs.declared.asking.AskWords.{AskWords}
use Rattle.bepd.specs.declared.command.RunWords.{RunWords}
use Rattle.bepd.specs.declared.command.Request.{Request}
use Rattle.bepd.specs.declared.command.Request.TheVariants as request

abbrev pub folder_rule : Rule
folder_rule = record (new_rule (codes "FOLDER")) { required = true }

abbrev pub best_app : App
best_app = with_rule (new_app (codes "best")) folder_rule

abbrev pub pair_app : App
pair_app = new_app (codes "pair")

abbrev pub config_rule : Rule
config_rule = record (new_rule (codes "config")) { long = Some (codes "config"); value_names = 1; required = true }

abbrev pub check_rule : Rule
check_rule = record (new_rule (codes "check")) { long = Some (codes "check"); action = Some SetTrue }

abbrev pub quiet_rule : Rule
quiet_rule = record (new_rule (codes "quiet")) { long = Some (codes "quiet"); action = Some SetTrue }

abbrev pub no_input_rule : Rule
no_input_rule = record (new_rule (codes "no-input")) { long = Some (codes "no-input"); action = Some SetTrue }

abbrev pub verbose_rule : Rule
verbose_rule = record (new_rule (codes "verbose")) { long = Some (codes "verbose"); action = Some SetTrue }

abbrev pub run_app : App
run_app = with_rule (with_rule (with_rule (with_rule (with_rule (new_app (codes "run")) config_rule) check_rule) quiet_rule) no_input_rule) verbose_rule

abbrev pub command_rule : Rule
command_rule = record (new_rule (codes "COMMAND")) { required = true }

abbrev pub about_rule : Rule
about_rule = new_rule (codes "FOLDER")

abbrev pub ask_app : App
ask_app = with_rule (with_rule (with_rule (new_app (codes "ask")) config_rule) command_rule) about_rule

abbrev pub json_rule : Rule
json_rule = record (new_rule (codes "json")) { long = Some (codes "json"); action = Some SetTrue }

abbrev pub watch_rule : Rule
watch_rule = record (new_rule (codes "watch")) { long = Some (codes "watch"); action = Some SetTrue }

abbrev pub status_app : App
status_app = with_rule (with_rule (with_rule (new_app (codes "status")) config_rule) json_rule) watch_rule

abbrev pub directory_rule : Rule
directory_rule = record (new_rule (codes "DIRECTORY")) { required = true }

abbrev pub syncthing_rule : Rule
syncthing_rule = record (new_rule (codes "syncthing")) { long = Some (codes "syncthing"); action = Some SetTrue }

abbrev pub dial_rule : Rule
dial_rule = record (new_rule (codes "dial")) { long = Some (codes "dial"); value_names = 1 }

abbrev pub listen_rule : Rule
listen_rule = record (new_rule (codes "listen")) { long = Some (codes "listen"); value_names = 1 }

abbrev pub shared_rule : Rule
shared_rule = record (new_rule (codes "folder")) { long = Some (codes "folder"); value_names = 1 }

abbrev pub fresh_app : App
fresh_app = with_rule (with_rule (with_rule (with_rule (with_rule (new_app (codes "new")) directory_rule) syncthing_rule) dial_rule) listen_rule) shared_rule

abbrev pub bepd_app : App
bepd_app = with_subcommand (with_subcommand (with_subcommand (with_subcommand (with_subcommand (with_subcommand (on_top (λ s. record s { has_version = true }) (new_app (codes "bepd"))) best_app.top) pair_app.top) run_app.top) fresh_app.top) ask_app.top) status_app.top

-- the value of an argument, where the command has this name
abbrev pub value_at : Text → Text → Option (Text × List Row) → Option Text
value_at name argument command = option_and_then (λ c. if bytes_eq c.0 name then first_of argument c.1 else None) command

-- the value of FOLDER, where the command is `best`
abbrev pub folder_at : Option (Text × List Row) → Option Text
folder_at command = value_at (codes "best") (codes "FOLDER") command

-- the value of `--config`, where the command is `run`
abbrev pub config_at : Option (Text × List Row) → Option Text
config_at command = value_at (codes "run") (codes "config") command

-- the value of `--check`, where the command is `run`
abbrev pub check_at : Option (Text × List Row) → Option Text
check_at command = value_at (codes "run") (codes "check") command

-- the value of `--quiet`, where the command is `run`
abbrev pub quiet_at : Option (Text × List Row) → Option Text
quiet_at command = value_at (codes "run") (codes "quiet") command

-- the value of `--no-input`, where the command is `run`
abbrev pub no_input_at : Option (Text × List Row) → Option Text
no_input_at command = value_at (codes "run") (codes "no-input") command

-- the value of `--verbose`, where the command is `run`
abbrev pub verbose_at : Option (Text × List Row) → Option Text
verbose_at command = value_at (codes "run") (codes "verbose") command

-- the value of `--config`, where the command is `ask`
abbrev pub ask_config_at : Option (Text × List Row) → Option Text
ask_config_at command = value_at (codes "ask") (codes "config") command

-- the value of COMMAND, where the command is `ask`
abbrev pub ask_command_at : Option (Text × List Row) → Option Text
ask_command_at command = value_at (codes "ask") (codes "COMMAND") command

-- the value of FOLDER, where the command is `ask`
abbrev pub ask_folder_at : Option (Text × List Row) → Option Text
ask_folder_at command = value_at (codes "ask") (codes "FOLDER") command

-- the value of `--config`, where the command is `status`
abbrev pub status_config_at : Option (Text × List Row) → Option Text
status_config_at command = value_at (codes "status") (codes "config") command

-- the value of `--json`, where the command is `status`
abbrev pub json_at : Option (Text × List Row) → Option Text
json_at command = value_at (codes "status") (codes "json") command

-- the value of `--watch`, where the command is `status`
abbrev pub watch_at : Option (Text × List Row) → Option Text
watch_at command = value_at (codes "status") (codes "watch") command

-- the value of DIRECTORY, where the command is `new`
abbrev pub directory_at : Option (Text × List Row) → Option Text
directory_at command = value_at (codes "new") (codes "DIRECTORY") command

-- the value of `--syncthing`, where the command is `new`
abbrev pub syncthing_at : Option (Text × List Row) → Option Text
syncthing_at command = value_at (codes "new") (codes "syncthing") command

-- the value of `--dial`, where the command is `new`
abbrev pub dial_at : Option (Text × List Row) → Option Text
dial_at command = value_at (codes "new") (codes "dial") command

-- the value of `--listen`, where the command is `new`
abbrev pub listen_at : Option (Text × List Row) → Option Text
listen_at command = value_at (codes "new") (codes "listen") command

-- the value of `--folder`, where the command is `new`
abbrev pub shared_at : Option (Text × List Row) → Option Text
shared_at command = value_at (codes "new") (codes "folder") command

abbrev pub is_true : Option Text → Bool
is_true None = false
is_true (Some value) = bytes_eq value (codes "true")

-- the command is `pair`
abbrev pub is_pair : Option (Text × List Row) → Bool
is_pair None = false
is_pair (Some c) = bytes_eq c.0 (codes "pair")

-- what is wrong with the words; help and the version count as wrong here
abbrev pub faults : List Text → Kinds
faults words = fault_of bepd_app words

-- the words name this folder
abbrev pub IsGiven : List Text → Text → Type 0
IsGiven words folder = (faults words ≡ []) × (folder_at (subcommand_of bepd_app words) ≡ Some folder)

-- the words call for two peers
abbrev pub IsPairGiven : List Text → Type 0
IsPairGiven words = (faults words ≡ []) × (is_pair (subcommand_of bepd_app words) ≡ true)

-- the words call for a node by the configuration in this file, or only for what it would do
abbrev pub IsRunGiven : List Text → Text → Bool → Type 0
IsRunGiven words path check = (faults words ≡ []) × (config_at (subcommand_of bepd_app words) ≡ Some path)
    × (is_true (check_at (subcommand_of bepd_app words)) ≡ check)

-- the node is to tell nothing, or what happens
abbrev pub IsQuiet : List Text → Bool → Type 0
IsQuiet words quiet = is_true (quiet_at (subcommand_of bepd_app words)) ≡ quiet

-- the node is to read no commands from its input, or those
abbrev pub HasNoInput : List Text → Bool → Type 0
HasNoInput words none = is_true (no_input_at (subcommand_of bepd_app words)) ≡ none

-- the node is to tell each name that is pulled or recorded, or not
abbrev pub IsVerbose : List Text → Bool → Type 0
IsVerbose words verbose = is_true (verbose_at (subcommand_of bepd_app words)) ≡ verbose

-- the words call for a node by the configuration in this file, which reads commands or not, and tells each name or not
abbrev pub IsNodeGiven : List Text → RunWords → Bool → Type 0
IsNodeGiven words run quiet = IsRunGiven words run.path.now false × IsQuiet words quiet × HasNoInput words run.has_no_input × IsVerbose words run.is_verbose

-- the command `ask` has these values, and is asked once
abbrev pub IsAskedBy : Option (Text × List Row) → AskWords → Type 0
IsAskedBy command ask = (ask_config_at command ≡ Some ask.config.now) × (ask_command_at command ≡ Some ask.command.now)
    × (ask_folder_at command ≡ option_map (λ s. s.now) ask.folder) × (ask.is_watched ≡ false)

-- it is another one, or lacks one of those that it must have
abbrev pub IsNotAsked : Option (Text × List Row) → Type 0
IsNotAsked command = (ask_config_at command ≡ None) ⊎ (ask_command_at command ≡ None)

-- the command `status` asks for `status` of the run by this configuration, as one JSON document exactly if `--json` is given, and again each second exactly if
-- `--watch` is
abbrev pub IsStatusBy : Option (Text × List Row) → AskWords → Type 0
IsStatusBy command ask = (status_config_at command ≡ Some ask.config.now) × (ask.command.now ≡ codes "status")
    × (option_map (λ s. s.now) ask.folder ≡ (if is_true (json_at command) then Some (codes "json") else None)) × (is_true (watch_at command) ≡ ask.is_watched)

-- it is another one
abbrev pub IsNoStatus : Option (Text × List Row) → Type 0
IsNoStatus command = status_config_at command ≡ None

-- the words ask for a command of a run: the configuration of that, the word of the command, and the folder that it is about; or for how all is there
abbrev pub IsAskGiven : List Text → AskWords → Type 0
IsAskGiven words ask = (faults words ≡ []) × (IsAskedBy (subcommand_of bepd_app words) ask ⊎ IsStatusBy (subcommand_of bepd_app words) ask)

-- the words call for a first configuration: its directory, whether its peer has Syncthing, where that is or is to connect, and a folder
abbrev pub IsNewGiven : List Text → NewWords → Type 0
IsNewGiven words new =
    (faults words ≡ [])
    × (directory_at (subcommand_of bepd_app words) ≡ Some new.directory.now)
    × (is_true (syncthing_at (subcommand_of bepd_app words)) ≡ new.is_for_syncthing)
    × (dial_at (subcommand_of bepd_app words) ≡ option_map (λ s. s.now) new.dial)
    × (listen_at (subcommand_of bepd_app words) ≡ option_map (λ s. s.now) new.listen)
    × (shared_at (subcommand_of bepd_app words) ≡ option_map (λ s. s.now) new.folder)

-- the words name this command
abbrev pub IsNamed : List Text → Request → Type 0
IsNamed words (request.Best folder) = IsGiven words folder.now
IsNamed words request.Pair = IsPairGiven words
IsNamed words (request.Run run) = IsNodeGiven words run false
IsNamed words (request.QuietRun run) = IsNodeGiven words run true
IsNamed words (request.Check path) = IsRunGiven words path.now true
IsNamed words (request.Ask ask) = IsAskGiven words ask
IsNamed words (request.New new) = IsNewGiven words new
IsNamed words _ = ⊥

-- the words name no command, for this reason
abbrev pub IsErrorAt : List Text → ErrorKind → Type 0
IsErrorAt words kind = (kind ≡ OutOfMemory)
    ⊎ (IsAmong kind (faults words)
    ⊎ ((folder_at (subcommand_of bepd_app words) ≡ None) × (is_pair (subcommand_of bepd_app words) ≡ false)
    × (config_at (subcommand_of bepd_app words) ≡ None) × (directory_at (subcommand_of bepd_app words) ≡ None)
    × IsNotAsked (subcommand_of bepd_app words) × IsNoStatus (subcommand_of bepd_app words) × (kind ≡ MissingSubcommand)))

-- the answer to such words
abbrev pub IsAnswered : ErrorKind → Request → Type 0
IsAnswered kind (request.Best folder) = ⊥
IsAnswered kind request.Pair = ⊥
IsAnswered kind (request.Run run) = ⊥
IsAnswered kind (request.QuietRun run) = ⊥
IsAnswered kind (request.Check path) = ⊥
IsAnswered kind (request.Ask ask) = ⊥
IsAnswered kind (request.New new) = ⊥
IsAnswered kind (request.Text text) = (kind ≡ DisplayHelp) ⊎ (kind ≡ DisplayVersion)
IsAnswered kind (request.Refused text) = (kind ≢ DisplayHelp) × (kind ≢ DisplayVersion) × (kind ≢ OutOfMemory)
IsAnswered kind request.OutOfMemory = ⊤

-- what the words ask for
abbrev pub IsAsked : List Text → Request → Type 0
IsAsked words (request.Best folder) = IsGiven words folder.now
IsAsked words request.Pair = IsPairGiven words
IsAsked words (request.Run run) = IsNodeGiven words run false
IsAsked words (request.QuietRun run) = IsNodeGiven words run true
IsAsked words (request.Check path) = IsRunGiven words path.now true
IsAsked words (request.Ask ask) = IsAskGiven words ask
IsAsked words (request.New new) = IsNewGiven words new
IsAsked words asked = (kind : ErrorKind) × IsErrorAt words kind × IsAnswered kind asked

-- and words that can't be read: only out of memory isn't their fault
abbrev pub IsUnread : IoError → Request → Type 0
IsUnread error request.OutOfMemory = ⊤
IsUnread error (request.Refused text) = error_kind error ≢ io.OutOfMemory
IsUnread error _ = ⊥

abbrev pub IsRequested : Result (Vec (String Global) Global) IoError → Request → Type 0
IsRequested (Ok words) asked = IsAsked (map string_bytes words.items) asked
IsRequested (Err error) asked = IsUnread error asked

-- the words ask for a node that tells what happens
abbrev pub AreForTelling : Result (Vec (String Global) Global) IoError → Type 0
AreForTelling words = (run : RunWords) × IsRequested words (request.Run run)

-- the words were read, and are these
abbrev pub IsCommandLine : Result (Vec (String Global) Global) IoError → List Text → Type 0
IsCommandLine (Ok words) line = map string_bytes words.items ≡ line
IsCommandLine (Err error) line = ⊥

-- a word that begins so (45) may be an option
abbrev pub begins_with_hyphen : Text → Bool
begins_with_hyphen [] = false
begins_with_hyphen (b ∷ bs) = b == 45
