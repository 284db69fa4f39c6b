-- The line that says what a fault is, and the one that says that a key is none.
use Rattle.std.specs.Prelude.{ℕ, List, [], ◌++◌, codes, Option, Some, None}
use Rattle.std.specs.Fmt.{decimal, signed_decimal}
use Rattle.toml_writer.specs.Text.{key_text}
use Rattle.node_config.specs.Keys.{key_name}
use Rattle.node_config.specs.declared.fault.ConfigFault.{ConfigFault}
use Rattle.node_config.specs.declared.fault.ConfigFault.TheVariants.{NotToml, BadKey, OutOfMemory}
use Rattle.node_config.specs.declared.key.Key.{Key}
use Rattle.node_config.specs.declared.key.TablePlace.{TablePlace}
use Rattle.node_config.specs.declared.key.TablePlace.TheVariants.{Node, Folder, Peer}
use Rattle.node_config.specs.declared.key.Problem.{Problem}
use Rattle.node_config.specs.declared.key.Problem.TheVariants.{Absent, NotString, NotInteger, NotLook, NotMode, NotTables, NotStrings, NotDevice, NotDeviceCharacter, Mistyped, OutOfRange, Empty, BeginsWithTilde, Repeats, SameDevice, SameShortId, UnknownFolder, BothAddresses, NoAddress, Inside, OfConfig, OfState, OtherFile}
use Rattle.node_config.specs.declared.unknown.UnknownKey.{UnknownKey}

abbrev pub place_text : TablePlace → List ℕ
place_text Node = []
place_text (Folder number) = codes "folder " ++ (decimal number ++ codes ": ")
place_text (Peer number) = codes "peer " ++ (decimal number ++ codes ": ")

abbrev pub problem_text : Problem → List ℕ
problem_text Absent = codes "is absent"
problem_text NotString = codes "is not a string"
problem_text NotInteger = codes "is not an integer"
problem_text NotLook = codes "is not \"auto\", \"off\", or a number of seconds"
problem_text NotMode = codes "is not three octal digits whose first is 6 or 7, as \"600\""
problem_text NotTables = codes "is not an array of tables: write it in two brackets, as [[folder]]"
problem_text NotStrings = codes "is not an array of strings"
problem_text NotDevice = codes "is neither 64 hexadecimal digits nor a device ID as Syncthing shows it"
problem_text NotDeviceCharacter = codes "has a character that no device ID has"
problem_text (Mistyped group) = codes "is mistyped: its check character " ++ (decimal group ++ codes " of 4 does not fit")
problem_text (OutOfRange low high) = codes "is not from " ++ (signed_decimal low ++ (codes " to " ++ signed_decimal high))
problem_text Empty = codes "is empty"
problem_text BeginsWithTilde = codes "begins with ~, which only a shell reads: write the whole path"
problem_text Repeats = codes "repeats an earlier one"
problem_text SameDevice = codes "is that of another device"
problem_text SameShortId = codes "begins with the same 8 bytes as another device"
problem_text (UnknownFolder entry) = codes "has as number " ++ (decimal entry ++ codes " the id of no folder")
problem_text BothAddresses = codes "and listen are both given"
problem_text NoAddress = codes "and listen are both absent"
problem_text (Inside folder) = codes "is that of folder " ++ (decimal folder ++ codes ", or inside of it")
problem_text OfConfig = codes "is that of the configuration: give it another path"
problem_text OfState = codes "is that of the state, or of a file beside it: give it another path"
problem_text OtherFile = codes "is that of another file: remove it, or give another path"

abbrev pub fault_text : ConfigFault → List ℕ
fault_text (NotToml line) = codes "line " ++ (decimal line ++ codes ": not TOML")
fault_text (BadKey place key problem) = place_text place ++ (key_name key ++ (codes " " ++ problem_text problem))
fault_text OutOfMemory = codes "out of memory"

-- how the line ends, with what may have been meant
abbrev pub ignored_text : Option Key → List ℕ
ignored_text None = codes " is no key, ignored"
ignored_text (Some key) = codes " is no key, ignored; " ++ (key_name key ++ codes "?")

-- the key as TOML writes it: in quotes, where it needs some
abbrev pub unknown_text : UnknownKey → List ℕ
unknown_text unknown = place_text unknown.place ++ (key_text unknown.key ++ ignored_text unknown.near)
