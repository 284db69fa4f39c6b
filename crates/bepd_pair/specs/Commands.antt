-- The grammar of the commands (own rule). A line has no line feed.
use Rattle.std.specs.Prelude.{◌≡◌, ◌≤◌, codes, IsUtf8}
use Rattle.bepd_pair.specs.declared.command.Side.{Side}
use Rattle.bepd_pair.specs.declared.command.Side.TheVariants.{A, B}
use Rattle.bepd_pair.specs.declared.command.Command.{Command}
use Rattle.bepd_pair.specs.declared.command.Command.TheVariants.{Time, Sync, At}
use Rattle.bepd_pair.specs.declared.command.Action.{Action}
use Rattle.bepd_pair.specs.declared.command.Action.TheVariants.{Put, MakeDir, Delete, Conflicts, Scan, Pull, Show}
use Rattle.sync_version.specs.declared.moment.TheConstants.Moment.{MAX_SECONDS}
use Rattle.bepd_pair.specs.Words.{IsDecimal, IsLimit, IsWord, Text, spaced}

abbrev pub letter_of : Side → Text
letter_of A = codes "A"
letter_of B = codes "B"

-- the first word of a command to a peer
abbrev pub word_of : Action → Text
word_of (Put name text) = codes "put"
word_of (MakeDir name) = codes "mkdir"
word_of (Delete name) = codes "del"
word_of (Conflicts most) = codes "conflicts"
word_of Scan = codes "scan"
word_of Pull = codes "pull"
word_of Show = codes "show"

-- the peer's letter is all that follows the word
abbrev pub IsPlain : Action → Type 0
IsPlain Scan = Unit {0}
IsPlain Pull = Unit {0}
IsPlain Show = Unit {0}
IsPlain _ = ⊥

-- what follows the peer's letter; the text of a file goes to the end of the line
abbrev pub IsArgument : Action → Text → Type 0
IsArgument (Put name text) argument = (argument ≡ spaced name.now text.now) × IsWord name.now
IsArgument (MakeDir name) argument = (argument ≡ name.now) × IsWord name.now
IsArgument (Delete name) argument = (argument ≡ name.now) × IsWord name.now
IsArgument (Conflicts most) argument = IsLimit argument most
IsArgument _ argument = ⊥

-- what follows the first word
abbrev pub IsRest : Side → Action → Text → Type 0
IsRest side Scan rest = rest ≡ letter_of side
IsRest side Pull rest = rest ≡ letter_of side
IsRest side Show rest = rest ≡ letter_of side
IsRest side action rest = (argument : Text) × (rest ≡ spaced (letter_of side) argument) × IsArgument action argument

abbrev pub IsTextOf : Text → Command → Type 0
IsTextOf line Sync = line ≡ codes "sync"
IsTextOf line (Time moment) = (word : Text) × (line ≡ spaced (codes "time") word) × IsDecimal word moment × (moment ≤ MAX_SECONDS)
IsTextOf line (At side action) = (rest : Text) × (line ≡ spaced (word_of action) rest) × IsRest side action rest

-- the line is this command
abbrev pub IsLineOf : Text → Command → Type 0
IsLineOf line command = IsUtf8 line × IsTextOf line command
