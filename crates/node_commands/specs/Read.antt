-- How far the lines of the commands are read (own rule).
use Rattle.std.specs.Prelude.{◌≡◌, ◌≢◌, List, [], ◌∷◌, All, codes, string_bytes, ⊤}
use Rattle.std.specs.declared.io.ErrorKind.{ErrorKind}
use Rattle.node_commands.specs.declared.answer.CommandsEnd.{CommandsEnd}
use Rattle.node_commands.specs.declared.answer.CommandsEnd.TheVariants.{Read, Stopped}
use Rattle.node_commands.specs.declared.lines.InputLine.{InputLine}
use Rattle.node_commands.specs.declared.lines.InputLine.TheVariants.{Line, NoMemory, End, Over, Failed}

-- the last that is read: `quit`, the end of the commands, or that of those that someone else gives, or that they can't be read any more
abbrev pub IsLast : InputLine → Type 0
IsLast (Line text) = string_bytes text ≡ codes "quit"
IsLast NoMemory = ⊥
IsLast End = ⊤
IsLast Over = ⊤
IsLast (Failed kind) = ⊤

-- the commands end well with it: `quit`, or their end, or that of those that someone else gives
abbrev pub IsEnd : InputLine → Type 0
IsEnd (Line text) = string_bytes text ≡ codes "quit"
IsEnd NoMemory = ⊥
IsEnd End = ⊤
IsEnd Over = ⊤
IsEnd (Failed kind) = ⊥

-- they fail with it, by this error: they can't be read any more, or what is answered to it can't be written
abbrev pub FailsAt : InputLine → ErrorKind → Type 0
FailsAt (Line text) error = string_bytes text ≢ codes "quit"
FailsAt NoMemory error = ⊤
FailsAt End error = ⊥
FailsAt Over error = ⊥
FailsAt (Failed kind) error = error ≡ kind

-- Lines are given, each with what may come after it.
module _ {L : Type 0} (gives : L → InputLine → L → Type 0) where
  -- these were given, one after another
  abbrev pub AreGiven : L → List InputLine → L → Type 0
  AreGiven from [] to = to ≡ from
  AreGiven from (line ∷ more) to = (next : L) × gives from line next × AreGiven next more to

  -- some were given, and none of them is the last
  abbrev pub ArePassed : L → L → Type 0
  ArePassed from to = (lines : List InputLine) × All (λ line. ¬ IsLast line) lines × AreGiven from lines to

  -- how the commands ended: after these the one came that ends them; or these are all
  abbrev pub AreReadTo : L → CommandsEnd → L → Type 0
  AreReadTo from Read to = (before : L) × (line : InputLine) × ArePassed from before × gives before line to × IsEnd line
  AreReadTo from Stopped to = ArePassed from to

  -- after these the one came at which they fail
  abbrev pub AreReadUntil : L → ErrorKind → L → Type 0
  AreReadUntil from error to = (before : L) × (line : InputLine) × ArePassed from before × gives before line to × FailsAt line error
