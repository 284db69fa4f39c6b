-- When a name that changed is scanned.
use Rattle.std.specs.Prelude.{ℕ}

-- after so many milliseconds of change it is scanned all the same
abbrev pub LONGEST : ℕ
LONGEST = 30000
