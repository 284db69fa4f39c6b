-- The lines of an input (own rule).
use Rattle.std.specs.Prelude.{◌≡◌, ℕ, nat_le, if◌then◌else◌, length, Option, Some, None}
use Rattle.bepd_pair.specs.declared.input.Line.{Line}
use Rattle.bepd_pair.specs.Words.{Text}

-- the most bytes of a line, without its line feed
abbrev pub max_line_bytes : ℕ
max_line_bytes = 65536

-- a line as far as it is looked at: a longer one is none
abbrev pub kept_line : Text → Option Text
kept_line bytes = if nat_le (length bytes) max_line_bytes then Some bytes else None

-- these bytes have come of the line
abbrev pub HasCome : Line → Text → Type 0
HasCome line bytes = (if line.is_long then None else Some line.bytes.items) ≡ kept_line bytes
