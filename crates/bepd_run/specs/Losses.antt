-- What is lost of the lines that can't be written, and how that is told (own rule).
use Rattle.std.specs.Prelude.{ℕ, ◌+◌, ◌-◌, ◌^◌, ◌==◌, Bool, false, cond, not, min, List, [], ◌++◌, length, slice_get, codes, decimal, count_by, Option, None, Some}
use Rattle.bepd_run.specs.declared.losses.Losses.{Losses}

-- whether a line is open, after these bytes
abbrev pub open_by : Bool → Option ℕ → Bool
open_by is_open None = is_open
open_by is_open (Some byte) = not (byte == 10)

abbrev pub open_after : Bool → List ℕ → Bool
open_after is_open bytes = open_by is_open (slice_get bytes (length bytes - 1))

-- how many lines end among these bytes
abbrev pub lines_of : List ℕ → ℕ
lines_of bytes = count_by (λ byte. byte == 10) bytes

-- up to 2^64 - 1
abbrev pub lines_more : ℕ → List ℕ → ℕ
lines_more lines bytes = min (lines + lines_of bytes) (2 ^ 64 - 1)

-- these bytes are lost too
abbrev pub lost : Losses → List ℕ → Losses
lost l bytes = record l { lines = lines_more l.lines bytes; is_cut = open_after l.is_cut bytes }

-- these bytes were written
abbrev pub written : Losses → List ℕ → Losses
written l bytes = record l { is_open = open_after l.is_open bytes }

-- a line of its own
abbrev pub notice : Losses → List ℕ
notice l = cond l.is_open (codes "\n(") (codes "(") ++ (decimal l.lines ++ codes " lines left out)\n")

-- what is to be written before anything else
abbrev pub to_tell : Losses → List ℕ
to_tell l = cond (l.lines == 0) [] (notice l)

-- all is told
abbrev pub told : Losses → Losses
told l = cond (l.lines == 0) l (record l { lines = 0; is_open = false })
