-- How often a folder is looked at (own rule).
use Rattle.std.specs.Ordering.{int_eq}
use Rattle.std.specs.Prelude.{ℕ, ℤ, pos, ◌*◌, ◌/◌, max, int_lt, unsigned_abs, if◌then◌else◌, Option, Some, None}
use Rattle.folder_look.specs.declared.looking.Looking.{Looking}
use Rattle.folder_look.specs.declared.looking.Looking.TheVariants.{Auto, Each, Off}

-- by a number of seconds: none where it is 0, and as often as costs little where it is less
abbrev pub looking_of : ℤ → Looking
looking_of number = if int_lt number (pos 0) then Auto else if int_eq number (pos 0) then Off else Each (unsigned_abs number)

-- how many milliseconds after a look the next one is: a second at least, so many as it costs, and twenty times as long as it took
abbrev pub pause : Looking → ℕ → ℕ → Option ℕ
pause Auto cost took = Some (max (max 1000 cost) (20 * took))
pause (Each seconds) cost took = Some (1000 * seconds)
pause Off cost took = None

-- a millisecond for each five names
abbrev pub pause_of_all : Looking → ℕ → ℕ → Option ℕ
pause_of_all looking names took = pause looking (names / 5) took

-- a millisecond for each directory
abbrev pub pause_of_directories : Looking → ℕ → ℕ → Option ℕ
pause_of_directories looking directories took = pause looking directories took
