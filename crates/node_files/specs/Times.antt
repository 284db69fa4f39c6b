-- Moments in nanoseconds.
use Rattle.std.specs.Prelude.{ℤ, pos, ◌+ℤ◌, ◌*ℤ◌}
use Rattle.std.specs.Int.{saturate_signed, w64}

-- nanoseconds since 1970, as far as they fit
abbrev pub time_of : ℤ → ℤ → ℤ
time_of seconds nanoseconds = saturate_signed w64 (saturate_signed w64 (seconds *ℤ pos 1000000000) +ℤ nanoseconds)
