-- When a file was modified (own rule).
use Rattle.std.specs.Prelude.{ℕ, ℤ, pos, negsuc, nat_le, if◌then◌else◌}
use Rattle.sync_version.specs.declared.moment.TheConstants.Moment.{MAX_SECONDS}

-- the moment of so many seconds since 1970; 0 if they are before 1970, or after the last moment
abbrev pub moment_of : ℤ → ℕ
moment_of (pos seconds) = if nat_le seconds MAX_SECONDS then seconds else 0
moment_of (negsuc before) = 0
