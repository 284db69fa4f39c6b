-- The identities of the two peers (own rule).
use Rattle.std.specs.Prelude.{◌∷◌, ◌++◌, replicate}
use Rattle.bepd_pair.specs.declared.command.Side.{Side}
use Rattle.bepd_pair.specs.declared.command.Side.TheVariants.{A, B}
use Rattle.sync_record.specs.Devices.{Identity}

-- 8 bytes of the number 1 or 2, and 24 bytes 0
abbrev pub identity_of : Side → Identity
identity_of A = replicate 7 0 ++ 1 ∷ replicate 24 0
identity_of B = replicate 7 0 ++ 2 ∷ replicate 24 0
