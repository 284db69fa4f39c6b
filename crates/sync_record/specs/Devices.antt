-- Devices (Block Exchange Protocol v1, "Device ID").
use Rattle.std.specs.Prelude.{ℕ, List, take}
use Rattle.std.specs.Int.{w64, from_be_bytes}
use Rattle.std.specs.Ordering.{nat_cmp}
use Rattle.std.specs.Cmp.Lexicographic.{slice_cmp}
use Rattle.std.specs.declared.cmp.Ordering.{Ordering}

-- a device's identity, as its 32 bytes
abbrev pub Identity : Type 0
Identity = List ℕ

-- texts, names and identities are ordered by their bytes
abbrev pub bytes_cmp : List ℕ → List ℕ → Ordering
bytes_cmp = slice_cmp nat_cmp

-- the first eight bytes as a big-endian number
abbrev pub short_id : Identity → ℕ
short_id device = from_be_bytes w64 (take 8 device)
