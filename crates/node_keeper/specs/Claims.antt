-- What a peer may have been told of this device's records (own rule).
use Rattle.std.specs.Prelude.{ℕ, Bool, max, nat_le}

-- up to this sequence: of those that were on the disk when the node began, up to the first one; or by this node, up to the second one
abbrev pub may_be_told : ℕ → ℕ → ℕ → Bool
may_be_told opened told claimed = nat_le claimed (max opened told)
