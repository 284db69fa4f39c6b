-- The block that is looked for is the first with bytes of those that are left.
use Rattle.std.proofs.Common.{◌≡◌, drop}
use Rattle.std.specs.Prelude.{find, nat_lt}
use Rattle.node_pull.proofs.beginning.first_with_bytes.Given as goal

abbrev pub invariant-loop-block : goal.invariant-loop-block
invariant-loop-block l = find (λ b. nat_lt 0 b.size) l.blocks ≡ find (λ b. nat_lt 0 b.size) (drop l.block-index l.blocks)
