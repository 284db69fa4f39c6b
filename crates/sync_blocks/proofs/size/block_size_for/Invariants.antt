-- The size that is looked for is the first that serves of those that are left.
use Rattle.std.proofs.Common.{◌≡◌, ◌*◌, drop}
use Rattle.std.specs.Prelude.{find, nat_lt}
use Rattle.sync_blocks.specs.Sizes.{block_sizes}
use Rattle.sync_blocks.proofs.size.block_size_for.Given as goal

abbrev pub invariant-loop-block_size : goal.invariant-loop-block_size
invariant-loop-block_size l =
    find (λ b. nat_lt l.size (2000 * b)) block_sizes ≡ find (λ b. nat_lt l.size (2000 * b)) (drop l.block_size-index block_sizes)
