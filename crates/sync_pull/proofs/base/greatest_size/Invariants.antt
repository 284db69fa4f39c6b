use Rattle.std.proofs.Common.{ℕ, ◌<◌, ◌≤◌, get_or}
use Rattle.sync_blocks.specs.declared.block.Block.{Block}
use Rattle.sync_pull.proofs.base.greatest_size.Given as goal

abbrev pub invariant-loop-block : goal.invariant-loop-block
invariant-loop-block l = (k : ℕ) (d : Block) → k < l.block-index → (get_or l.blocks k d).size ≤ l.greatest
