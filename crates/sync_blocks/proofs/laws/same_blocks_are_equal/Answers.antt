use Rattle.sync_blocks.proofs.Blocks.{same_block_tells}
use Rattle.sync_blocks.proofs.laws.same_blocks_are_equal.Goals as goal

pub returns : goal.returns
returns c = same_block_tells
