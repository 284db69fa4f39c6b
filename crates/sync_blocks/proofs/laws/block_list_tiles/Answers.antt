use Rattle.sync_blocks.proofs.BlockLists.{list_tiles}
use Rattle.sync_blocks.proofs.laws.block_list_tiles.Goals as goal

pub returns : goal.returns
returns c = list_tiles
