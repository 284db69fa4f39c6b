-- What is left to test is the rest of the blocks, from the offset that was reached.
use Rattle.std.proofs.Common.{◌≡◌, [], ◌∷◌, ◌++◌, drop}
use Rattle.sync_blocks.specs.Tiling.{tiles_from}
use Rattle.sync_blocks.proofs.tiling.covers.Given as goal

abbrev pub invariant-loop-block : goal.invariant-loop-block
invariant-loop-block l =
    tiles_from 0 l.blocks l.size l.block_size ≡ tiles_from l.at (drop l.block-index l.full ++ l.last ∷ []) l.size l.block_size
