use Rattle.sync_blocks.proofs.Tilings.{tiles_is, tiles_within}
use Rattle.sync_blocks.proofs.laws.tiling_is_tested.Goals as goal

pub returns-clause-tested : goal.returns-clause-tested
returns-clause-tested c = tiles_is

pub returns-clause-within : goal.returns-clause-within
returns-clause-within c = tiles_within
