use Rattle.std.proofs.Common.{rules, arith}
use Rattle.std.proofs.lemmas.Grind.{common_steps}
use Rattle.sync_blocks.proofs.Tilings.{holds_from}
use Rattle.sync_blocks.proofs.tiling.tiles.Goals as goal

pub returns-else-only-eq0-clause-holds : goal.returns-else-only-eq0-clause-holds
returns-else-only-eq0-clause-holds c = holds_from _ c.args.blocks.now c.args.size c.args.block_size (search rules)

pub returns-in_default-clause-holds : goal.returns-in_default-clause-holds
returns-in_default-clause-holds c = holds_from c.covers.result c.args.blocks.now c.args.size c.args.block_size (grind (arith, common_steps))
