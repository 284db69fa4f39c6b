use Rattle.std.proofs.Common.{◌≡◌, ℕ, ◌*◌, ◌/◌, ◌≤◌, [], max, map, length, List, ap, arith}
use Rattle.std.specs.List.{range_with_len}
use Rattle.sync_blocks.specs.Groups.{blocks_from, group_bytes, placed_block}
use Rattle.sync_blocks.specs.declared.reading.TheConstants.{MAX_GROUP_BYTES}
use Rattle.sync_blocks.proofs.BlockLists.{list_from_start, no_blocks}
use Rattle.sync_blocks.proofs.Groups.{parts_joined}
use Rattle.sync_blocks.proofs.laws.parts_make_the_block_list.Goals as goal

pub returns-clause-none : goal.returns-clause-none
returns-clause-none c first s some = ap (λ k. map (λ i. placed_block first [] s i) (range_with_len 0 k)) (no_blocks s some)

pub returns-clause-joined : goal.returns-clause-joined
returns-clause-joined c first front back s n some whole = parts_joined first front back s n some whole

pub returns-clause-whole : goal.returns-clause-whole
returns-clause-whole c bytes s some more = list_from_start bytes s some more

pub returns-clause-group : goal.returns-clause-group
returns-clause-group c s = (max 1 (MAX_GROUP_BYTES / s), grind arith)
