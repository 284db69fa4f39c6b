use Rattle.std.proofs.Common.{◌≡◌, map, take}
use Rattle.sync_record.specs.Infos.{block_info_of}
use Rattle.sync_record.proofs.info.write_blocks.Given as goal

abbrev pub invariant-loop-block : goal.invariant-loop-block
invariant-loop-block l = l.infos.items ≡ map block_info_of (take l.block-index l.blocks)
