use Rattle.std.proofs.Common.{◌≡◌, All, true, map, take}
use Rattle.std.specs.List.{list_all}
use Rattle.sync_record.specs.Validity.{FitsBlockInfo}
use Rattle.sync_record.specs.Infos.{block_of, is_block}
use Rattle.sync_record.proofs.info.read_blocks.Given as goal

-- the blocks so far are those of the message, and each could be one
abbrev pub invariant-loop-info : goal.invariant-loop-info
invariant-loop-info l =
    (l.blocks.items ≡ map block_of (take l.info-index l.infos)) × (list_all is_block (take l.info-index l.infos) ≡ true)
    × All FitsBlockInfo l.blocks.items
