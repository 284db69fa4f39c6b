use Rattle.std.proofs.Common.{◌≡◌, ◌<◌, [], Vec, Global, length, arith, refl, ap, ◌∙◌}
use Rattle.sync_blocks.specs.declared.block.Block.{Block}
use Rattle.sync_blocks.specs.BlockList.{block_at}
use Rattle.sync_blocks.proofs.Filled.{one_more, taken_more, read_none}
use Rattle.sync_blocks.proofs.BlockLists.{blocks_of_none, list_from_start, known_all}
use Rattle.sync_blocks.proofs.reading.blocks_of.Goals as goal
use Rattle.sync_blocks.proofs.reading.blocks_of.Goals.{then-size-eq0+in_ok-push_empty_block, else-size-eq0}

pub returns-in_err-fill-clause-taken : goal.returns-in_err-fill-clause-taken
returns-in_err-fill-clause-taken g c =
    let read = c.in_ok-list.ensures.read in
    taken_more _ _ _ read.0 read.1 c.fill.ensures.taken

pub returns-then-branch-gt0-clause-taken : goal.returns-then-branch-gt0-clause-taken
returns-then-branch-gt0-clause-taken g c =
    let read = c.in_ok-list.ensures.read in
    taken_more _ _ _ read.0 read.1 c.fill.ensures.taken

pub returns-then-branch-gt0-clause-long : goal.returns-then-branch-gt0-clause-long
returns-then-branch-gt0-clause-long g c = λ _.
    let read = c.in_ok-list.ensures.read in
    let long : length read.0 ≡ c.args.size = read.2 in
    one_more _ _ _ read.0 c.fill.new.buffer c.args.size c.in_ok-fill.field-0 long c.if-branch-gt0.true c.in_ok-fill.ensures.bound c.fill.auto.buffer read.1 c.in_ok-fill.ensures.bytes

pub returns-clause-blocks : goal.returns-clause-blocks
returns-clause-blocks g c =
    let read = c.in_ok-list.ensures.read in
    let s = c.args.block_size in
    let long : length read.0 ≡ c.args.size = read.2 in
    let items = λ (v : Vec Block Global). v.items in (
      read.0,
      read_none _ _ _ read.0 c.fill.new.buffer c.in_ok-fill.field-0 c.if-branch-gt0.false read.1 c.in_ok-fill.ensures.bytes,
      read.2,
      elim c.if-size-eq0.branch [
        | then-size-eq0+in_ok-push_empty_block w ↦
            ap items w.list-is ∙ w.in_ok-push_empty_block.ensures s
            ∙ blocks_of_none read.0 s c.requires (long ∙ w.if-size-eq0.true) c.in_ok-list.list.items (block_at [] s 0) read.3 refl
        | else-size-eq0 w ↦
            let more : 0 < length read.0 = omega (arith, long, w.if-size-eq0.false) in
            ap items w.list-is ∙ read.3 ∙ list_from_start read.0 s c.requires more
      ],
    )

pub returns-clause-known : goal.returns-clause-known
returns-clause-known g c =
    known_all _ _ c.args.size c.args.block_size c.if-size-eq0.list.items (returns-clause-blocks g c)
    (c.in_ok-fill.ensures.end (omega arith))
