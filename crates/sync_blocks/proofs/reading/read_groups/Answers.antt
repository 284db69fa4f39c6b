use Rattle.std.proofs.Common.{◌≡◌, ◌+◌, ◌++◌, rules, arith, length, take, ◌∙◌, length-take-le}
use Rattle.sync_blocks.proofs.Filled.{taken_more}
use Rattle.sync_blocks.proofs.Groups.{group_joined, stays_whole}
use Rattle.std.proofs.KnownBytes.{Consumes-trans}
use Rattle.std.proofs.lemmas.List.{length-append}
use Rattle.sync_blocks.proofs.reading.read_groups.Goals as goal

pub returns-in_err-read_group-clause-taken : goal.returns-in_err-read_group-clause-taken
returns-in_err-read_group-clause-taken g c =
    let read = c.loop-done.invariant.read in
    taken_more _ _ _ read.0 read.1 c.read_group.ensures.taken

pub loop-done-preserved : goal.loop-done-preserved
loop-done-preserved g c =
    let read = c.loop-done.invariant.read in
    let group = c.in_ok-read_group.ensures.read in
    let done = c.loop-done.done in
    let size = c.args.size in
    let s = c.args.block_size in
    let next = c.min-next.result in
    let whole = c.loop-done.invariant.whole in
    let long : length read.0 ≡ done = read.2 in
    let taken : length group.0 ≡ length (take next c.loop-done.buffer) = group.2 in
    let filled : length (take next c.loop-done.buffer) ≡ next = length-take-le next c.loop-done.buffer (omega arith) in
    record {
      read = (
        read.0 ++ group.0,
        Consumes-trans _ _ _ read.0 group.0 read.1 group.1,
        length-append read.0 group.0 ∙ (λ t. long t + (taken ∙ filled) t),
        group_joined read.0 group.0 s done size c.loop-done.blocks.items c.read_group.new.blocks.items c.requires read.2 c.loop-done-test.true whole read.3 group.3,
      );
      within = omega arith;
      whole = stays_whole s done size (length c.loop-done.buffer) next c.requires c.loop-done-test.true whole c.loop-done.invariant.buffer (omega arith);
      buffer = search rules;
    }
