use Rattle.std.proofs.Common.{◌≡◌, ◌+◌, ◌++◌, ◌∙◌, Global, Vec, [], length, take, refl, sym, ap, inr, rules, arith, length-take-le}
use Rattle.std.proofs.lemmas.List.{length-append}
use Rattle.file_store.specs.Sequences.{IsLook, Since, not_called}
use Rattle.file_store.specs.Trees.{bytes_of}
use Rattle.file_store.proofs.SequenceLemmas.{called_on, fills_all_since}
use Rattle.sync_scan.proofs.PartsLemmas.{is-part, is-shorter, is-whole, list-of-none, more-blocks, more-bytes, stays-whole}
use Rattle.sync_scan.specs.Told.{less, more, no_part}
use Rattle.sync_scan.proofs.ToldLemmas.{fails-memory, fails-read, parts-all, parts-more, told-refusal}
use Rattle.sync_blocks.specs.declared.block.Block.{Block}
use Rattle.sync_scan.proofs.hashing.blocks_of_file.Goals as goal
use Rattle.sync_scan.proofs.hashing.blocks_of_file.Goals.{then-size-eq0+in_ok-push_empty_block, else-size-eq0}

pub returns-then-branch-next-clause-read : goal.returns-then-branch-next-clause-read
returns-then-branch-next-clause-read g c = λ keeps.
    let next = c.min-next.result in
    let whole = c.loop-done.bytes in
    let room : length (take next whole) ≡ next = length-take-le next whole (omega arith) in
    is-shorter _ _ c.read_full.new.buffer (take next whole) c.in_ok-read_full.field-0 c.loop-done.done next (c.in_ok-read_full.ensures.reads keeps)
    (ap (λ t. bytes_of (t.names c.args.name.now)) (c.loop-done.invariant.kept keeps)) c.read_full.auto.buffer room c.args.size c.if-branch-next.true (omega arith)

pub loop-done-preserved : goal.loop-done-preserved
loop-done-preserved g c =
    let done = c.loop-done.done in
    let next = c.min-next.result in
    let size = c.args.size in
    let s = c.args.block_size in
    let whole = c.loop-done.bytes in
    let room : length (take next whole) ≡ next = length-take-le next whole (omega arith) in
    let read = c.loop-done.invariant.read in
    let part = c.read_full.new.buffer in
    let kept : length part ≡ length (take next whole) = c.read_full.auto.buffer in
    let long : length read.0 ≡ done = read.1 in
    record {
      within = omega arith;
      whole = stays-whole s done size c.group_len-group.result _ next c.requires.some c.loop-done-test.true c.loop-done.invariant.whole c.group_len-group.ensures
          (c.parts_make_the_block_list.ensures.group s) c.min-next.ensures;
      read = (
        read.0 ++ part,
        length-append read.0 part ∙ (λ t. long t + (kept ∙ room) t),
        more-blocks read.0 part s done size c.loop-done.blocks.items c.push_blocks.new.blocks.items
            (λ n w. c.parts_make_the_block_list.ensures.joined 0 read.0 part s n c.requires.some w) long c.loop-done-test.true c.loop-done.invariant.whole read.2 c.in_ok-push_blocks.ensures,
        λ keeps. more-bytes _ read.0 part done next (read.3 keeps)
            (is-part _ _ part (take next whole) c.in_ok-read_full.field-0 done next (c.in_ok-read_full.ensures.reads keeps)
            (ap (λ t. bytes_of (t.names c.args.name.now)) (c.loop-done.invariant.kept keeps)) kept room c.if-branch-next.false),
        λ first looks. parts-more (Since g.S.FileStore.gives first) c.args.name.now read.0 (take next whole) part done c.in_ok-read_full.field-0 c.loop-done.store c.read_full.new.store (read.4 first looks) long
            (let most = c.in_ok-read_full.ensures.bound in omega (arith, kept, room))
            (fills_all_since g.S.FileStore.gives c.args.name.now done c.loop-done.store (take next whole) first
            (called_on g.S.FileStore.gives IsLook first c.args.store.now c.loop-done.store looks c.loop-done.invariant.looks) _ _ _ c.in_ok-read_full.ensures.given),
      );
      looks = called_on g.S.FileStore.gives IsLook c.args.store.now c.loop-done.store c.read_full.new.store c.loop-done.invariant.looks c.in_ok-read_full.ensures.looks;
      kept = λ keeps. c.in_ok-read_full.ensures.kept keeps ∙ c.loop-done.invariant.kept keeps;
      counted = c.in_ok-read_full.ensures.counted ∙ c.loop-done.invariant.counted;
      room = search rules;
    }

pub returns-clause-read : goal.returns-clause-read
returns-clause-read g c =
    let read = c.loop-done.invariant.read in
    let size = c.args.size in
    let s = c.args.block_size in
    let all : c.loop-done.done ≡ size = omega arith in
    let long : length read.0 ≡ size = read.1 ∙ all in
    let items = λ (v : Vec Block Global). v.items in (
      read.0,
      long,
      elim c.if-size-eq0.branch [
        | then-size-eq0+in_ok-push_empty_block w ↦
            ap items w.blocks-is ∙ list-of-none read.0 s _ _ _ (long ∙ w.if-size-eq0.true) read.2 w.in_ok-push_empty_block.ensures
            (c.parts_make_the_block_list.ensures.none 0 s c.requires.some) (c.block_list_is_by_cuts.ensures.of_none s c.requires.some)
        | else-size-eq0 w ↦
            ap items w.blocks-is ∙ read.2 ∙ c.parts_make_the_block_list.ensures.whole read.0 s c.requires.some (omega (arith, long, w.if-size-eq0.false))
      ],
      λ keeps. is-whole _ _ read.0 c.read_full-2.new.buffer c.in_ok-read_full-2.field-0 c.loop-done.done size (read.3 keeps) read.1 all
          (c.in_ok-read_full-2.ensures.reads keeps) (ap (λ t. bytes_of (t.names c.args.name.now)) (c.loop-done.invariant.kept keeps)) c.if-branch-gt0.false,
      λ first looks. parts-all (Since g.S.FileStore.gives first) c.args.name.now read.0 c.read_full-2.new.buffer size c.in_ok-read_full-2.field-0 c.loop-done.store c.read_full-2.new.store (read.4 first looks) long
          (omega arith)
          (fills_all_since g.S.FileStore.gives c.args.name.now size c.loop-done.store _ first
          (called_on g.S.FileStore.gives IsLook first c.args.store.now c.loop-done.store looks c.loop-done.invariant.looks) _ _ _ c.in_ok-read_full-2.ensures.given),
    )

pub loop-done-init : goal.loop-done-init
loop-done-init g c = record {
  within = omega arith;
  whole = inr (0, search rules);
  read = ([], refl, c.new-blocks.ensures.items ∙ sym (c.parts_make_the_block_list.ensures.none 0 c.args.block_size c.requires.some), λ k. refl, λ first looks. no_part);
  looks = not_called;
  kept = λ k. refl;
  counted = refl;
  room = search rules;
}

pub returns-in_err-resize-clause-failed : goal.returns-in_err-resize-clause-failed
returns-in_err-resize-clause-failed g c = fails-memory g.S.FileStore.gives c.args.name.now c.from_residual.result (search rules)

pub returns-in_err-read_full-clause-failed : goal.returns-in_err-read_full-clause-failed
returns-in_err-read_full-clause-failed g c =
    told-refusal g.S.FileStore.gives c.args.name.now c.from_residual-in_err-read_full.result c.in_err-read_full.field-0.0 (search rules)
    (fails-read g.S.FileStore.gives c.args.name.now c.loop-done.done c.loop-done.store c.read_full.new.store _ c.read_full.new.buffer c.in_err-read_full.field-0.0 c.in_err-read_full.ensures.refusals c.in_err-read_full.ensures.given)

pub returns-then-branch-next-clause-other : goal.returns-then-branch-next-clause-other
returns-then-branch-next-clause-other g c = λ first looks none.
    let next = c.min-next.result in
    let room : length (take next c.loop-done.bytes) ≡ next = length-take-le next c.loop-done.bytes (omega arith) in
    less c.loop-done.done c.in_ok-read_full.field-0 (take next c.loop-done.bytes) c.read_full.new.buffer c.loop-done.store c.read_full.new.store
    (fills_all_since g.S.FileStore.gives c.args.name.now c.loop-done.done c.loop-done.store (take next c.loop-done.bytes) first
    (called_on g.S.FileStore.gives IsLook first c.args.store.now c.loop-done.store looks c.loop-done.invariant.looks) _ _ _ c.in_ok-read_full.ensures.given)
    (omega arith) (omega arith)

pub returns-in_err-push_blocks-clause-failed : goal.returns-in_err-push_blocks-clause-failed
returns-in_err-push_blocks-clause-failed g c = fails-memory g.S.FileStore.gives c.args.name.now c.from_residual-in_err-push_blocks.result (search rules)

pub returns-in_err-read_full-2-clause-failed : goal.returns-in_err-read_full-2-clause-failed
returns-in_err-read_full-2-clause-failed g c =
    told-refusal g.S.FileStore.gives c.args.name.now c.from_residual-in_err-read_full-2.result c.in_err-read_full-2.field-0.0 (search rules)
    (fails-read g.S.FileStore.gives c.args.name.now c.args.size c.loop-done.store c.read_full-2.new.store _ c.read_full-2.new.buffer c.in_err-read_full-2.field-0.0 c.in_err-read_full-2.ensures.refusals c.in_err-read_full-2.ensures.given)

pub returns-then-branch-gt0-clause-other : goal.returns-then-branch-gt0-clause-other
returns-then-branch-gt0-clause-other g c = λ first looks none.
    more c.in_ok-read_full-2.field-0 c.read_full-2.new.buffer c.loop-done.store c.read_full-2.new.store
    (fills_all_since g.S.FileStore.gives c.args.name.now c.args.size c.loop-done.store _ first
    (called_on g.S.FileStore.gives IsLook first c.args.store.now c.loop-done.store looks c.loop-done.invariant.looks) _ _ _ c.in_ok-read_full-2.ensures.given)
    (omega arith)

pub returns-in_err-push_empty_block-clause-failed : goal.returns-in_err-push_empty_block-clause-failed
returns-in_err-push_empty_block-clause-failed g c = fails-memory g.S.FileStore.gives c.args.name.now c.from_residual-in_err-push_empty_block.result (search rules)

pub returns-in_err-resize-clause-looks : goal.returns-in_err-resize-clause-looks
returns-in_err-resize-clause-looks g c = not_called

pub returns-in_err-read_full-clause-looks : goal.returns-in_err-read_full-clause-looks
returns-in_err-read_full-clause-looks g c = called_on g.S.FileStore.gives IsLook c.args.store.now c.loop-done.store c.read_full.new.store c.loop-done.invariant.looks c.in_err-read_full.ensures.looks

pub returns-then-branch-next-clause-looks : goal.returns-then-branch-next-clause-looks
returns-then-branch-next-clause-looks g c = called_on g.S.FileStore.gives IsLook c.args.store.now c.loop-done.store c.read_full.new.store c.loop-done.invariant.looks c.in_ok-read_full.ensures.looks

pub returns-in_err-push_blocks-clause-looks : goal.returns-in_err-push_blocks-clause-looks
returns-in_err-push_blocks-clause-looks g c = called_on g.S.FileStore.gives IsLook c.args.store.now c.loop-done.store c.read_full.new.store c.loop-done.invariant.looks c.in_ok-read_full.ensures.looks

pub returns-in_err-read_full-2-clause-looks : goal.returns-in_err-read_full-2-clause-looks
returns-in_err-read_full-2-clause-looks g c = called_on g.S.FileStore.gives IsLook c.args.store.now c.loop-done.store c.read_full-2.new.store c.loop-done.invariant.looks c.in_err-read_full-2.ensures.looks

pub returns-then-branch-gt0-clause-looks : goal.returns-then-branch-gt0-clause-looks
returns-then-branch-gt0-clause-looks g c = called_on g.S.FileStore.gives IsLook c.args.store.now c.loop-done.store c.read_full-2.new.store c.loop-done.invariant.looks c.in_ok-read_full-2.ensures.looks

pub returns-in_err-push_empty_block-clause-looks : goal.returns-in_err-push_empty_block-clause-looks
returns-in_err-push_empty_block-clause-looks g c = called_on g.S.FileStore.gives IsLook c.args.store.now c.loop-done.store c.read_full-2.new.store c.loop-done.invariant.looks c.in_ok-read_full-2.ensures.looks

pub returns-clause-looks : goal.returns-clause-looks
returns-clause-looks g c = called_on g.S.FileStore.gives IsLook c.args.store.now c.loop-done.store c.read_full-2.new.store c.loop-done.invariant.looks c.in_ok-read_full-2.ensures.looks
