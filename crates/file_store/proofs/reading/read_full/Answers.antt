use Rattle.std.proofs.Common.{◌≡◌, ◌+◌, ◌-◌, ◌∙◌, Err, rules, arith, ap, refl, sym, subst, length, take, drop}
use borrow.Rule.Slice.PartMut.{put_mid}
use Rattle.file_store.specs.FullReads.{FillsAll, full, not_asked}
use Rattle.file_store.specs.Sequences.{called}
use Rattle.file_store.specs.Trees.{bytes_of}
use Rattle.file_store.proofs.ReadLemmas.{filled-more, gave-more, gave-none, gave-refusal}
use Rattle.file_store.proofs.SequenceLemmas.{fills_look}
use Rattle.file_store.proofs.reading.read_full.Goals as goal

pub loop-filled-preserved : goal.loop-filled-preserved
loop-filled-preserved g c =
    let at = c.loop-filled.filled in
    let old = c.loop-filled.buffer in
    let part = c.read_at.new.buffer in
    let within = c.loop-filled.invariant.within in
    let same : length (put_mid at (length old - at) old part) ≡ length old = search rules in
    let fits = c.in_ok-count.ensures.bound in
    record {
      within = omega arith;
      bytes = λ keeps.
          let still = ap (λ t. bytes_of (t.names c.args.name.now)) (c.loop-filled.invariant.kept keeps) in
          filled-more at c.in_ok-count.count old part within c.args.offset _ fits (c.loop-filled.invariant.bytes keeps)
          ((c.in_ok-count.ensures.reads keeps).bytes ∙ ap (λ b. take c.in_ok-count.count (drop (c.args.offset + at) b)) still);
      kept = λ keeps. (c.in_ok-count.ensures.reads keeps).kept ∙ c.loop-filled.invariant.kept keeps;
      given = gave-more g.S.FileStore.gives c.args.name.now c.args.offset c.args.store.now c.args.buffer.now at c.loop-filled.store c.read_at.new.self old part
          c.in_ok-count.count c.loop-filled.invariant.given c.in_ok-count.ensures.gives
          (let some = c.if-count-eq0.false in omega arith) fits;
      counted = c.in_ok-count.ensures.counted ∙ c.loop-filled.invariant.counted;
    }

pub loop-filled-init : goal.loop-filled-init
loop-filled-init g c = record { within = omega arith; bytes = λ k. refl; kept = λ k. refl; given = not_asked; counted = refl }

pub returns-in_err-count-clause-given : goal.returns-in_err-count-clause-given
returns-in_err-count-clause-given g c =
    let is : c.from_residual.result ≡ Err c.in_err-count.field-0.0 = search rules in
    subst (λ r. FillsAll g.S.FileStore.gives c.args.name.now c.args.offset c.args.store.now c.args.buffer.now r c.read_at.new.self
    (put_mid c.loop-filled.filled (length c.loop-filled.buffer - c.loop-filled.filled) c.loop-filled.buffer c.read_at.new.buffer)) (sym is)
    (gave-refusal g.S.FileStore.gives c.args.name.now c.args.offset c.args.store.now c.args.buffer.now c.loop-filled.filled c.loop-filled.store c.read_at.new.self
    c.loop-filled.buffer c.read_at.new.buffer c.in_err-count.field-0.0 c.loop-filled.invariant.given c.loop-filled-test.true c.in_err-count.ensures.gives)

pub returns-then-count-eq0-clause-given : goal.returns-then-count-eq0-clause-given
returns-then-count-eq0-clause-given g c = gave-none g.S.FileStore.gives c.args.name.now c.args.offset c.args.store.now c.args.buffer.now c.loop-filled.filled c.loop-filled.store c.read_at.new.self
    c.loop-filled.buffer c.read_at.new.buffer c.loop-filled.invariant.given c.loop-filled-test.true (rw c.if-count-eq0.true at c.in_ok-count.ensures.gives)

pub returns-clause-given : goal.returns-clause-given
returns-clause-given g c = full c.loop-filled.filled _ _ c.loop-filled.invariant.given (omega arith)

pub returns-in_err-count-clause-looks : goal.returns-in_err-count-clause-looks
returns-in_err-count-clause-looks g c = called c.loop-filled.store c.read_at.new.self _ _
    (fills_look g.S.FileStore.gives c.args.name.now c.args.offset c.args.store.now c.args.buffer.now c.loop-filled.filled c.loop-filled.store c.loop-filled.buffer
    c.loop-filled.invariant.given) tt c.in_err-count.ensures.gives

pub returns-then-count-eq0-clause-looks : goal.returns-then-count-eq0-clause-looks
returns-then-count-eq0-clause-looks g c = called c.loop-filled.store c.read_at.new.self _ _
    (fills_look g.S.FileStore.gives c.args.name.now c.args.offset c.args.store.now c.args.buffer.now c.loop-filled.filled c.loop-filled.store c.loop-filled.buffer
    c.loop-filled.invariant.given) tt c.in_ok-count.ensures.gives

pub returns-clause-looks : goal.returns-clause-looks
returns-clause-looks g c =
    fills_look g.S.FileStore.gives c.args.name.now c.args.offset c.args.store.now c.args.buffer.now c.loop-filled.filled c.loop-filled.store c.loop-filled.buffer
    c.loop-filled.invariant.given
