use Rattle.std.proofs.Common.{[], length, arith, refl, ap, rules}
use Rattle.file_store.specs.Sequences.{IsLook, Since}
use Rattle.file_store.specs.Trees.{bytes_of}
use Rattle.file_store.proofs.SequenceLemmas.{called_on, fills_all_since}
use Rattle.sync_scan.specs.Told.{less, more, no_part}
use Rattle.sync_scan.proofs.PartsLemmas.{is-part, is-shorter, is-whole}
use Rattle.sync_scan.proofs.ToldLemmas.{fails-read, parts-all, parts-more, told-refusal}
use Rattle.sync_scan.proofs.ahead.read_whole.Goals as goal

pub returns-then-branch-size-clause-other : goal.returns-then-branch-size-clause-other
returns-then-branch-size-clause-other g c = λ first looks e.
    less 0 c.in_ok-read_full.field-0 c.args.part.now c.read_full.new.buffer c.args.store.now c.read_full.new.store
    (fills_all_since g.S.FileStore.gives c.args.name.now 0 c.args.store.now c.args.part.now first looks _ _ _ c.in_ok-read_full.ensures.given) (omega arith) (omega arith)

pub returns-then-branch-size-clause-not_there : goal.returns-then-branch-size-clause-not_there
returns-then-branch-size-clause-not_there g c = λ e keeps.
    is-shorter _ _ c.read_full.new.buffer c.args.part.now c.in_ok-read_full.field-0 0 (length c.args.part.now) (c.in_ok-read_full.ensures.reads keeps) refl
    c.read_full.auto.buffer refl (length c.args.part.now) (omega arith) (omega arith)

pub returns-then-branch-gt0-clause-other : goal.returns-then-branch-gt0-clause-other
returns-then-branch-gt0-clause-other g c = λ first looks e.
    more c.in_ok-read_full-2.field-0 c.read_full-2.new.buffer c.read_full.new.store c.read_full-2.new.store
    (fills_all_since g.S.FileStore.gives c.args.name.now (length c.args.part.now) c.read_full.new.store _ first
    (called_on g.S.FileStore.gives IsLook first c.args.store.now c.read_full.new.store looks c.in_ok-read_full.ensures.looks) _ _ _ c.in_ok-read_full-2.ensures.given) (omega arith)

pub returns-clause-read : goal.returns-clause-read
returns-clause-read g c = λ first looks e.
    let gives = g.S.FileStore.gives in
    let since = Since gives first in
    let then = called_on gives IsLook first c.args.store.now c.read_full.new.store looks c.in_ok-read_full.ensures.looks in
    let n = c.args.name.now in
    let part = c.read_full.new.buffer in
    let kept = c.read_full.auto.buffer in
    let most = c.in_ok-read_full.ensures.bound in
    let parts = parts-more since n [] c.args.part.now part 0 c.in_ok-read_full.field-0 c.args.store.now c.read_full.new.store no_part refl (omega arith)
    (fills_all_since gives n 0 c.args.store.now c.args.part.now first looks _ _ _ c.in_ok-read_full.ensures.given) in
    parts-all since n part c.read_full-2.new.buffer (length c.args.part.now) c.in_ok-read_full-2.field-0 c.read_full.new.store c.read_full-2.new.store parts kept
    (omega arith) (fills_all_since gives n (length c.args.part.now) c.read_full.new.store _ first then _ _ _ c.in_ok-read_full-2.ensures.given)

pub returns-clause-there : goal.returns-clause-there
returns-clause-there g c = λ e keeps.
    let size = length c.args.part.now in
    let part = c.read_full.new.buffer in
    let kept = c.read_full.auto.buffer in
    is-whole _ _ part c.read_full-2.new.buffer c.in_ok-read_full-2.field-0 size size
    (is-part _ _ part c.args.part.now c.in_ok-read_full.field-0 0 size (c.in_ok-read_full.ensures.reads keeps) refl kept refl c.if-branch-size.false) kept refl
    (c.in_ok-read_full-2.ensures.reads keeps) (ap (λ t. bytes_of (t.names c.args.name.now)) (c.in_ok-read_full.ensures.kept keeps)) (omega arith)

pub returns-in_err-read_full-clause-failed : goal.returns-in_err-read_full-clause-failed
returns-in_err-read_full-clause-failed g c =
    told-refusal g.S.FileStore.gives c.args.name.now c.from_residual.result c.in_err-read_full.field-0.0 (search rules)
    (fails-read g.S.FileStore.gives c.args.name.now 0 c.args.store.now c.read_full.new.store _ c.read_full.new.buffer c.in_err-read_full.field-0.0 c.in_err-read_full.ensures.refusals c.in_err-read_full.ensures.given)

pub returns-in_err-read_full-2-clause-failed : goal.returns-in_err-read_full-2-clause-failed
returns-in_err-read_full-2-clause-failed g c =
    told-refusal g.S.FileStore.gives c.args.name.now c.from_residual-in_err-read_full-2.result c.in_err-read_full-2.field-0.0 (search rules)
    (fails-read g.S.FileStore.gives c.args.name.now (length c.args.part.now) c.read_full.new.store c.read_full-2.new.store _ c.read_full-2.new.buffer c.in_err-read_full-2.field-0.0 c.in_err-read_full-2.ensures.refusals c.in_err-read_full-2.ensures.given)

pub returns-in_err-read_full-2-clause-looks : goal.returns-in_err-read_full-2-clause-looks
returns-in_err-read_full-2-clause-looks g c = called_on g.S.FileStore.gives IsLook c.args.store.now c.read_full.new.store c.read_full-2.new.store c.in_ok-read_full.ensures.looks c.in_err-read_full-2.ensures.looks

pub returns-then-branch-gt0-clause-looks : goal.returns-then-branch-gt0-clause-looks
returns-then-branch-gt0-clause-looks g c = called_on g.S.FileStore.gives IsLook c.args.store.now c.read_full.new.store c.read_full-2.new.store c.in_ok-read_full.ensures.looks c.in_ok-read_full-2.ensures.looks

pub returns-clause-looks : goal.returns-clause-looks
returns-clause-looks g c = called_on g.S.FileStore.gives IsLook c.args.store.now c.read_full.new.store c.read_full-2.new.store c.in_ok-read_full.ensures.looks c.in_ok-read_full-2.ensures.looks
