use Rattle.std.proofs.Common.{ap, rules}
use Rattle.std.specs.Prelude.{Ok, option_copied}
use Rattle.std.proofs.lemmas.Result.{IfOk-weaker}
use Rattle.file_store.specs.Sequences.{Since}
use Rattle.file_store.specs.declared.node.Stat.TheVariants.{File, Missing}
use Rattle.sync_scan.specs.Looks.{IsTold, LeadsTo}
use Rattle.sync_scan.proofs.LookLemmas.{stat_look, stat_since, stat_then}
use Rattle.sync_scan.proofs.ToldLemmas.{fails-stat, told-refusal}
use Rattle.sync_scan.proofs.looking.look_at.Goals as goal

pub returns-in_err-stat-clause-failed : goal.returns-in_err-stat-clause-failed
returns-in_err-stat-clause-failed g c =
    told-refusal g.S.FileStore.gives c.args.name.now c.from_residual.result c.in_err-stat.field-0.0 (search rules)
    (fails-stat g.S.FileStore.gives c.args.name.now c.args.store.now c.stat.new.self c.in_err-stat.field-0.0 c.in_err-stat.ensures.refusals c.in_err-stat.ensures.gives)

pub returns-in_err-stat-clause-looks : goal.returns-in_err-stat-clause-looks
returns-in_err-stat-clause-looks g c = stat_look g.S.FileStore.gives _ _ _ _ c.in_err-stat.ensures.gives

pub returns-in-Directory-clause-looks : goal.returns-in-Directory-clause-looks
returns-in-Directory-clause-looks g c = stat_look g.S.FileStore.gives _ _ _ _ c.in_ok-stat.ensures.gives

pub returns-in-Other-clause-looks : goal.returns-in-Other-clause-looks
returns-in-Other-clause-looks g c = stat_look g.S.FileStore.gives _ _ _ _ c.in_ok-stat.ensures.gives

pub returns-then-branch-clause-told : goal.returns-then-branch-clause-told
returns-then-branch-clause-told g c = λ first looks.
    let given = rw c.in-Missing.is at c.in_ok-stat.ensures.gives in (
      Missing,
      (c.args.store.now, c.stat.new.self, (looks, given)),
      c.in_ok-is_below_other-in-Missing.ensures.other first (stat_since g.S.FileStore.gives first _ _ _ _ looks c.in_ok-stat.ensures.gives) (ap Ok c.if-branch.true),
    )

pub returns-else-branch-clause-told : goal.returns-else-branch-clause-told
returns-else-branch-clause-told g c = λ first looks.
    let given = rw c.in-Missing.is at c.in_ok-stat.ensures.gives in (
      Missing,
      (c.args.store.now, c.stat.new.self, (looks, given)),
      c.in_ok-is_below_other-in-Missing.ensures.no_other first (stat_since g.S.FileStore.gives first _ _ _ _ looks c.in_ok-stat.ensures.gives) (ap Ok c.if-branch.false),
    )

pub returns-in_err-is_below_other-in-Missing-clause-looks : goal.returns-in_err-is_below_other-in-Missing-clause-looks
returns-in_err-is_below_other-in-Missing-clause-looks g c = stat_then g.S.FileStore.gives _ _ _ _ _ c.in_ok-stat.ensures.gives c.is_below_other.ensures.looks

pub returns-then-branch-clause-looks : goal.returns-then-branch-clause-looks
returns-then-branch-clause-looks g c = stat_then g.S.FileStore.gives _ _ _ _ _ c.in_ok-stat.ensures.gives c.is_below_other.ensures.looks

pub returns-else-branch-clause-looks : goal.returns-else-branch-clause-looks
returns-else-branch-clause-looks g c = stat_then g.S.FileStore.gives _ _ _ _ _ c.in_ok-stat.ensures.gives c.is_below_other.ensures.looks

pub returns-in-File-clause-looks : goal.returns-in-File-clause-looks
returns-in-File-clause-looks g c = stat_then g.S.FileStore.gives _ _ _ _ _ c.in_ok-stat.ensures.gives c.look_at_file.ensures.looks

pub returns-in-File-clause-told : goal.returns-in-File-clause-told
returns-in-File-clause-told g c = λ first looks.
    let since = Since g.S.FileStore.gives first in
    let n = c.args.name.now in
    let local = option_copied c.args.local in
    let said = File c.in-File.size c.in-File.modified in
    let given = rw c.in-File.is at c.in_ok-stat.ensures.gives in
    IfOk-weaker c.look_at_file.result (LeadsTo since n local said) (IsTold since n local)
    (λ look leads. (said, (c.args.store.now, c.stat.new.self, (looks, given)), leads))
    (c.look_at_file.ensures.told first (stat_since g.S.FileStore.gives first _ _ _ _ looks c.in_ok-stat.ensures.gives))
