use Rattle.std.proofs.Common.{◌≢◌, rules, ap, ◌∙◌, Ok}
use Rattle.std.specs.Prelude.{IsNone}
use Rattle.file_store.specs.Names.{Name}
use Rattle.file_store.specs.Sequences.{IsLook, LooksOnly, Since}
use Rattle.file_store.specs.declared.node.Stat.{Stat}
use Rattle.file_store.specs.declared.node.Stat.TheVariants.{Other}
use Rattle.file_store.proofs.SequenceLemmas.{called_on}
use Rattle.sync_names.specs.Refusal.{refusal}
use Rattle.sync_scan.specs.Told.{Says}
use Rattle.sync_scan.proofs.ToldLemmas.{fails-parent, parent-is, parents-passed, parents-up, told-refusal}
use Rattle.sync_scan.proofs.looking.is_below_other.Goals as goal

pub returns-in_err-is_other-clause-failed : goal.returns-in_err-is_other-clause-failed
returns-in_err-is_other-clause-failed g c =
    let gives = g.S.FileStore.gives in
    let n = c.args.name.now in
    let p = c.in-Some.parent.now in
    told-refusal gives n c.from_residual.result c.in_err-is_other.field-0.0 (search rules)
    (fails-parent gives n p c.in_err-is_other.field-0.0 (parent-is n p c.loop-parent.rest.now c.in-Some.ensures.parents c.loop-parent.invariant.up)
    c.in_err-is_other.ensures.refusals c.in_err-is_other.ensures.failed)

pub loop-parent-preserved : goal.loop-parent-preserved
loop-parent-preserved g c =
    let gives = g.S.FileStore.gives in
    let n = c.args.name.now in
    let p = c.in-Some.parent.now in
    let rest = c.loop-parent.rest.now in
    record {
      text = search rules;
      up = parents-up n p rest c.in-Some.ensures.parents c.loop-parent.invariant.up;
      passed = parents-passed n p rest c.in-Some.ensures.parents c.loop-parent.invariant.up
          (λ (q : Name). (first : g.row.S.Denot) → LooksOnly gives first c.args.store.now → IsNone (refusal q) → (said : Stat) × (said ≢ Other) × Says (Since gives first) q said)
          (λ first looks. c.in_ok-is_other.ensures.no_other first (called_on gives IsLook first c.args.store.now c.loop-parent.store looks c.loop-parent.invariant.looks) (ap Ok c.if-branch.false))
          c.loop-parent.invariant.passed;
      looks = called_on gives IsLook c.args.store.now c.loop-parent.store c.is_other.new.store c.loop-parent.invariant.looks c.in_ok-is_other.ensures.looks;
      kept = λ k. c.in_ok-is_other.ensures.kept k ∙ c.loop-parent.invariant.kept k;
      counted = c.in_ok-is_other.ensures.counted ∙ c.loop-parent.invariant.counted;
    }

pub returns-in_err-is_other-clause-looks : goal.returns-in_err-is_other-clause-looks
returns-in_err-is_other-clause-looks g c = called_on g.S.FileStore.gives IsLook c.args.store.now c.loop-parent.store c.is_other.new.store c.loop-parent.invariant.looks c.in_err-is_other.ensures.looks

pub returns-then-branch-clause-looks : goal.returns-then-branch-clause-looks
returns-then-branch-clause-looks g c = called_on g.S.FileStore.gives IsLook c.args.store.now c.loop-parent.store c.is_other.new.store c.loop-parent.invariant.looks c.in_ok-is_other.ensures.looks

pub returns-then-branch-clause-other : goal.returns-then-branch-clause-other
returns-then-branch-clause-other g c = λ first looks e.
    let p = c.in-Some.parent.now in (
      p,
      parent-is c.args.name.now p c.loop-parent.rest.now c.in-Some.ensures.parents c.loop-parent.invariant.up,
      c.in_ok-is_other.ensures.other first (called_on g.S.FileStore.gives IsLook first c.args.store.now c.loop-parent.store looks c.loop-parent.invariant.looks) (ap Ok c.if-branch.true),
    )
