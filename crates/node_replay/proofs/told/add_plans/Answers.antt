use Rattle.std.proofs.Common.{◌≡◌, ◌++◌, ◌∷◌, ◌∙◌, [], List, append_assoc, map, take, sym, ap, subst, arith}
use Rattle.std.specs.List.{AllByRecursion}
use Rattle.std.proofs.lemmas.Grind.{common_steps}
use Rattle.std.proofs.lemmas.List.{append-nil}
use Rattle.std.proofs.lemmas.Result.{err_from_is_err_and}
use Rattle.node_journal.specs.declared.plan.Plan.{Plan}
use Rattle.node_replay.specs.Clear.{IsClearPlan}
use Rattle.node_replay.specs.Told.{plan_of}
use Rattle.node_replay.specs.declared.plan.PullPlan.{PullPlan}
use Rattle.node_replay.specs.declared.fault.RecoverFault.TheVariants.{UnsafeName, BadPlan, OutOfMemory}
use Rattle.node_replay.proofs.Adding.{map-more}
use Rattle.node_replay.proofs.All.{all-more, not-all}
use Rattle.node_replay.proofs.told.add_plans.Goals as goal

pub loop-plan-init : goal.loop-plan-init
loop-plan-init c = record { ok = sym (append-nil c.args.plans.now.items); safe = tt; pullable = tt }

pub loop-plan-preserved : goal.loop-plan-preserved
loop-plan-preserved c =
    let more = c.args.more.now in
    let i = c.loop-plan.plan-index in
    let x = c.plan-item.result in
    let old = c.args.plans.now.items in
    record {
      ok = c.in_ok-push.ensures.items ∙ (λ j. c.loop-plan.invariant.ok j ++ c.in_ok-new.ensures.ok j ∷ [])
          ∙ append_assoc old (map plan_of (take i more)) (plan_of x ∷ [])
          ∙ ap (λ (l : List PullPlan). old ++ l) (sym (map-more more i x c.loop-plan-test.true c.plan-item.is plan_of));
      safe = all-more (IsClearPlan UnsafeName) more i x c.loop-plan-test.true c.plan-item.is c.loop-plan.invariant.safe c.in_ok-new.ensures.safe;
      pullable = all-more (IsClearPlan BadPlan) more i x c.loop-plan-test.true c.plan-item.is c.loop-plan.invariant.pullable c.in_ok-new.ensures.pullable;
    }

pub returns-clause-ok : goal.returns-clause-ok
returns-clause-ok c =
    let all : take c.loop-plan.plan-index c.args.more.now ≡ c.args.more.now = grind (arith, common_steps) in
    c.loop-plan.invariant.ok ∙ ap (λ (l : List Plan). c.args.plans.now.items ++ map plan_of l) all

pub returns-clause-safe : goal.returns-clause-safe
returns-clause-safe c =
    let all : take c.loop-plan.plan-index c.args.more.now ≡ c.args.more.now = grind (arith, common_steps) in
    subst (AllByRecursion (IsClearPlan UnsafeName)) all c.loop-plan.invariant.safe

pub returns-in_err-new-clause-err : goal.returns-in_err-new-clause-err
returns-in_err-new-clause-err c =
    let p = err_from_is_err_and c.from_residual.result c.from_residual.ensures.1 in
    rw (p.1, p.2) (not-all _ c.args.more.now c.loop-plan.plan-index c.plan-item.result c.loop-plan-test.true c.plan-item.is c.in_err-new.ensures.err)

pub returns-in_err-push-clause-err : goal.returns-in_err-push-clause-err
returns-in_err-push-clause-err c =
    let p = err_from_is_err_and c.from_residual-in_err-push.result c.from_residual-in_err-push.ensures.1 in
    rw (p.1, p.2) (not-all (IsClearPlan OutOfMemory) c.args.more.now c.loop-plan.plan-index c.plan-item.result c.loop-plan-test.true c.plan-item.is (λ x. x))

pub returns-clause-pullable : goal.returns-clause-pullable
returns-clause-pullable c =
    let all : take c.loop-plan.plan-index c.args.more.now ≡ c.args.more.now = grind (arith, common_steps) in
    subst (AllByRecursion (IsClearPlan BadPlan)) all c.loop-plan.invariant.pullable
