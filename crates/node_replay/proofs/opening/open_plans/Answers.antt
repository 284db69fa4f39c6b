use Rattle.std.proofs.Common.{◌≡◌, ◌++◌, ◌∷◌, [], ◌∙◌, rules, append_assoc, append-nil, ap, arith, reverse, sym, subst}
use Rattle.std.proofs.lemmas.List.{nil_from_length, reverse-append, reverse-reverse}
use Rattle.node_replay.specs.Open.{open_plans}
use Rattle.node_replay.proofs.LastPlans.{HasNames, has-more, open-before}
use Rattle.node_replay.proofs.opening.open_plans.Goals as goal

pub loop-plan-preserved : goal.loop-plan-preserved
loop-plan-preserved g c =
    let s = g.F.FolderCore.state c.args.folder.now in
    let plan = c.in-Some.plan in
    let before = reverse c.loop-plan.yielded in
    let step : c.loop-plan.plan-iterator.rest.items ≡ plan ∷ c.next.new.self.rest.items = search rules in
    let came = c.loop-plan.invariant.divided ∙ ap (λ l. c.loop-plan.yielded ++ l) step in
    let turned : reverse (c.loop-plan.yielded ++ plan ∷ []) ≡ plan ∷ before = reverse-append c.loop-plan.yielded (plan ∷ []) in
    record {
      names = subst (HasNames c.add.new.names) (sym turned) (has-more plan before c.loop-plan.names c.add.new.names c.loop-plan.invariant.names c.in_ok-add.ensures.names);
      left = ap reverse c.in_ok-add.ensures.left ∙ open-before s plan before c.loop-plan.names c.loop-plan.left.items c.loop-plan.invariant.names c.loop-plan.invariant.left
          ∙ ap (open_plans s) (sym turned);
      divided = came ∙ sym (append_assoc c.loop-plan.yielded (plan ∷ []) c.next.new.self.rest.items);
    }

pub returns : goal.returns
returns g c =
    let s = g.F.FolderCore.state c.args.folder.now in
    let none : c.loop-plan.plan-iterator.rest.items ≡ [] =
    nil_from_length c.loop-plan.plan-iterator.rest.items (let len = c.loop-plan.plan-iterator.rest.ok.0 in let none = c.in-None.ensures.steps.0 in omega arith) in
    let all : reverse c.args.plans ≡ c.loop-plan.yielded =
    c.loop-plan.invariant.divided ∙ ap (λ l. c.loop-plan.yielded ++ l) none ∙ append-nil c.loop-plan.yielded in
    c.from_vec.ensures ∙ c.reverse-2.ensures.items ∙ c.loop-plan.invariant.left ∙ ap (λ l. open_plans s (reverse l)) (sym all) ∙ ap (open_plans s) (reverse-reverse c.args.plans)
