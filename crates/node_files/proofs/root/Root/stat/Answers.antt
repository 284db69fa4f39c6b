use Rattle.std.proofs.Common.{ap, inr, subst, sym, true, ◌∙◌}
use Rattle.node_files.specs.MarkedStores.{Passes}
use Rattle.node_files.proofs.root.Root.stat.Goals as goal

-- src/root.rt:182:13
pub returns-then-is_missing-clause-answers : goal.returns-then-is_missing-clause-answers
returns-then-is_missing-clause-answers g c =
    let passes = subst (λ path. Passes g.T.Stores.looks g.T.Stores.takes true path c.stat-answer.new.self c.stat-answer.result c.if_there.result c.if_there.new.self.store)
    (ap (λ root. root.path.now) c.in_ok-store.ensures.left) c.if_there.ensures.passes in
    let told = subst (λ absence. Passes g.T.Stores.looks g.T.Stores.takes absence c.args.self.now.path.now c.stat-answer.new.self c.stat-answer.result c.if_there.result c.if_there.new.self.store)
    (sym c.if-is_missing.true ∙ c.is_missing.ensures c.args.name.now) passes in
    inr (c.in_ok-store.store, c.in_ok-store.ensures.opened, (c.stat-answer.result, c.stat-answer.new.self, c.stat-answer.ensures.gives, told))
