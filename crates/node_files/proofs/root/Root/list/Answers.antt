use Rattle.std.proofs.Common.{ap, Ok, inr, subst, true}
use Rattle.node_files.specs.MarkedStores.{Passes}
use Rattle.node_files.proofs.root.Root.list.Goals as goal

-- src/root.rt:157:5
pub returns-in-Ok-clause-answers : goal.returns-in-Ok-clause-answers
returns-in-Ok-clause-answers g c =
    let passes = subst (λ path. Passes g.T.Stores.looks g.T.Stores.takes true path c.list.new.self (Ok c.in-Ok.listing) c.if_there.result c.if_there.new.self.store)
    (ap (λ root. root.path.now) c.in_ok-store.ensures.left) c.if_there.ensures.passes in
    inr (c.in_ok-store.store, c.in_ok-store.ensures.opened, (Ok c.in-Ok.listing, c.list.new.self, c.in-Ok.ensures.gives, passes))
