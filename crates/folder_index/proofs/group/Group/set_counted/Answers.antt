use Rattle.std.proofs.Common.{ap, arith, subst, sym}
use Rattle.folder_index.specs.Groups.{IsSmall}
use Rattle.folder_index.specs.declared.totals.Totals.{Totals}
use Rattle.folder_index.proofs.Written.{small_set}
use Rattle.folder_index.proofs.group.Group.set_counted.Goals as goal

pub changed-requires-clause-small : goal.changed-requires-clause-small
changed-requires-clause-small c =
    subst (λ (p : Totals × Totals). IsSmall p.0 p.1) (λ i. (sym c.totals-was.ensures i, sym c.totals.ensures i))
    (small_set c.args.me c.args.announced.name c.args.device c.args.announced c.args.self.now c.set.new.self c.in_ok-set.ensures.group c.in_ok-set.ensures.placed)

pub returns-clause-one_more : goal.returns-clause-one_more
returns-clause-one_more c =
    let small = small_set c.args.me c.args.announced.name c.args.device c.args.announced c.args.self.now c.set.new.self c.in_ok-set.ensures.group c.in_ok-set.ensures.placed in
    let few = small.others in
    let was = ap (λ (t : Totals). t.others) c.totals-was.ensures in
    let is = ap (λ (t : Totals). t.others) c.totals.ensures in
    omega (arith, c.changed.ensures.others)
