use Rattle.std.proofs.Common.{◌∙◌}
use Rattle.std.specs.Cmp.{nat_cmp_total}
use Rattle.std.specs.FinMap.{insert, nat_cmp-IsAntisymmetric}
use Rattle.folder_index.proofs.Sequenced.{inserted}
use Rattle.folder_index.proofs.numbers.Numbers.keep.Goals as goal

pub returns-clause-ok : goal.returns-clause-ok
returns-clause-ok c =
    inserted nat_cmp_total nat_cmp-IsAntisymmetric c.self.inside.seconds.entries c.insert.new.self.entries c.self.invariant c.insert.ensures.ordered c.args.sequence c.is_second-is_second.result c.in_ok-insert.ensures.updates.0
    ∙ (λ i. insert (c.self.view_is i) c.args.sequence (c.is_second-is_second.ensures i))
