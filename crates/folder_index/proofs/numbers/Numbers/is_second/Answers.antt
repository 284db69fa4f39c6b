use Rattle.std.proofs.Common.{false, ap, ◌∙◌}
use Rattle.std.specs.Ordering.{nat_cmp}
use Rattle.std.specs.Prelude.{unwrap_or}
use Rattle.folder_index.proofs.Sequenced.{get_of}
use Rattle.folder_index.proofs.numbers.Numbers.is_second.Goals as goal

pub returns-in-Some : goal.returns-in-Some
returns-in-Some c = rw (← c.self.view_is) (ap (λ o. unwrap_or o false) (c.in-Some.ensures.value ∙ get_of nat_cmp c.self.inside.seconds.entries c.self.invariant c.args.sequence))

pub returns-in-None : goal.returns-in-None
returns-in-None c = rw (← c.self.view_is) (ap (λ o. unwrap_or o false) (c.in-None.ensures.value ∙ get_of nat_cmp c.self.inside.seconds.entries c.self.invariant c.args.sequence))
