use Rattle.std.proofs.Common.{◌∙◌}
use Rattle.std.specs.Ordering.{nat_cmp}
use Rattle.folder_index.proofs.Sequenced.{get_of}
use Rattle.folder_index.proofs.by_sequence.BySequence.get.Goals as goal

pub returns : goal.returns
returns c = rw (← c.self.view_is) (c.get.ensures.value ∙ get_of nat_cmp c.self.inside.records.entries c.self.invariant.rises c.args.sequence)
