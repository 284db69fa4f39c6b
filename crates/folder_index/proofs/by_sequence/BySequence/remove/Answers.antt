use Rattle.folder_index.proofs.Sequenced.{own_removed, sequence_removed}
use Rattle.folder_index.proofs.by_sequence.BySequence.remove.Goals as goal

pub invariant_of-self : goal.invariant_of-self
invariant_of-self c = own_removed c.self.inside.records.entries c.remove.new.self.entries c.args.sequence c.self.invariant c.remove.ensures.ordered c.remove.ensures.updates.0

pub returns : goal.returns
returns c =
    rw (← c.self.view_is)
    (sequence_removed c.self.inside.records.entries c.remove.new.self.entries c.args.sequence c.self.invariant.rises c.remove.ensures.ordered c.remove.ensures.updates.0)
