use Rattle.std.proofs.Common.{sym, ap, ◌∙◌}
use Rattle.std.specs.FinMap.{from_sorted, get, insert}
use Rattle.std.specs.Ordering.{nat_cmp}
use Rattle.folder_index.specs.Sequences.{Sequenced}
use Rattle.folder_index.proofs.Results.{on_any_err}
use Rattle.folder_index.proofs.Sequenced.{get_of, own_inserted, sequence_inserted}
use Rattle.folder_index.proofs.by_sequence.BySequence.insert.Goals as goal

pub invariant_of-self-2 : goal.invariant_of-self-2
invariant_of-self-2 c =
    own_inserted c.self.inside.records.entries c.insert.new.self.entries c.args.announced c.sequence.result c.self.invariant c.insert.ensures.ordered (sym c.sequence.ensures.value) c.in_ok-insert.ensures.updates.0

pub returns-clause-ok : goal.returns-clause-ok
returns-clause-ok c =
    rw (← c.self.view_is)
    (sequence_inserted c.self.inside.records.entries c.insert.new.self.entries c.sequence.result c.args.announced c.self.invariant.rises c.insert.ensures.ordered c.in_ok-insert.ensures.updates.0
    ∙ ap (λ q. insert (from_sorted c.self.inside.records.entries) q c.args.announced) c.sequence.ensures.value)

pub returns-in_err-insert-clause-absent : goal.returns-in_err-insert-clause-absent
returns-in_err-insert-clause-absent c =
    on_any_err c.from_residual.result
    (ap (get c.args.self.now) (sym c.sequence.ensures.value)
    ∙ ap (λ (m : Sequenced). get m c.sequence.result) (sym c.self.view_is)
    ∙ sym (get_of nat_cmp c.self.inside.records.entries c.self.invariant.rises c.sequence.result)
    ∙ c.in_err-insert.ensures.absent)
