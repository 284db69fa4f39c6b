use Rattle.std.proofs.Common.{sym, ap, ◌∙◌}
use Rattle.std.specs.Cmp.{nat_cmp_total}
use Rattle.std.specs.FinMap.{get, insert, nat_cmp-IsAntisymmetric}
use Rattle.std.specs.Ordering.{nat_cmp}
use Rattle.std.specs.Prelude.{is_some, not}
use Rattle.std.proofs.lemmas.Bool.{true≢false}
use Rattle.folder_index.specs.Numbers.{Seconds}
use Rattle.folder_index.proofs.Results.{of_err, of_ok}
use Rattle.folder_index.proofs.Sequenced.{get_of, inserted}
use Rattle.folder_index.proofs.numbers.Numbers.turn.Goals as goal

pub unreachable-requires : goal.unreachable-requires
unreachable-requires c =
    let none = of_err c.insert.result (sym c.is_err.ensures.value ∙ c.if-is_err.true) c.insert.ensures.absent in
    let absent = ap is_some (ap (λ (m : Seconds). get m c.args.sequence) (sym c.self.view_is) ∙ sym (get_of nat_cmp c.self.inside.seconds.entries c.self.invariant c.args.sequence) ∙ none) in
    true≢false (sym c.requires ∙ absent)

pub returns : goal.returns
returns c =
    let put = of_ok c.insert.result (sym c.is_err.ensures.value ∙ c.if-is_err.false) c.insert.ensures.updates in
    inserted nat_cmp_total nat_cmp-IsAntisymmetric c.self.inside.seconds.entries c.insert.new.self.entries c.self.invariant c.insert.ensures.ordered c.args.sequence (not c.is_second-is_second.result) put.0
    ∙ (λ i. insert (c.self.view_is i) c.args.sequence (not (c.is_second-is_second.ensures i)))
