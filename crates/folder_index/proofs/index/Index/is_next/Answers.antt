use Rattle.std.proofs.Common.{sym, ◌∙◌}
use Rattle.std.proofs.lemmas.Bool.{true≢false}
use Rattle.folder_index.proofs.Indexed.{all_earlier, earlier_all, earlier_filed}
use Rattle.folder_index.proofs.index.Index.is_next.Goals as goal

pub returns-then-are_below : goal.returns-then-are_below
returns-then-are_below c =
    let i = c.self.inside in
    rw (← c.self.view_is) (
      λ t. all_earlier i.names i.local c.self.invariant c.args.sequence (sym c.are_below.ensures ∙ c.if-are_below.true) (c.are_below-then-are_below.ensures.0 t),
      λ earlier. c.are_below-then-are_below.ensures.1 (earlier_filed i.names i.local c.self.invariant c.args.sequence earlier),
    )

pub returns-else-are_below : goal.returns-else-are_below
returns-else-are_below c =
    let i = c.self.inside in
    rw (← c.self.view_is) (
      λ t. absurd (true≢false (sym t ∙ c.if-are_below.false)),
      λ earlier. c.are_below.ensures ∙ earlier_all i.names i.local c.self.invariant c.args.sequence earlier,
    )
