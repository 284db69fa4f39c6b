use Rattle.std.proofs.Common.{rules, ◌≡◌, ◌∙◌, ap, sym, subst, get_or, length, arith}
use Rattle.std.specs.Prelude.{Some, Err}
use Rattle.std.specs.declared.cmp.Ordering.TheVariants.{Equal}
use Rattle.std.specs.List.Sorted.{IsBinarySearchResult}
use Rattle.std.proofs.lemmas.Fn.{always_returns_same}
use Rattle.folder_look.specs.Tables.{facts_of, name_of, row_facts}
use Rattle.folder_look.specs.declared.table.Row.{Row}
use Rattle.folder_look.proofs.OrderLemmas.{order}
use Rattle.folder_look.proofs.TableLemmas.{look-found, look-missed}
use Rattle.folder_look.proofs.table.Table.find.Goals as goal

pub returns-in-Ok : goal.returns-in-Ok
returns-in-Ok c =
    let names = c.self.inside.names.items in
    let rows = c.self.inside.rows.items in
    let x = c.args.name.now in
    let found = c.in-Ok.ensures.position (λ (r : Row). order (name_of names r) x) (always_returns_same _ _ _ (λ a r g called. search rules)) in
    let d = c.index.result.now in
    ap Some (c.facts.ensures ∙ ap row_facts c.index.ensures)
    ∙ sym (look-found (name_of names) x row_facts rows c.in-Ok.at d (omega (arith, c.in-Ok.ensures.bound, ap length c.deref.ensures.value)) (subst (λ rs. order (name_of names (get_or rs c.in-Ok.at d)) x ≡ Equal) c.deref.ensures.value (found d)) c.self.invariant)
    ∙ ap (facts_of x) c.self.view_is

pub returns-in-Err : goal.returns-in-Err
returns-in-Err c =
    let names = c.self.inside.names.items in
    let rows = c.self.inside.rows.items in
    let x = c.args.name.now in
    let missed = c.in-Err.ensures.position (λ (r : Row). order (name_of names r) x) (always_returns_same _ _ _ (λ a r g called. search rules)) in
    sym (look-missed (name_of names) x row_facts rows c.in-Err.field-0 (subst (λ rs. IsBinarySearchResult (λ (r : Row). order (name_of names r) x) rs (Err c.in-Err.field-0)) c.deref.ensures.value missed) c.self.invariant)
    ∙ ap (facts_of x) c.self.view_is
