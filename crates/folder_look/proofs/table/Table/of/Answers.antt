use Rattle.std.proofs.Common.{◌≡◌, ◌∙◌, ap, sym, subst, map}
use Rattle.folder_look.specs.Tables.{IsOf, view_of}
use Rattle.folder_look.proofs.TableLemmas.{of-views, ok-through}
use Rattle.folder_look.proofs.table.Table.of.Goals as goal

pub returns : goal.returns
returns c =
    let kept = c.in_ok-in_order.field-0.items in
    ok-through (λ table. table ≡ map view_of c.as_slice.result.now) (IsOf c.args.entries.items)
    (λ table so. subst (IsOf c.args.entries.items) (sym (so ∙ ap (map view_of) c.as_slice.ensures.value))
    (of-views c.args.entries.items kept c.in_ok-in_order.ensures.all c.in_ok-in_order.ensures.no_more)) c.pack.result c.pack.ensures
