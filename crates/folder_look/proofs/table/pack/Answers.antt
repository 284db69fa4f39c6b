use Rattle.std.proofs.Common.{◌∙◌, ap, sym, subst, map, arith}
use Rattle.std.proofs.lemmas.List.{take_all}
use Rattle.std.specs.List.Sorted.{IsStrictlySortedBy}
use Rattle.folder_look.specs.Tables.{name_of, view_of}
use Rattle.folder_look.proofs.OrderLemmas.{order}
use Rattle.folder_look.proofs.TableLemmas.{table-ascends}
use Rattle.folder_look.proofs.table.pack.Goals as goal

pub invariant_of-result : goal.invariant_of-result
invariant_of-result c =
    let rows = c.loop-entry.rows.items in
    let es = c.args.entries.now in
    let names = sym c.shrink_to_fit.ensures.items in
    subst (λ n. IsStrictlySortedBy order (map (name_of n) rows)) names
    (table-ascends c.loop-entry.names.items rows es (c.loop-entry.invariant.same ∙ ap (map view_of) (take_all c.loop-entry.entry-index es (omega arith))) c.requires)
