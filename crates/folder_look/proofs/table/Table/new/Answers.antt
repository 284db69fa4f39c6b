use Rattle.std.proofs.Common.{sym, subst, map}
use Rattle.folder_look.specs.Tables.{name_of}
use Rattle.folder_look.proofs.OrderLemmas.{order}
use Rattle.folder_look.proofs.TableLemmas.{none-ascend}
use Rattle.std.specs.List.Sorted.{IsStrictlySortedBy}
use Rattle.folder_look.proofs.table.Table.new.Goals as goal

pub invariant_of-result : goal.invariant_of-result
invariant_of-result c = subst (λ rows. IsStrictlySortedBy order (map (name_of c.new.result.items) rows)) (sym c.new-2.ensures.items) none-ascend
