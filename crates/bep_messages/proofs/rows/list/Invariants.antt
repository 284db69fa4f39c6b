use Rattle.std.proofs.Common.{map, take}
use Rattle.std.specs.List.{AllByRecursion}
use Rattle.bep_messages.specs.Forms.{list_form, form, Fits, IsShort}
use Rattle.bep_messages.specs.Writing.{Adds}
use Rattle.bep_messages.proofs.rows.list.Given as goal

abbrev pub invariant-loop-value : goal.invariant-loop-value
invariant-loop-value g l =
    let table = g.M.ProtoMessage.table in
    let front = map g.M.ProtoMessage.parts (take l.value-index l.value-items) in
    record {
      ok : Adds l.fn.out (list_form l.number (form table) front) l.out;
      fits : AllByRecursion (λ m. Fits table m × IsShort (form table m)) front;
    }
