use Rattle.std.proofs.Common.{map, take}
use Rattle.std.specs.List.{AllByRecursion}
use Rattle.bep_messages.specs.Forms.{list_form, IsText}
use Rattle.bep_messages.specs.Writing.{Adds}
use Rattle.bep_messages.proofs.rows.texts.Given as goal

abbrev pub invariant-loop-value : goal.invariant-loop-value
invariant-loop-value l =
    let front = map (λ t. t) (take l.value-index l.value-items) in
    record {
      ok : Adds l.fn.out (list_form l.number (λ t. t) front) l.out;
      fits : AllByRecursion IsText front;
    }
