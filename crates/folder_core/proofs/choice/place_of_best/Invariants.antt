use Rattle.std.proofs.Common.{◌≡◌, ◌<◌, IfSome, length, take}
use Rattle.std.specs.Prelude.{filter, option_and_then, option_copied, slice_get}
use Rattle.std.specs.List.{reduce}
use Rattle.folder_core.specs.Plain.{better, is_undominated}
use Rattle.folder_core.proofs.choice.place_of_best.Given as goal

abbrev pub invariant-loop-i : goal.invariant-loop-i
invariant-loop-i l = record {
  best : option_copied l.best ≡ reduce better (filter (is_undominated l.entries) (take l.i l.entries));
  place : option_and_then (λ i. slice_get l.entries i) l.place ≡ option_copied l.best;
  within : IfSome l.place (λ i. i < length l.entries);
}
