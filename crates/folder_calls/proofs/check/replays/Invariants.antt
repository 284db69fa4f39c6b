use Rattle.std.proofs.Common.{◌≡◌, take}
use Rattle.folder_calls.specs.Histories.{IsLegal, state_after}
use Rattle.folder_calls.proofs.check.replays.Given as goal

-- the entries so far are legal, and the folder is in the state after them
abbrev pub invariant-loop-entry : goal.invariant-loop-entry
invariant-loop-entry l = record {
  legal : IsLegal l.passes l.opening (take l.entry-index l.entries);
  state : l.folder ≡ state_after l.opening (take l.entry-index l.entries);
}
