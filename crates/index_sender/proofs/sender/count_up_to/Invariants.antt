use Rattle.std.proofs.Common.{◌≡◌, ◌++◌, take, drop}
use Rattle.index_sender.specs.Pages.{up_to}
use Rattle.index_sender.proofs.sender.count_up_to.Given as goal

-- all before the place are up to the sequence
abbrev pub invariant-loop-at : goal.invariant-loop-at
invariant-loop-at l = up_to l.sequence l.records ≡ take l.at l.records ++ up_to l.sequence (drop l.at l.records)
