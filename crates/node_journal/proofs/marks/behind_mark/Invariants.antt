use Rattle.std.proofs.Common.{◌≡◌, None, drop}
use Rattle.node_journal.specs.Marks.{behind_mark}
use Rattle.node_journal.proofs.marks.behind_mark.Given as goal

-- none of the frames from here on has the mark
abbrev pub invariant-loop-at : goal.invariant-loop-at
invariant-loop-at l = behind_mark l.digest (drop l.at l.frames) ≡ None
