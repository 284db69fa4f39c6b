use Rattle.std.proofs.Common.{◌≡◌, ◌++◌, take}
use Rattle.node_replay.proofs.laying.add_copies.Given as goal

abbrev pub invariant-loop-entry : goal.invariant-loop-entry
invariant-loop-entry l = l.entries.items ≡ l.fn.entries.items ++ take l.entry-index l.more
