use Rattle.std.proofs.Common.{◌≡◌, map, take}
use Rattle.folder_core.specs.PlainReads.{later_from}
use Rattle.folder_core.proofs.PlainSince.{sequenced, shown}
use Rattle.folder_core.proofs.plain.since.later_by_sequence.Given as goal

abbrev pub invariant-loop-entry : goal.invariant-loop-entry
invariant-loop-entry l = map shown l.later.entries ≡ sequenced (later_from l.device l.sequence (take l.entry-index l.entries))
