use Rattle.std.proofs.Common.{◌≡◌, [], take}
use Rattle.folder_core.specs.PlainReads.{places_from}
use Rattle.folder_core.proofs.plain.find.position_of.Given as goal

abbrev pub invariant-loop-entry : goal.invariant-loop-entry
invariant-loop-entry l = places_from l.device l.hash (take l.entry-index l.entries) ≡ []
