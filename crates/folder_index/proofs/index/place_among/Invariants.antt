use Rattle.std.proofs.Common.{take}
use Rattle.folder_index.specs.Locals.{HasNoBlock}
use Rattle.folder_index.proofs.index.place_among.Given as goal

abbrev pub invariant-loop-announced : goal.invariant-loop-announced
invariant-loop-announced l = HasNoBlock (take l.announced-index l.records) l.hash
