use Rattle.std.proofs.Common.{◌≡◌, ◌++◌, take}
use Rattle.std.specs.List.{flat_map}
use Rattle.bepd_pair.specs.Lines.{local_line}
use Rattle.bepd_pair.proofs.scans.push_locals.Given as goal

abbrev pub invariant-loop-local : goal.invariant-loop-local
invariant-loop-local l = l.lines.items ≡ l.initial.lines.items ++ flat_map (local_line l.side) (take l.local-index l.records)
