use Rattle.std.proofs.Common.{◌≡◌}
use Rattle.bepd_pair.proofs.scans.local_records.Given as goal

-- only what was read of the folder changes
abbrev pub invariant-loop : goal.invariant-loop
invariant-loop l = l.peer ≡ record l.initial.peer { calls = l.peer.calls }
