use Rattle.std.proofs.Common.{◌≡◌, vec_len}
use Rattle.bepd_pair.proofs.pulls.round_of.Given as goal

-- only what was read of the folder changes
abbrev pub invariant-loop-name : goal.invariant-loop-name
invariant-loop-name l = l.peer ≡ record l.initial.peer { calls = l.peer.calls }

abbrev pub decreases-loop-name-2 : goal.decreases-loop-name-2
decreases-loop-name-2 l = vec_len l.deleted
