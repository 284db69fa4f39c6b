use Rattle.std.proofs.Common.{◌≡◌}
use Rattle.crossbeam_channel.specs.Claims.{view, IsSeatAt}
use Rattle.crossbeam_channel.specs.Ends.{sends_on}
use Rattle.folder_shared.proofs.lock.put.Given as goal

abbrev pub invariant-loop : goal.invariant-loop
invariant-loop g l = IsSeatAt (sends_on l.sender) l.token × (l.token.id ≡ l.initial.token.id) × (view l.token ≡ view l.initial.token) × (l.recorded ≡ l.initial.recorded)
