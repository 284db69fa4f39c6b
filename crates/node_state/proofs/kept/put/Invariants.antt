use Rattle.std.proofs.Common.{◌≡◌}
use Rattle.std.specs.List.{AllWithin}
use Rattle.node_state.proofs.PeerMaps.{IsBefore}
use Rattle.node_state.proofs.kept.put.Given as goal

abbrev pub invariant-loop-at : goal.invariant-loop-at
invariant-loop-at l = record {
  same : l.kept.items ≡ l.fn.kept.items;
  before : AllWithin (IsBefore l.new) l.kept.items 0 l.at;
}
