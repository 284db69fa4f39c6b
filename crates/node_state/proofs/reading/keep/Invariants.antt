use Rattle.std.proofs.Common.{◌≡◌, map, take}
use Rattle.std.specs.FinMap.{from_entries}
use Rattle.std.specs.Prelude.{filter}
use Rattle.folder_core.proofs.ReadLists.{Apart}
use Rattle.node_state.specs.Peers.{is_kept, pair}
use Rattle.node_state.proofs.PeerMaps.{devices}
use Rattle.node_state.proofs.reading.keep.Given as goal

abbrev pub invariant-loop-at : goal.invariant-loop-at
invariant-loop-at l = record {
  once : Apart (devices (take l.at l.peers));
  value : l.kept ≡ from_entries (filter is_kept (map pair (take l.at l.peers)));
}
