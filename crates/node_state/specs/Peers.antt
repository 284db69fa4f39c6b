-- The index ids that are kept of peers (own rule).
use Rattle.std.specs.Prelude.{ℕ, Bool, not, ◌==◌}
use Rattle.std.specs.Coded.{Coded, coded_ℕ, coded_list}
use Rattle.std.specs.FinMap.{FinMap, code}
use Rattle.sync_record.specs.Devices.{Identity, bytes_cmp}
use Rattle.node_state.specs.declared.kept.PeerIndex.{PeerIndex}

-- at most one of a peer
abbrev pub Peers : Type 0
Peers = FinMap bytes_cmp ℕ

abbrev pub coded_peers : Coded Peers
coded_peers = code (coded_list coded_ℕ) coded_ℕ

abbrev pub pair : PeerIndex → Identity × ℕ
pair p = (p.device, p.index_id)

-- an index id of 0 says that none is kept
abbrev pub is_kept : Identity × ℕ → Bool
is_kept p = not (p.1 == 0)
