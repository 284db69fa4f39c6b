use Rattle.std.proofs.Common.{◌≡◌, length, map, take}
use Rattle.std.specs.Prelude.{filter}
use Rattle.node_state.specs.Peers.{is_kept, pair}
use Rattle.std.specs.List.{AllByRecursion}
use Rattle.bep_messages.specs.Forms.{form, list_form, Fits, IsShort}
use Rattle.bep_messages.specs.Writing.{Adds}
use Rattle.node_state.specs.Tables.{peer_table}
use Rattle.node_state.proofs.Peers.{written_of}
use Rattle.node_state.proofs.writing.write_peers.Given as goal

abbrev pub invariant-loop-peer : goal.invariant-loop-peer
invariant-loop-peer l =
    let front = written_of (take l.peer-index l.peers) in
    record {
      ok : Adds l.fn.out (list_form 5 (form peer_table) front) l.out;
      fits : AllByRecursion (λ v. Fits peer_table v × IsShort (form peer_table v)) front;
      back : AllByRecursion (λ p. length p.0 ≡ 32) (filter is_kept (map pair (take l.peer-index l.peers)));
      kept : l.out.kept ≡ l.fn.out.kept;
    }
