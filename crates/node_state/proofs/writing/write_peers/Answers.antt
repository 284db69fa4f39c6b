use Rattle.std.proofs.Common.{◌∙◌, refl}
use Rattle.bep_messages.specs.Forms.{form}
use Rattle.bep_messages.proofs.Written.{list_none}
use Rattle.node_state.specs.Tables.{peer_table}
use Rattle.node_state.proofs.Peers.{kept-true, kept-false, peer-more, peer-skipped, fit-more, fit-skipped}
use Rattle.node_state.proofs.PeerMaps.{pairs-more, pairs-skipped}
use Rattle.node_state.proofs.writing.write_peers.Goals as goal
use Rattle.node_state.proofs.writing.write_peers.Goals.{then-peer-ne0+in_ok-write_peer, else-peer-ne0}

pub loop-peer-init : goal.loop-peer-init
loop-peer-init c = record { ok = list_none 5 (form peer_table) _; fits = tt; back = tt; kept = refl }

pub loop-peer-preserved : goal.loop-peer-preserved
loop-peer-preserved c =
    let items = c.args.peers.now in
    let at = c.loop-peer.peer-index in
    elim c.if-peer-ne0.branch [
      | then-peer-ne0+in_ok-write_peer w ↦
          let kept = kept-true c.peer-item.result w.if-peer-ne0.true in
          rw w.out-is (record {
            ok = peer-more items at c.peer-item.result c.loop-peer-test.true c.peer-item.is kept c.loop-peer.invariant.ok w.in_ok-write_peer.ensures.ok;
            fits = fit-more items at c.peer-item.result c.loop-peer-test.true c.peer-item.is kept c.loop-peer.invariant.fits w.in_ok-write_peer.ensures.fits;
            back = pairs-more items at c.peer-item.result c.loop-peer-test.true c.peer-item.is kept c.loop-peer.invariant.back w.in_ok-write_peer.ensures.back;
            kept = w.in_ok-write_peer.ensures.kept ∙ c.loop-peer.invariant.kept;
          })
      | else-peer-ne0 w ↦
          let kept = kept-false c.peer-item.result w.if-peer-ne0.false in
          rw w.out-is (record {
            ok = peer-skipped items at c.peer-item.result c.loop-peer-test.true c.peer-item.is kept c.loop-peer.invariant.ok;
            fits = fit-skipped items at c.peer-item.result c.loop-peer-test.true c.peer-item.is kept c.loop-peer.invariant.fits;
            back = pairs-skipped items at c.peer-item.result c.loop-peer-test.true c.peer-item.is kept c.loop-peer.invariant.back;
            kept = c.loop-peer.invariant.kept;
          })
    ]
