use Rattle.std.proofs.Common.{◌≡◌, true, false, List, take, subst, ◌∙◌, arith, rules}
use Rattle.std.specs.List.{list_any}
use Rattle.std.proofs.lemmas.Grind.{common_steps}
use Rattle.std.specs.Prelude.{bytes_eq}
use Rattle.folder_core.proofs.ReadLists.{Apart}
use Rattle.node_state.specs.declared.kept.PeerIndex.{PeerIndex}
use Rattle.node_state.proofs.PeerMaps.{devices, once-of, peers-apart, peers-kept, peers-repeat, peers-skipped}
use Rattle.node_state.proofs.Peers.{kept-true, kept-false}
use Rattle.node_state.proofs.reading.keep.Goals as goal
use Rattle.node_state.proofs.reading.keep.Goals.{then-peer-ne0+in_ok-insert, else-peer-ne0}

pub returns-then-has_device-clause-err : goal.returns-then-has_device-clause-err
returns-then-has_device-clause-err c = λ _ once.
    let p = c.index-peers-at.result in
    let old : list_any (λ (q : PeerIndex). bytes_eq q.device p.device) (take c.loop-at.at c.args.peers.now) ≡ true = search rules in
    peers-repeat c.args.peers.now c.loop-at.at p (search rules) c.index-peers-at.is old once

pub loop-at-preserved : goal.loop-at-preserved
loop-at-preserved c =
    let ps = c.args.peers.now in
    let p = c.index-peers-at.result in
    let new : list_any (λ (q : PeerIndex). bytes_eq q.device p.device) (take c.loop-at.at ps) ≡ false = search rules in
    elim c.if-peer-ne0.branch [
      | then-peer-ne0+in_ok-insert w ↦ record {
        once = peers-apart ps c.loop-at.at p (search rules) c.index-peers-at.is c.loop-at.invariant.once new;
        value = w.kept-is ∙ w.in_ok-insert.ensures.ok
            ∙ peers-kept ps c.loop-at.at p (search rules) c.index-peers-at.is new (kept-true p w.if-peer-ne0.true) c.loop-at.kept c.loop-at.invariant.value;
      }
      | else-peer-ne0 w ↦ record {
        once = peers-apart ps c.loop-at.at p (search rules) c.index-peers-at.is c.loop-at.invariant.once new;
        value = w.kept-is ∙ peers-skipped ps c.loop-at.at p (search rules) c.index-peers-at.is (kept-false p w.if-peer-ne0.false) c.loop-at.kept c.loop-at.invariant.value;
      }
    ]

pub returns-clause-once : goal.returns-clause-once
returns-clause-once c =
    let all : take c.loop-at.at c.args.peers.now ≡ c.args.peers.now = grind (arith, common_steps) in
    once-of c.args.peers.now (subst (λ (ps : List PeerIndex). Apart (devices ps)) all c.loop-at.invariant.once)
