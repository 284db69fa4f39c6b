use Rattle.std.proofs.Common.{◌≡◌, ◌∙◌, ℕ, ◌<◌, ◌≤◌, List, length, get_or, take, map, min, refl, sym, ap, arith}
use Rattle.std.specs.FinMap.{empty}
use Rattle.std.specs.List.{flat_map, zip}
use Rattle.std.proofs.Math.ListN.{get_or-map}
use Rattle.std.proofs.lemmas.List.{length-map, take_all}
use Rattle.node_config.specs.declared.config.PeerConfig.{PeerConfig}
use Rattle.node_state.specs.Peers.{Peers}
use Rattle.node_resume.specs.declared.shares.Share.{Share}
use Rattle.node_resume.specs.Left.{numbers_of}
use Rattle.node_resume.proofs.KeptNumbers.{OfPeer, keep, of_peer, peers-more, three-at, three-long}
use Rattle.node_resume.proofs.leaving.peers_left.Goals as goal

pub loop-i-preserved : goal.loop-i-preserved
loop-i-preserved c =
    let peers : List PeerConfig = c.args.peers.now in
    let shares : List (List Share) = map (λ s. s.items) c.args.shares.now in
    let kept : List (List ℕ) = map (λ k. k.items) c.args.kept.now in
    let i : ℕ = c.loop-i.i in
    let s : List Share = c.index-shares-i.result.items in
    let k : List ℕ = c.index-kept-i.result.items in
    let p : OfPeer = (c.index-peers-i.result, (s, k)) in
    let ls : length shares ≡ length c.args.shares.now = length-map c.args.shares.now (λ s. s.items) in
    let lk : length kept ≡ length c.args.kept.now = length-map c.args.kept.now (λ k. k.items) in
    let es : s ≡ get_or shares i s = ap (λ v. v.items) c.index-shares-i.is ∙ sym (get_or-map (λ v. v.items) c.args.shares.now i c.index-shares-i.result) in
    let ek : k ≡ get_or kept i k = ap (λ v. v.items) c.index-kept-i.is ∙ sym (get_or-map (λ v. v.items) c.args.kept.now i c.index-kept-i.result) in
    let is : p ≡ get_or (zip peers (zip shares kept)) i p = three-at peers shares kept i p.0 s k (omega arith) (omega arith) (omega arith) c.index-peers-i.is es ek in
    let long = three-long peers shares kept in
    let below : i < length (zip peers (zip shares kept)) = omega arith in
    c.in_ok-keep_numbers.ensures
    ∙ (λ j. keep c.loop-i.indexes (numbers_of c.args.place (sym c.index-peers-i.is j).device (c.deref.ensures.value j) (c.deref-in-loop-i.ensures.value j)))
    ∙ ap (λ (m : Peers). keep m (of_peer c.args.place p)) c.loop-i.invariant
    ∙ sym (peers-more c.args.place empty (zip peers (zip shares kept)) i p below is)

pub returns : goal.returns
returns c =
    let peers : List PeerConfig = c.args.peers.now in
    let shares : List (List Share) = map (λ s. s.items) c.args.shares.now in
    let kept : List (List ℕ) = map (λ k. k.items) c.args.kept.now in
    let ls : length shares ≡ length c.args.shares.now = length-map c.args.shares.now (λ s. s.items) in
    let lk : length kept ≡ length c.args.kept.now = length-map c.args.kept.now (λ k. k.items) in
    let long = three-long peers shares kept in
    let all : length (zip peers (zip shares kept)) ≤ c.loop-i.i = omega arith in
    c.loop-i.invariant ∙ ap (λ l. keep empty (flat_map (of_peer c.args.place) l)) (take_all c.loop-i.i (zip peers (zip shares kept)) all)
