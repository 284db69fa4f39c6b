use Rattle.std.proofs.Common.{◌≡◌, ◌∙◌, ◌<◌, ◌+◌, ◌++◌, ◌∷◌, [], List, length, get_or, sym, ap, subst, take, arith}
use Rattle.std.specs.Prelude.{map}
use Rattle.std.proofs.lemmas.List.{length-append, map-append, take_more}
use Rattle.node_config.specs.declared.config.PeerConfig.{PeerConfig}
use Rattle.node_resume.specs.declared.shares.Share.{Share}
use Rattle.bepd_run.specs.Starts.{ArePeers, IsPeer}
use Rattle.bepd_run.proofs.Starting.{each-more}
use Rattle.bepd_run.proofs.starts.peers_of.Goals as goal

pub loop-place-preserved : goal.loop-place-preserved
loop-place-preserved c =
    let ps : List PeerConfig = c.args.config.now.peers in
    let i = c.loop-place.place in
    let v = c.index-shares-place.result in
    let all = c.requires in
    let count : length c.loop-place.peers.items ≡ i = c.loop-place.invariant.count in
    let here = c.loop-place-test.true in
    let grown : c.push.new.self.items ≡ c.loop-place.peers.items ++ c.in_ok-peer_of.field-0 ∷ [] = c.in_ok-push.ensures.items in
    let lt : length c.loop-place.peers.items < length ps = omega arith in
    let x : PeerConfig = c.index-as_slice-place.result in
    let at : x ≡ get_or ps (length c.loop-place.peers.items) x = c.index-as_slice-place.is ∙ (λ j. get_or (c.as_slice.ensures j) (sym count j) x) in
    let is : IsPeer x v.items c.in_ok-peer_of.field-0 = subst (λ (l : List Share). IsPeer x l c.in_ok-peer_of.field-0) c.as_slice-in-loop-place.ensures.value c.in_ok-peer_of.ensures in
    let came : List (List Share) = map (λ s. s.items) (take i c.args.shares.now) in
    let one = each-more (λ s n p. IsPeer p s n) came c.loop-place.peers.items ps v.items c.in_ok-peer_of.field-0 x c.loop-place.invariant.each lt at is in
    let more : map (λ s. s.items) (take (i + 1) c.args.shares.now) ≡ came ++ v.items ∷ [] =
    ap (map (λ s. s.items)) (take_more c.args.shares.now i v here ∙ ap (λ y. take i c.args.shares.now ++ y ∷ []) (sym c.index-shares-place.is))
    ∙ map-append (λ s. s.items) (take i c.args.shares.now) (v ∷ []) in
    let long : length c.push.new.self.items ≡ length c.loop-place.peers.items + 1 = ap length grown ∙ length-append c.loop-place.peers.items (c.in_ok-peer_of.field-0 ∷ []) in
    record {
      count = omega arith;
      each = subst (λ l. ArePeers l c.push.new.self.items ps) (sym more) (subst (λ l. ArePeers (came ++ v.items ∷ []) l ps) (sym grown) one);
    }
