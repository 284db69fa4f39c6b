use Rattle.std.proofs.Common.{◌≡◌, ◌∙◌, false, rules, refl, sym, subst, inr}
use Rattle.std.specs.Prelude.{MatchResult, Some, bytes_eq, slice_get}
use Rattle.std.specs.List.{position}
use Rattle.std.proofs.lemmas.Option.{slice_get-get_or}
use Rattle.peer_asks.specs.Given.{IsFor, is_out_of_memory}
use Rattle.peer_asks.proofs.Giving.{of_peer, of_wait}
use Rattle.peer_asks.proofs.source.PeerSourceBlockSource.fetch.Goals as goal
use Rattle.peer_asks.proofs.source.PeerSourceBlockSource.fetch.Goals.{in-Some-get_mut, in-None}

pub returns-in-Ok : goal.returns-in-Ok
returns-in-Ok g c =
    let device = g.P.PeerAsks.device in
    let refuses = g.P.PeerAsks.refuses in
    let brings = g.P.PeerAsks.brings in
    let peers = c.args.self.now.peers.items in
    let peer = c.index-peer.result.now in
    let n = c.args.name.now in
    let block = c.args.block.now in
    let found : position (λ p. bytes_eq (device p) c.args.device) peers ≡ Some c.in-Some.at = search rules in
    let at : slice_get peers c.in-Some.at ≡ Some peer = subst (λ x. slice_get peers c.in-Some.at ≡ Some x) (search rules) (slice_get-get_or peers c.in-Some.at peer (search rules)) in
    let asked : MatchResult c.match-get_mut.asked (IsFor (device peer) n block) (refuses peer n block) = elim c.match-get_mut.branch [
      | in-Some-get_mut w ↦ subst (λ r. MatchResult r (IsFor (device peer) n block) (refuses peer n block)) (sym w.asked-is) w.ask-asked.ensures
      | in-None w ↦ subst (λ r. MatchResult r (IsFor (device peer) n block) (refuses peer n block)) (sym w.asked-is) w.ask-asked-in-None.ensures
    ] in
    let is_for = subst (λ r. MatchResult r (IsFor (device peer) n block) (refuses peer n block)) c.in-Ok.is asked in
    record {
      gives = (
        of_peer device refuses brings peers c.args.device n block c.wait_for.result c.wait_for.new.bytes.items c.in-Some.at peer found at
            (of_wait device refuses brings peer n block c.in-Ok.ask c.wait_for.result c.args.bytes.now c.wait_for.new.bytes is_for c.wait_for.ensures),
        refl,
      );
    }

pub returns-in-Err-2 : goal.returns-in-Err-2
returns-in-Err-2 g c =
    let device = g.P.PeerAsks.device in
    let refuses = g.P.PeerAsks.refuses in
    let brings = g.P.PeerAsks.brings in
    let peers = c.args.self.now.peers.items in
    let peer = c.index-peer.result.now in
    let n = c.args.name.now in
    let block = c.args.block.now in
    let found : position (λ p. bytes_eq (device p) c.args.device) peers ≡ Some c.in-Some.at = search rules in
    let at : slice_get peers c.in-Some.at ≡ Some peer = subst (λ x. slice_get peers c.in-Some.at ≡ Some x) (search rules) (slice_get-get_or peers c.in-Some.at peer (search rules)) in
    let asked : MatchResult c.match-get_mut.asked (IsFor (device peer) n block) (refuses peer n block) = elim c.match-get_mut.branch [
      | in-Some-get_mut w ↦ subst (λ r. MatchResult r (IsFor (device peer) n block) (refuses peer n block)) (sym w.asked-is) w.ask-asked.ensures
      | in-None w ↦ subst (λ r. MatchResult r (IsFor (device peer) n block) (refuses peer n block)) (sym w.asked-is) w.ask-asked-in-None.ensures
    ] in
    let refused = subst (λ r. MatchResult r (IsFor (device peer) n block) (refuses peer n block)) c.in-Err-2.is asked in
    let same : c.in-Err.fault ≡ c.in-Err-2.field-0 = cc (c.in-Err.is, c.in-Err-2.is) in
    let other = subst (λ f. is_out_of_memory f ≡ false) same (sym c.is_out_of_memory.ensures ∙ c.if-is_out_of_memory.false) in
    record {
      gives = (
        of_peer device refuses brings peers c.args.device n block false c.args.bytes.now.items c.in-Some.at peer found at (inr (c.in-Err-2.field-0, other, refused)),
        refl,
      );
    }
