use Rattle.std.proofs.Common.{◌≡◌, ◌∙◌, take, ap, arith}
use Rattle.std.specs.FinMap.{get, get-empty}
use Rattle.std.proofs.lemmas.Grind.{common_steps}
use Rattle.sync_record.specs.Devices.{bytes_cmp}
use Rattle.node_state.specs.Peers.{Peers}
use Rattle.node_replay.proofs.Peers.{seen, seen-all, seen-more}
use Rattle.node_replay.proofs.recovering.copied.Goals as goal

pub loop-kept-init : goal.loop-kept-init
loop-kept-init c = λ d. ap (λ (m : Peers). get m d) c.new-copy.ensures ∙ get-empty bytes_cmp d

pub loop-kept-preserved : goal.loop-kept-preserved
loop-kept-preserved c = λ d.
    ap (λ (m : Peers). get m d) c.in_ok-insert.ensures.ok
    ∙ seen-more c.args.peers.now c.as_slice-kept-items.result.now c.as_slice-kept-items.ensures c.loop-kept.kept-index c.kept-item.result c.loop-kept-test.true c.kept-item.is c.loop-kept.copy c.loop-kept.invariant d

pub returns : goal.returns
returns c =
    let ps = c.as_slice-kept-items.result.now in
    let all : take c.loop-kept.kept-index ps ≡ ps = grind (arith, common_steps) in
    seen-all c.args.peers.now ps c.as_slice-kept-items.ensures c.loop-kept.copy (λ d. c.loop-kept.invariant d ∙ ap (seen d) all)
