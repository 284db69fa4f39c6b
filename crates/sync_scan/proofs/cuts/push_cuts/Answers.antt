use Rattle.std.proofs.Common.{◌+◌, ◌*◌}
use Rattle.sync_scan.proofs.CutLemmas.{cuts-more}
use Rattle.sync_scan.proofs.cuts.push_cuts.Goals as goal

pub loop-i-preserved : goal.loop-i-preserved
loop-i-preserved c =
    let start = c.args.start in
    let size = c.args.size in
    let s = c.args.block_size in
    let i = c.loop-i.i in
    cuts-more start size s i c.args.cuts.now.items c.loop-i.cuts.items c.push.new.self.items
    (record { start = start + i * s; size = c.min.result; offset = i * s }) c.loop-i.invariant c.in_ok-push.ensures.items
    (λ t. record { start = start + i * s; size = c.min.ensures t; offset = i * s })
