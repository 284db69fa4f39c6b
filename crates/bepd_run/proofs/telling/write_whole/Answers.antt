use Rattle.std.proofs.Common.{rules}
use Rattle.bepd_run.proofs.Fronts.{appends_more}
use Rattle.bepd_run.proofs.telling.write_whole.Goals as goal

pub loop-at-preserved : goal.loop-at-preserved
loop-at-preserved g c = record {
  within = search rules;
  put = appends_more (g.W.Write.contents c.args.to.now) (g.W.Write.contents c.loop-at.to) (g.W.Write.contents c.write.new.to)
      c.args.bytes.now c.loop-at.at c.in_ok-count.count c.loop-at.invariant.put c.in_ok-count.ensures.bytes;
}
