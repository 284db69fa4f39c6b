use Rattle.std.proofs.Common.{rules}
use Rattle.bepd.proofs.Counting.{appends_more, writes_kept, writes_more}
use Rattle.bepd.proofs.counted.write_whole.Goals as goal

pub returns-in_err-count-clause-front : goal.returns-in_err-count-clause-front
returns-in_err-count-clause-front g c =
    writes_kept (g.W.Write.contents c.args.writer.now) (g.W.Write.contents c.loop-at.writer) (g.W.Write.contents c.write_again.new.writer)
    c.args.bytes.now c.loop-at.at c.loop-at.invariant.put c.in_err-count.ensures.bytes

pub returns-in-0-clause-front : goal.returns-in-0-clause-front
returns-in-0-clause-front g c =
    writes_more (g.W.Write.contents c.args.writer.now) (g.W.Write.contents c.loop-at.writer) (g.W.Write.contents c.write_again.new.writer)
    c.args.bytes.now c.loop-at.at c.in_ok-count.count c.loop-at.invariant.put c.in_ok-count.ensures.bytes

pub loop-at-preserved : goal.loop-at-preserved
loop-at-preserved g c = record {
  within = search rules;
  put = appends_more (g.W.Write.contents c.args.writer.now) (g.W.Write.contents c.loop-at.writer) (g.W.Write.contents c.write_again.new.writer)
      c.args.bytes.now c.loop-at.at c.in_ok-count.count c.loop-at.invariant.put c.in_ok-count.ensures.bytes;
}
