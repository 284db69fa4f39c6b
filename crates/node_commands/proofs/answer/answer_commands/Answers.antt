use Rattle.node_commands.proofs.Passing.{not_last, passed-more}
use Rattle.node_commands.proofs.answer.answer_commands.Goals as goal

pub loop-preserved-in_ok-flush : goal.loop-preserved-in_ok-flush
loop-preserved-in_ok-flush g c = (
  tt,
  tt,
  passed-more g.L.CommandLines.gives c.args.lines.now c.loop.lines c.in-Some-next_within.line c.next_within.new.self c.loop.invariant.2
      (not_last c.is_last.result c.in-Some-next_within.line c.is_last.ensures c.if-is_last.false) c.in-Some-next_within.ensures,
)

pub loop-preserved : goal.loop-preserved
loop-preserved g c = (
  tt,
  tt,
  passed-more g.L.CommandLines.gives c.args.lines.now c.loop.lines c.in-Some-next_within.line c.next_within.new.self c.loop.invariant.2
      (not_last c.is_last.result c.in-Some-next_within.line c.is_last.ensures c.if-is_last.false) c.in-Some-next_within.ensures,
)
