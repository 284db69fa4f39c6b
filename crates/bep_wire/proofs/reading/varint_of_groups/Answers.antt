use Rattle.std.proofs.Common.{arith}
use Rattle.bep_wire.proofs.Groups.{varint_starts, goes_on, ends, stops, is_long}
use Rattle.bep_wire.proofs.reading.varint_of_groups.Goals as goal

pub loop-turn-init : goal.loop-turn-init
loop-turn-init c = record { at = omega arith; within = omega arith; rest = varint_starts _ }

pub returns-then-at-source : goal.returns-then-at-source
returns-then-at-source c = stops _ _ _ _ _ c.loop-turn-test.true c.if-at-source.true c.loop-turn.invariant.rest

pub returns-then-byte-lt128 : goal.returns-then-byte-lt128
returns-then-byte-lt128 c =
    (ends _ _ _ _ _ c.loop-turn-test.true c.if-at-source.false c.if-byte-lt128.true c.loop-turn.invariant.rest, omega arith, omega arith)

pub loop-turn-preserved : goal.loop-turn-preserved
loop-turn-preserved c = record {
  at = omega arith;
  within = omega arith;
  rest = goes_on _ _ _ _ _ c.loop-turn-test.true c.if-at-source.false c.if-byte-lt128.false c.loop-turn.invariant.rest;
}

pub returns : goal.returns
returns c = is_long c.loop-turn.value c.loop-turn.turn c.loop-turn.at c.args.source.now _ c.loop-turn-test.false c.loop-turn.invariant.rest
