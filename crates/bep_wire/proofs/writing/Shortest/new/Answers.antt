use Rattle.std.proofs.Common.{refl, arith}
use Rattle.std.proofs.Math.ListN.{length-set}
use Rattle.bep_wire.proofs.Varints.{shrinks, writes_first, writes_on, writes_last}
use Rattle.bep_wire.proofs.writing.Shortest.new.Goals as goal

pub loop-rest-init : goal.loop-rest-init
loop-rest-init c = record { room = omega arith; wide = refl; below = c.ranges.value.fits; so_far = writes_first c.args.value }

pub loop-rest-preserved : goal.loop-rest-preserved
loop-rest-preserved c =
    let s = shrinks c.loop-rest.rest c.loop-rest.len c.loop-rest.invariant.room c.loop-rest.invariant.below c.loop-rest-test.true in
    record {
      room = omega (arith, s.room);
      wide = simp length-set c.loop-rest.invariant.wide;
      below = s.below;
      so_far = writes_on _ _ _ _ c.loop-rest.invariant.wide s.room c.loop-rest-test.true c.loop-rest.invariant.so_far;
    }

pub returns : goal.returns
returns c = writes_last c.loop-rest.bytes c.loop-rest.len c.loop-rest.rest _ c.loop-rest.invariant.wide c.loop-rest.invariant.room c.loop-rest-test.false c.loop-rest.invariant.so_far
