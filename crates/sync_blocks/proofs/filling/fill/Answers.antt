use Rattle.std.proofs.Common.{◌≡◌, ◌-◌, rules, arith, length}
use borrow.Rule.Slice.PartMut.{put_mid}
use Rattle.sync_blocks.proofs.Filled.{filled_more, filled_kept}
use Rattle.sync_blocks.proofs.filling.fill.Goals as goal
use Rattle.sync_blocks.proofs.filling.fill.Goals.{in-Ok, in-Err}

pub loop-preserved : goal.loop-preserved
loop-preserved g c =
    let at = c.loop.filled in
    let old = c.loop.buffer in
    let part = c.read.new.buf in
    let within = c.loop.invariant.within in
    let same : length (put_mid at (length old - at) old part) ≡ length old = search rules in
    record {
      len = search rules;
      within = elim c.match-read.branch [
        | in-Ok w ↦ omega (arith, same, w.in-Ok.ensures.bound.0)
        | in-Err w ↦ omega (arith, same)
      ];
      bytes = elim c.match-read.branch [
        | in-Ok w ↦ rw w.filled-is (filled_more at w.in-Ok.count old part within _ _ _ w.in-Ok.ensures.bound.0 c.loop.invariant.bytes w.in-Ok.ensures.bytes.0)
        | in-Err w ↦ rw w.filled-is (filled_kept at 0 old part within _ _ _ c.loop.invariant.bytes w.in-Err.ensures.bytes)
      ];
    }
