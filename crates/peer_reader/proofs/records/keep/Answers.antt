use Rattle.std.proofs.Common.{length, ap, arith}
use Rattle.peer_reader.proofs.KeepLemmas.{front_fewer}
use Rattle.peer_reader.specs.Records.{kept_records}
use Rattle.peer_reader.proofs.records.keep.Goals as goal

pub overflow_sub-skipped : goal.overflow_sub-skipped
overflow_sub-skipped c =
    let fewer = front_fewer c.loop-info.records.items (kept_records c.loop-info.files.items) c.args.files c.loop-info.invariant in
    let same = ap length c.as_slice-count.ensures in
    omega (arith, fewer, same)
