use Rattle.std.proofs.Common.{length, ap, arith}
use Rattle.folder_index.specs.Groups.{name_in}
use Rattle.folder_index.proofs.Chunked.{one_more_group}
use Rattle.folder_index.proofs.Listed.{Groups}
use Rattle.folder_index.proofs.chunks.Chunks.insert.Goals as goal

pub returns-clause-counted : goal.returns-clause-counted
returns-clause-counted c =
    let len = ap (λ (l : Groups). length l) c.in_ok-place.ensures.placed in
    let more = one_more_group (name_in c.args.group) c.args.group c.args.self.now c.args.gap c.requires.gap in
    record {
      all = omega (arith, c.requires.counted.all, c.place.ensures.count);
      few = omega (arith, c.if-self-ge-MAX_COUNT.false, c.place.ensures.count);
    }
