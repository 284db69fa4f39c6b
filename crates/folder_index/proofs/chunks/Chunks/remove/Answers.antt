use Rattle.std.proofs.Common.{◌-◌, ap}
use Rattle.folder_index.proofs.Chunked.{counted_less, counted_same}
use Rattle.folder_index.proofs.chunks.Chunks.remove.Goals as goal

pub returns-then-take-clause-counted : goal.returns-then-take-clause-counted
returns-then-take-clause-counted c =
    counted_less c.args.self.now (record { chunks = c.take.new.self.chunks; count = c.take.new.self.count - 1 }) c.args.name.now c.take.result c.take.ensures.found c.take.ensures.taken c.requires.counted c.if-take.true
    (ap (λ k. k - 1) c.take.ensures.count)

pub returns-else-take-clause-counted : goal.returns-else-take-clause-counted
returns-else-take-clause-counted c =
    counted_same c.args.self.now c.take.new.self c.args.name.now c.take.result c.take.ensures.found c.take.ensures.taken c.requires.counted c.if-take.false c.take.ensures.count
