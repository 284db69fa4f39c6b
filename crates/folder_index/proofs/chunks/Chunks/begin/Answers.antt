use Rattle.std.proofs.Common.{arith}
use Rattle.folder_index.proofs.Chunked.{begun_filled}
use Rattle.folder_index.proofs.chunks.Chunks.begin.Goals as goal

pub returns-clause-filled : goal.returns-clause-filled
returns-clause-filled c =
    begun_filled c.args.self.now c.args.at c.push_reserved.new.self c.insert.new.self c.args.self.now.count c.requires.filled
    (omega (arith, c.push_reserved.ensures.len)) c.in_ok-insert.ensures.items
