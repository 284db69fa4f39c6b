use Rattle.std.proofs.Common.{arith}
use Rattle.sync_scan.proofs.CutLemmas.{grown-front}
use Rattle.sync_scan.proofs.ahead.grow.Goals as goal

pub returns-clause-front : goal.returns-clause-front
returns-clause-front c = grown-front c.resize.result c.args.buffer.now.items c.resize.new.self.items _ c.args.len c.resize.ensures.items (omega arith)
