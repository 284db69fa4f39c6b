use Rattle.std.proofs.Common.{refl}
use Rattle.peer_asks.proofs.book.Shared.look.Goals as goal

pub returns-in-Bytes-clause-same : goal.returns-in-Bytes-clause-same
returns-in-Bytes-clause-same g c same = (c.in-Bytes.came, c.in-Bytes.ensures.same same, refl)
