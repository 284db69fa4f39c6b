use Rattle.std.proofs.Common.{arith}
use Rattle.bep_wire.proofs.Groups.{ends_at_once}
use Rattle.bep_wire.proofs.reading.varint.Goals as goal

pub returns-then-only-lt128 : goal.returns-then-only-lt128
returns-then-only-lt128 c =
    (ends_at_once c.args.from c.args.source.now c.if-from-source.true c.if-only-lt128.true, omega arith, omega (arith, c.if-from-source.true))
