use Rattle.std.proofs.Common.{◌-◌, ◌*◌, ◌/◌, ◌%◌, arith}
use Rattle.device_text.proofs.Window.{byte_is}
use Rattle.device_text.proofs.base32.byte_of.Goals as goal

pub returns : goal.returns
returns c =
    let k = c.args.place in
    byte_is c.args.values.now k (8 * k / 5) (8 * k % 5) (7 - 8 * k % 5) c.from.result c.from-2.result c.from-3.result
    (omega arith) c.requires.small c.requires.place (omega arith) (omega arith) (omega arith)
    c.from.ensures c.from-2.ensures c.from-3.ensures
