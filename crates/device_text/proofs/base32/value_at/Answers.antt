use Rattle.std.proofs.Common.{◌-◌, ◌*◌, ◌/◌, ◌%◌, ◌∙◌, arith}
use Rattle.device_text.proofs.Window.{value_is}
use Rattle.device_text.proofs.base32.value_at.Goals as goal

pub returns : goal.returns
returns c =
    let k = c.args.place in
    value_is c.args.identity.now k (5 * k / 8) (5 * k % 8) (11 - 5 * k % 8) c.from.result c.from-2.result
    c.told-identity c.fits-identity c.requires (omega arith) (omega arith) (omega arith)
    (c.from.ensures ∙ c.byte_at-first.ensures) (c.from-2.ensures ∙ c.byte_at-second.ensures)
