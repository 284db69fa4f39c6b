use Rattle.std.proofs.lemmas.Bool.{true≢false}
use Rattle.std.proofs.Common.{◌∙◌, sym}
use Rattle.node_config.proofs.AddressLemmas.{no_port, port_of}
use Rattle.node_config.proofs.address.read_port.Goals as goal

pub returns : goal.returns
returns c =
    port_of c.args.digits.now c.read_number.result (λ is. true≢false (sym (c.has_leading_zero.ensures.1 is) ∙ c.if-has_leading_zero.false)) c.read_number.ensures
