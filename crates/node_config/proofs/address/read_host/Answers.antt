use Rattle.std.proofs.Common.{codes, sym, ◌∙◌}
use Rattle.node_config.proofs.AddressLemmas.{other_host}
use Rattle.node_config.proofs.Steps.{differs}
use Rattle.node_config.proofs.address.read_host.Goals as goal

pub returns : goal.returns
returns c = rw c.ok.ensures.value (other_host c.args.host.now c.parse.result (differs c.args.host.now (codes "localhost") (sym c.eq.ensures ∙ c.if-eq.false)) c.parse.ensures.value)
