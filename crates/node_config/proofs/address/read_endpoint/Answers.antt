use Rattle.node_config.proofs.AddressLemmas.{no_endpoint}
use Rattle.node_config.proofs.address.read_endpoint.Goals as goal

pub returns-in-None : goal.returns-in-None
returns-in-None c = no_endpoint c.args.text.now c.in_default.ensures c.in-None.ensures
