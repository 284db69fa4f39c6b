use Rattle.node_config.proofs.AddressLemmas.{cut_at}
use Rattle.node_config.proofs.address.at_colon.Goals as goal

pub returns : goal.returns
returns c = cut_at c.args.text.now c.split_once.result c.split_once.ensures.cases
