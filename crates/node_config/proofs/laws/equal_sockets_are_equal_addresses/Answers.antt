use Rattle.node_config.proofs.AddressLemmas.{same_socket}
use Rattle.node_config.proofs.laws.equal_sockets_are_equal_addresses.Goals as goal

pub returns : goal.returns
returns c = same_socket
