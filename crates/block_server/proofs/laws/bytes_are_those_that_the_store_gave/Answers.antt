use Rattle.block_server.proofs.GivenParts.{said-given}
use Rattle.block_server.proofs.laws.bytes_are_those_that_the_store_gave.Goals as goal

pub returns : goal.returns
returns g c q r old new response serves zero = said-given g.S.FileStore.gives q r old response new serves zero
