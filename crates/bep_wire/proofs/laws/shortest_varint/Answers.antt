use Rattle.bep_wire.proofs.Lemmas.{shortest_spells, shortest_least}
use Rattle.bep_wire.proofs.laws.shortest_varint.Goals as goal

pub returns-clause-is_varint : goal.returns-clause-is_varint
returns-clause-is_varint c = shortest_spells

pub returns-clause-least : goal.returns-clause-least
returns-clause-least c = shortest_least
