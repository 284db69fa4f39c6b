use Rattle.bep_wire.proofs.Places.{finds, reads}
use Rattle.bep_wire.proofs.reading.next_field.Goals as goal

pub returns-clause-grammar : goal.returns-clause-grammar
returns-clause-grammar c = finds c.args.source.now c.args.from c.field.result c.field.ensures

pub returns-clause-reading : goal.returns-clause-reading
returns-clause-reading c = reads c.args.source.now c.args.from c.field.result c.field.ensures
