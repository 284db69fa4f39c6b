use Rattle.std.proofs.Common.{[]}
use Rattle.std.proofs.lemmas.List.{append-nil}
use Rattle.bep_wire.proofs.reading.read_fields.Goals as goal

pub returns-clause-places : goal.returns-clause-places
returns-clause-places c = rw append-nil at (c.loop-found.invariant.places [] (rw c.in_default.is at c.in_ok-field.ensures.grammar))
