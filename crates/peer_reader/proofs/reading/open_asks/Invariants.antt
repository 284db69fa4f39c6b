use Rattle.peer_reader.specs.Reading.{OnlyOpens}
use Rattle.peer_reader.proofs.reading.open_asks.Given as goal

abbrev pub invariant-loop : goal.invariant-loop
invariant-loop g l = OnlyOpens l.initial.session l.session
