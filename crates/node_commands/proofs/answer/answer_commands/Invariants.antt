use Rattle.node_commands.specs.Read.{ArePassed}
use Rattle.node_commands.proofs.answer.answer_commands.Given as goal

abbrev pub invariant-loop : goal.invariant-loop
invariant-loop g l =
    (goal.iterator-loop g).can_next l.iterator' × (goal.iterator-loop g).is_finite l.iterator' × ArePassed g.L.CommandLines.gives l.initial.lines l.lines
