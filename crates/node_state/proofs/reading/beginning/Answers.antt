use Rattle.node_state.specs.Written.{second_line}
use Rattle.node_state.proofs.States.{after-line}
use Rattle.node_state.proofs.reading.beginning.Goals as goal

pub returns-in-Some-strip_prefix-clause-some : goal.returns-in-Some-strip_prefix-clause-some
returns-in-Some-strip_prefix-clause-some c =
    let h = c.in-Some-strip_prefix.ensures.cases in
    after-line second_line c.args.text.now c.in-Some-strip_prefix.body.now h.0 h.1
