use Rattle.node_journal.specs.Format.{first_line}
use Rattle.node_journal.proofs.Headers.{after-line, found-there}
use Rattle.node_journal.proofs.reading.read_header.Goals as goal

pub returns-in-Some-clause-some : goal.returns-in-Some-clause-some
returns-in-Some-clause-some c =
    let h = c.in-Some.ensures.cases in
    found-there c.header_of.result c.args.bytes.now c.in-Some.after.now (after-line first_line c.args.bytes.now c.in-Some.after.now h.0 h.1) c.header_of.ensures.some
