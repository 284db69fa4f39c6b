use Rattle.bep_messages.specs.Values.{value}
use Rattle.node_state.specs.declared.entry.Entry.{Entry}
use Rattle.node_state.specs.Tables.{entry_table}
use Rattle.node_state.proofs.Entries.{is-entry, is-announced}
use Rattle.node_state.proofs.reading.read_entry.Goals as goal

pub returns-in-Ok-clause-ok : goal.returns-in-Ok-clause-ok
returns-in-Ok-clause-ok c =
    let e : Entry = c.in_ok-device.field-0 in
    let v = value entry_table c.args.bytes.now in
    let here = c.in_ok-device.ensures.ok in
    let read = c.in_ok-device-2.ensures.ok in
    let named = c.in-Ok.ensures.answer in
    ((here.0, is-entry e v here.1 read.0 named.0), is-announced e v here.1 _ _ read.1 named.1)
