use Rattle.std.proofs.Common.{sym, ap, ◌∙◌}
use Rattle.folder_core.specs.PlainReads.{record_from}
use Rattle.folder_index.specs.Chunks.{groups_in}
use Rattle.folder_index.proofs.Found.{record_at}
use Rattle.folder_index.proofs.Written.{found_at, none_at}
use Rattle.folder_index.proofs.by_name.ByName.get.Goals as goal

pub returns-in-Some : goal.returns-in-Some
returns-in-Some c =
    let i = c.self.inside in
    let n = c.args.name.now in
    rw (← c.self.view_is)
    (c.record_from.ensures
    ∙ ap (record_from c.args.device) (c.entries.ensures ∙ found_at n (groups_in i.names) c.in-Some.group.now (sym c.in-Some.ensures.value))
    ∙ record_at i.me (groups_in i.names) i.totals c.self.invariant.chunked.are i.choices n c.args.device)

pub returns-in-None : goal.returns-in-None
returns-in-None c =
    let i = c.self.inside in
    let n = c.args.name.now in
    rw (← c.self.view_is)
    (ap (record_from c.args.device) (none_at n (groups_in i.names) (sym c.in-None.ensures.value))
    ∙ record_at i.me (groups_in i.names) i.totals c.self.invariant.chunked.are i.choices n c.args.device)
