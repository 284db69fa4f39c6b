use Rattle.std.proofs.Common.{map, sym, ap, ◌∙◌}
use Rattle.folder_core.specs.Plain.{filed}
use Rattle.folder_index.specs.Chunks.{groups_in}
use Rattle.folder_index.proofs.Announcing.{entries_named}
use Rattle.folder_index.proofs.Written.{found_at, none_at}
use Rattle.folder_index.proofs.by_name.ByName.announcements_of.Goals as goal

pub returns-in-Some : goal.returns-in-Some
returns-in-Some c =
    let i = c.self.inside in
    let n = c.args.name.now in
    rw (← c.self.view_is)
    (ap (map filed) (c.entries.ensures ∙ found_at n (groups_in i.names) c.in-Some.group.now (sym c.in-Some.ensures.value))
    ∙ entries_named i.me (groups_in i.names) i.totals c.self.invariant.chunked.are i.choices n)

pub returns-in-None : goal.returns-in-None
returns-in-None c =
    let i = c.self.inside in
    let n = c.args.name.now in
    rw (← c.self.view_is)
    (ap (map filed) (none_at n (groups_in i.names) (sym c.in-None.ensures.value))
    ∙ entries_named i.me (groups_in i.names) i.totals c.self.invariant.chunked.are i.choices n)
