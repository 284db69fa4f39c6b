use Rattle.std.proofs.Common.{List, sym, ap, ◌∙◌}
use Rattle.std.specs.Prelude.{is_some}
use Rattle.folder_core.specs.declared.announcement.Announcement.{Announcement as Entry}
use Rattle.folder_core.specs.PlainReads.{needed_of}
use Rattle.folder_index.specs.Chunks.{groups_in}
use Rattle.folder_index.proofs.Found.{needs_at}
use Rattle.folder_index.proofs.Written.{found_at, none_at}
use Rattle.folder_index.proofs.by_name.ByName.needs.Goals as goal

pub returns-in-Some : goal.returns-in-Some
returns-in-Some c =
    let i = c.self.inside in
    let n = c.args.name.now in
    let found = sym c.in-Some.ensures.value in
    rw (← c.self.view_is)
    ((c.self.invariant.chunked.are.groups n c.in-Some.group.now found).needed
    ∙ ap (λ (es : List Entry). is_some (needed_of i.me es)) (found_at n (groups_in i.names) c.in-Some.group.now found)
    ∙ needs_at i.me (groups_in i.names) i.totals c.self.invariant.chunked.are i.choices n)

pub returns-in-None : goal.returns-in-None
returns-in-None c =
    let i = c.self.inside in
    let n = c.args.name.now in
    rw (← c.self.view_is)
    (ap (λ (es : List Entry). is_some (needed_of i.me es)) (none_at n (groups_in i.names) (sym c.in-None.ensures.value))
    ∙ needs_at i.me (groups_in i.names) i.totals c.self.invariant.chunked.are i.choices n)
