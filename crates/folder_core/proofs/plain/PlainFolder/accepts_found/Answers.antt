use Rattle.std.proofs.Common.{◌≡◌, ap, ◌∙◌}
use Rattle.std.specs.Prelude.{filter, option_copied}
use Rattle.folder_core.specs.PlainReads.{record_from}
use Rattle.folder_core.proofs.PlainGroup.{is_named}
use Rattle.folder_core.proofs.PlainScan.{found-accepted}
use Rattle.folder_core.proofs.plain.PlainFolder.accepts_found.Goals as goal

pub returns : goal.returns
returns c =
    let f = c.self.inside in
    let n = c.args.name.now in
    let es = f.entries.items in
    let ps = f.pulls.items in
    let group : c.entries_of.result.now ≡ filter (is_named n) es = c.entries_of.ensures ∙ ap (filter (is_named n)) c.as_slice.ensures.value in
    let found : option_copied c.record_from-local.result ≡ record_from f.me (filter (is_named n) es) = c.record_from-local.ensures ∙ ap (record_from f.me) group in
    rw (← c.self.view_is) (λ moment. found-accepted f.me es _ f.last ps c.self.invariant n (option_copied c.record_from-local.result) found c.deref.result.now c.deref.ensures.value (option_copied c.args.expected) c.is_same-is_unchanged.result c.scan_obstacle.result c.scan_obstacle.ensures c.args.found.now moment c.is_same-is_unchanged.ensures c.is_none.result c.is_none.ensures)
