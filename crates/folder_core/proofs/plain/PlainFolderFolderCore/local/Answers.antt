use Rattle.std.proofs.Common.{◌≡◌, ap, ◌∙◌}
use Rattle.std.specs.Prelude.{filter}
use Rattle.folder_core.specs.Plain.{pulls_of}
use Rattle.folder_core.specs.PlainReads.{record_from}
use Rattle.folder_core.proofs.PlainGroup.{is_named}
use Rattle.folder_core.proofs.PlainOwn.{local_is}
use Rattle.folder_core.proofs.ListTests.{ok_then}
use Rattle.folder_core.proofs.plain.PlainFolderFolderCore.local.Goals as goal

pub returns-clause-found : goal.returns-clause-found
returns-clause-found c =
    let group : c.entries_of.result.now ≡ filter (is_named c.args.name.now) c.self.inside.entries.items = c.entries_of.ensures ∙ ap (filter (is_named c.args.name.now)) c.as_slice.ensures.value in
    let found = ap (record_from c.self.inside.me) group ∙ local_is c.self.inside.me _ c.self.inside.last (pulls_of c.self.inside.pulls.items) c.self.invariant.rises c.args.name.now in
    rw (← c.self.view_is) (ok_then c.copy_from.result (λ r is. is ∙ found) c.copy_from.ensures.found)

pub returns-clause-none : goal.returns-clause-none
returns-clause-none c =
    let group : c.entries_of.result.now ≡ filter (is_named c.args.name.now) c.self.inside.entries.items = c.entries_of.ensures ∙ ap (filter (is_named c.args.name.now)) c.as_slice.ensures.value in
    let found = ap (record_from c.self.inside.me) group ∙ local_is c.self.inside.me _ c.self.inside.last (pulls_of c.self.inside.pulls.items) c.self.invariant.rises c.args.name.now in
    rw (← c.self.view_is) (λ none. c.copy_from.ensures.none (found ∙ none))
