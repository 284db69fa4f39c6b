use Rattle.std.proofs.Common.{◌≡◌, ap, ◌∙◌}
use Rattle.std.specs.Prelude.{filter}
use Rattle.folder_core.specs.Plain.{group_best, pulls_of}
use Rattle.folder_core.proofs.PlainFound.{best_is_found}
use Rattle.folder_core.proofs.PlainGroup.{is_named}
use Rattle.folder_core.proofs.ListTests.{ok_then}
use Rattle.folder_core.proofs.plain.PlainFolderFolderCore.best.Goals as goal

pub returns-clause-found : goal.returns-clause-found
returns-clause-found c =
    let group : c.entries_of-group.result.now ≡ filter (is_named c.args.name.now) c.self.inside.entries.items = c.entries_of-group.ensures ∙ ap (filter (is_named c.args.name.now)) c.as_slice.ensures.value in
    let found = ap group_best group ∙ best_is_found c.self.inside.me c.args.name.now _ c.self.inside.last (pulls_of c.self.inside.pulls.items) c.self.invariant.rises in
    rw (← c.self.view_is) (ok_then c.best_with_devices.result (λ b is. is ∙ found) c.best_with_devices.ensures.found)

pub returns-clause-none : goal.returns-clause-none
returns-clause-none c =
    let group : c.entries_of-group.result.now ≡ filter (is_named c.args.name.now) c.self.inside.entries.items = c.entries_of-group.ensures ∙ ap (filter (is_named c.args.name.now)) c.as_slice.ensures.value in
    let found = ap group_best group ∙ best_is_found c.self.inside.me c.args.name.now _ c.self.inside.last (pulls_of c.self.inside.pulls.items) c.self.invariant.rises in
    rw (← c.self.view_is) (λ none. c.best_with_devices.ensures.none (found ∙ none))
