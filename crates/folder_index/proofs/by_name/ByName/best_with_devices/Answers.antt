use Rattle.std.proofs.Common.{sym, ◌∙◌}
use Rattle.folder_core.proofs.ListTests.{ok_then}
use Rattle.folder_index.specs.Chunks.{groups_in}
use Rattle.folder_index.proofs.Found.{group_best_is, none_best_is, none_chosen}
use Rattle.folder_index.proofs.by_name.ByName.best_with_devices.Goals as goal

pub returns-in-Some-clause-found : goal.returns-in-Some-clause-found
returns-in-Some-clause-found c =
    let i = c.self.inside in
    let is = group_best_is i.me (groups_in i.names) i.totals c.self.invariant.chunked.are i.choices c.args.name.now c.in-Some.group.now (sym c.in-Some.ensures.value) in
    rw (← c.self.view_is) (ok_then c.best_with_devices.result (λ b e. e ∙ is) c.best_with_devices.ensures.found)

pub returns-in-Some-clause-none : goal.returns-in-Some-clause-none
returns-in-Some-clause-none c =
    let i = c.self.inside in
    let is = group_best_is i.me (groups_in i.names) i.totals c.self.invariant.chunked.are i.choices c.args.name.now c.in-Some.group.now (sym c.in-Some.ensures.value) in
    rw (← c.self.view_is) (λ none. c.best_with_devices.ensures.none (none_chosen c.in-Some.group.now (is ∙ none)))

pub returns-in-None-clause-found : goal.returns-in-None-clause-found
returns-in-None-clause-found c =
    let i = c.self.inside in
    rw (← c.self.view_is) (none_best_is i.me (groups_in i.names) i.totals c.self.invariant.chunked.are i.choices c.args.name.now (sym c.in-None.ensures.value))
