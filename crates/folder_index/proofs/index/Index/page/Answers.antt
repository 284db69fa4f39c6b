use Rattle.std.proofs.Common.{◌++◌, ap, ◌∙◌}
use Rattle.std.specs.FinMap.{values}
use Rattle.folder_core.specs.Reads.{page_of}
use Rattle.folder_core.proofs.ListTests.{ok_then}
use Rattle.folder_index.specs.Locals.{all_local}
use Rattle.folder_index.specs.Sequences.{later_than}
use Rattle.folder_index.proofs.Lately.{later_of_both}
use Rattle.folder_index.proofs.Since.{page_is}
use Rattle.folder_index.proofs.index.Index.page.Goals as goal

pub returns-clause-page : goal.returns-clause-page
returns-clause-page c =
    let i = c.self.inside in
    let q = c.args.sequence in
    let is =
    ap (λ rs. page_of c.args.limit (later_than q (values i.local.records) ++ later_than q rs)) c.records-latest.ensures
    ∙ ap (page_of c.args.limit) (later_of_both q i.local.latest.records i.local.records c.self.invariant.kept.latest)
    ∙ page_is i.names (all_local i.local) c.self.invariant.locals q c.args.limit in
    rw (← c.self.view_is) (ok_then c.page_with.result (λ p e. e ∙ is) c.page_with.ensures.page)

pub returns-clause-none : goal.returns-clause-none
returns-clause-none c =
    let i = c.self.inside in
    let q = c.args.sequence in
    let is =
    ap (λ rs. page_of c.args.limit (later_than q (values i.local.records) ++ later_than q rs)) c.records-latest.ensures
    ∙ ap (page_of c.args.limit) (later_of_both q i.local.latest.records i.local.records c.self.invariant.kept.latest)
    ∙ page_is i.names (all_local i.local) c.self.invariant.locals q c.args.limit in
    rw (← c.self.view_is) (λ none. c.page_with.ensures.none (is ∙ none))
