use Rattle.std.proofs.Common.{List, sym, ap, ◌∙◌}
use Rattle.std.proofs.lemmas.Bool.{true≢false}
use Rattle.folder_core.specs.declared.announcement.Announcement.{Announcement as Entry}
use Rattle.folder_core.specs.Plain.{pulls_of}
use Rattle.folder_core.specs.PlainReads.{later_from}
use Rattle.folder_core.specs.Reads.{by_sequence, page_of}
use Rattle.folder_core.proofs.PlainSince.{since_is}
use Rattle.folder_core.proofs.plain.PlainFolderFolderCore.local_since.Goals as goal

pub returns-clause-page : goal.returns-clause-page
returns-clause-page c =
    let me = c.self.inside.me in
    let listed = ap (λ (es : List Entry). page_of c.args.limit (by_sequence (later_from me c.args.sequence es))) c.as_slice.ensures.value in
    rw (← c.self.view_is) (c.from_vec.ensures ∙ c.in_ok-page.ensures.page ∙ listed ∙ since_is me _ c.self.inside.last (pulls_of c.self.inside.pulls.items) c.self.invariant.rises c.args.sequence c.args.limit)

pub returns-in_err-page-clause-none : goal.returns-in_err-page-clause-none
returns-in_err-page-clause-none c =
    let me = c.self.inside.me in
    let page = ap (λ (es : List Entry). page_of c.args.limit (by_sequence (later_from me c.args.sequence es))) c.as_slice.ensures.value ∙ since_is me _ c.self.inside.last (pulls_of c.self.inside.pulls.items) c.self.invariant.rises c.args.sequence c.args.limit in
    rw (← c.self.view_is) (λ none. absurd (true≢false (sym (c.in_err-page.ensures.none (page ∙ none)))))
