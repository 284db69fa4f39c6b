use Rattle.std.proofs.Common.{◌≡◌, List, sym, ap, subst, ◌∙◌}
use Rattle.std.specs.Prelude.{filter, option_copied, take}
use Rattle.std.proofs.lemmas.Bool.{true≢false}
use Rattle.folder_core.specs.declared.announcement.Announcement.{Announcement as Entry}
use Rattle.folder_core.specs.Plain.{Rises, pulls_of}
use Rattle.folder_core.specs.PlainReads.{needed_names}
use Rattle.folder_core.specs.Reads.{is_after}
use Rattle.folder_core.proofs.PlainFound.{after_rises}
use Rattle.folder_core.proofs.PlainNeed.{page_is}
use Rattle.folder_core.proofs.plain.PlainFolderFolderCore.need.Goals as goal

pub needed_names-requires : goal.needed_names-requires
needed_names-requires c =
    let rest : c.entries_after-rest.result.now ≡ filter (λ (e : Entry). is_after (option_copied c.args.after) e.record.name) c.self.inside.entries.items =
    c.entries_after-rest.ensures ∙ ap (filter (λ (e : Entry). is_after (option_copied c.args.after) e.record.name)) c.as_slice.ensures.value in
    subst Rises (sym rest) (after_rises (option_copied c.args.after) _ c.self.invariant.rises)

pub returns-clause-page : goal.returns-clause-page
returns-clause-page c =
    let me = c.self.inside.me in
    let rest : c.entries_after-rest.result.now ≡ filter (λ (e : Entry). is_after (option_copied c.args.after) e.record.name) c.self.inside.entries.items =
    c.entries_after-rest.ensures ∙ ap (filter (λ (e : Entry). is_after (option_copied c.args.after) e.record.name)) c.as_slice.ensures.value in
    rw (← c.self.view_is) (c.from_vec.ensures ∙ c.in_ok-names.ensures.page ∙ ap (λ (es : List Entry). take c.args.limit (needed_names me es)) rest ∙ page_is me _ c.self.inside.last (pulls_of c.self.inside.pulls.items) c.self.invariant.rises (option_copied c.args.after) c.args.limit)

pub returns-in_err-names-clause-none : goal.returns-in_err-names-clause-none
returns-in_err-names-clause-none c =
    let me = c.self.inside.me in
    let rest : c.entries_after-rest.result.now ≡ filter (λ (e : Entry). is_after (option_copied c.args.after) e.record.name) c.self.inside.entries.items =
    c.entries_after-rest.ensures ∙ ap (filter (λ (e : Entry). is_after (option_copied c.args.after) e.record.name)) c.as_slice.ensures.value in
    let page = ap (λ (es : List Entry). take c.args.limit (needed_names me es)) rest ∙ page_is me _ c.self.inside.last (pulls_of c.self.inside.pulls.items) c.self.invariant.rises (option_copied c.args.after) c.args.limit in
    rw (← c.self.view_is) (λ none. absurd (true≢false (sym (c.in_err-names.ensures.none (page ∙ none)))))
