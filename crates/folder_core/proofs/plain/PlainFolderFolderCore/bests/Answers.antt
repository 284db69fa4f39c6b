use Rattle.std.proofs.Common.{◌≡◌, sym, ap, subst, ◌∙◌}
use Rattle.std.specs.Prelude.{filter, map, option_copied, take}
use Rattle.std.proofs.lemmas.Bool.{true≢false}
use Rattle.folder_core.specs.declared.announcement.Announcement.{Announcement as Entry}
use Rattle.folder_core.specs.Plain.{Rises, listed_bests, pulls_of}
use Rattle.folder_core.specs.Reads.{is_after}
use Rattle.folder_core.proofs.PlainFound.{after_rises, listed_after}
use Rattle.folder_core.proofs.plain.PlainFolderFolderCore.bests.Goals as goal

pub bests_of-requires : goal.bests_of-requires
bests_of-requires c =
    let rest : c.entries_after-rest.result.now ≡ filter (λ (e : Entry). is_after (option_copied c.args.after) e.record.name) c.self.inside.entries.items =
    c.entries_after-rest.ensures ∙ ap (filter (λ (e : Entry). is_after (option_copied c.args.after) e.record.name)) c.as_slice.ensures.value in
    subst Rises (sym rest) (after_rises (option_copied c.args.after) _ c.self.invariant.rises)

pub returns-clause-page : goal.returns-clause-page
returns-clause-page c =
    let rest : c.entries_after-rest.result.now ≡ filter (λ (e : Entry). is_after (option_copied c.args.after) e.record.name) c.self.inside.entries.items =
    c.entries_after-rest.ensures ∙ ap (filter (λ (e : Entry). is_after (option_copied c.args.after) e.record.name)) c.as_slice.ensures.value in
    let page = c.in_ok-page.ensures.page ∙ ap (take c.args.limit) (ap listed_bests rest ∙ listed_after c.self.inside.me (option_copied c.args.after) _ c.self.inside.last (pulls_of c.self.inside.pulls.items) c.self.invariant.rises) in
    rw (← c.self.view_is) (ap (map (λ b. (b.record, b.devices))) c.from_vec.ensures ∙ page)

pub returns-in_err-page-clause-none : goal.returns-in_err-page-clause-none
returns-in_err-page-clause-none c =
    let rest : c.entries_after-rest.result.now ≡ filter (λ (e : Entry). is_after (option_copied c.args.after) e.record.name) c.self.inside.entries.items =
    c.entries_after-rest.ensures ∙ ap (filter (λ (e : Entry). is_after (option_copied c.args.after) e.record.name)) c.as_slice.ensures.value in
    let page = ap (take c.args.limit) (ap listed_bests rest ∙ listed_after c.self.inside.me (option_copied c.args.after) _ c.self.inside.last (pulls_of c.self.inside.pulls.items) c.self.invariant.rises) in
    rw (← c.self.view_is) (λ none. absurd (true≢false (sym (c.in_err-page.ensures.none (page ∙ none)))))
