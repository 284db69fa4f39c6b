use Rattle.std.proofs.Common.{length, sym, ap, subst, ◌∙◌}
use Rattle.std.specs.Prelude.{All}
use Rattle.std.proofs.lemmas.Bool.{true≢false}
use Rattle.folder_core.specs.Plain.{IsReady, PullsRise, commits}
use Rattle.folder_core.specs.States.{IsFolder}
use Rattle.folder_core.proofs.ListTests.{ok_then}
use Rattle.folder_core.proofs.PlainRestoreSame.{no-open}
use Rattle.folder_db.specs.Indexed.{IndexedState}
use Rattle.folder_db.proofs.Listing.{copied-state, es, listing_rises, state-is}
use Rattle.folder_db.proofs.folder.IndexedFolderFolderCore.plain_copy.Goals as goal

pub from_parts-requires : goal.from_parts-requires
from_parts-requires c =
    let f = c.self.inside in
    let same = c.in_ok-pulls.ensures.same ∙ c.as_slice.ensures.value in
    record {
      rises = listing_rises f.index.announced c.in_ok-announcements.announcements c.in_ok-announcements.ensures.all;
      pulls_rise = subst PullsRise (sym same) c.self.invariant.pulls_rise;
      folder = subst IsFolder (sym (copied-state f.index f.last f.pulls.items f.copies.items c.self.invariant c.me.result c.me.ensures c.in_ok-announcements.announcements c.in_ok-announcements.ensures.all c.in_ok-pulls.pulls.items same)) c.self.invariant.folder;
      ready = subst (All IsReady) (sym same) c.self.invariant.ready;
    }

pub returns-clause-copy : goal.returns-clause-copy
returns-clause-copy c =
    let f = c.self.inside in
    let same = c.in_ok-pulls.ensures.same ∙ c.as_slice.ensures.value in
    rw (← c.self.view_is) (ok_then c.from_parts.result (λ x is. is ∙ copied-state f.index f.last f.pulls.items f.copies.items c.self.invariant c.me.result c.me.ensures c.in_ok-announcements.announcements c.in_ok-announcements.ensures.all c.in_ok-pulls.pulls.items same) c.from_parts.ensures.made)

pub returns-clause-nothing : goal.returns-clause-nothing
returns-clause-nothing c = λ none closed.
    let f = c.self.inside in
    let state = state-is f.index f.last f.pulls.items f.copies.items c.self.invariant ∙ ap (λ (s : IndexedState). s.folder) c.self.view_is in
    let ps = no-open f.index.me (es f.index f.last f.pulls.items f.copies.items c.self.invariant) f.last f.pulls.items c.args.self.now.folder state c.self.invariant.pulls_rise closed in
    c.from_parts.ensures.none (ap commits (c.in_ok-pulls.ensures.same ∙ c.as_slice.ensures.value ∙ ps))

pub returns-in_err-pulls-clause-nothing : goal.returns-in_err-pulls-clause-nothing
returns-in_err-pulls-clause-nothing c = λ none closed.
    let f = c.self.inside in
    let state = state-is f.index f.last f.pulls.items f.copies.items c.self.invariant ∙ ap (λ (s : IndexedState). s.folder) c.self.view_is in
    let ps = no-open f.index.me (es f.index f.last f.pulls.items f.copies.items c.self.invariant) f.last f.pulls.items c.args.self.now.folder state c.self.invariant.pulls_rise closed in
    absurd (true≢false (sym (c.in_err-pulls.ensures.nothing (ap length (c.as_slice.ensures.value ∙ ps)))))
