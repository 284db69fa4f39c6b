use Rattle.std.proofs.Common.{rules, ◌≡◌, true, Err, None, Some, ap, inl, refl, subst, ◌∙◌}
use Rattle.std.specs.Prelude.{IfErr}
use Rattle.folder_core.specs.declared.answer.Answer.TheVariants.{Entered}
use Rattle.folder_core.specs.declared.change.Change.TheVariants.{EnterCommit}
use Rattle.folder_calls.specs.Calls.{GivesBack, enter_value}
use Rattle.sync_pull.proofs.ChainLemmas.{gets}
use Rattle.sync_pull.proofs.EndsLemmas.{entered-ends, entered-first, memory-ends, refused-ends}
use Rattle.folder_core.specs.declared.pull_info.PullInfo.{PullInfo}
use Rattle.sync_record.specs.Records.{FileRecord}
use Rattle.sync_pull.specs.Pulled.{IfDone, IfFile, IsDropped, IsTakenOrDropped}
use Rattle.sync_pull.specs.Putting.{standing_of}
use Rattle.sync_pull.specs.Replacing.{IsOverBase}
use Rattle.sync_pull.proofs.FailLemmas.{temp-ended, temps-itself}
use Rattle.sync_pull.proofs.PulledLemmas.{entered-over, refused-undone, temp-alone, temp-copy-alone, temp-saved}
use Rattle.file_store.specs.Sequences.{not_called}
use Rattle.sync_pull.specs.Moments.{ChecksFirst, IsOfPlace, copy_of, entered, not_entered}
use Rattle.sync_pull.proofs.MomentLemmas.{entered_asks}
use Rattle.sync_pull.proofs.commit_pull.commit_pull.Goals as goal

pub returns-in-Ok-entered-clause-ends : goal.returns-in-Ok-entered-clause-ends
returns-in-Ok-entered-clause-ends g c =
    let t = c.args.ticket in
    let commit = c.in-Ok-entered.commit in
    let entered = gets _ _ (EnterCommit t) _ (Entered commit) c.in-Ok.ensures.changes (ap enter_value c.in-Ok-entered.is) in
    entered-ends _ _ _ t commit entered (c.tickets_are_those_that_were_asked_for.ensures.entered _ _ t commit entered) c.replace_and_finish.result c.replace_and_finish.ensures.ends

pub returns-in-Err-entered-clause-ends : goal.returns-in-Err-entered-clause-ends
returns-in-Err-entered-clause-ends g c =
    let t = c.args.ticket in
    let refusal = c.in-Err-entered.refusal in
    refused-ends _ _ _ t refusal (gets _ _ (EnterCommit t) _ (enter_value (Err refusal)) c.in-Ok.ensures.changes (ap enter_value c.in-Err-entered.is))
    (subst (λ v. IfErr v (GivesBack t)) c.in-Err-entered.is c.in-Ok.ensures.given_back) c.refused.result c.refused.ensures.refused

pub returns-in-Err-clause-ends : goal.returns-in-Err-clause-ends
returns-in-Err-clause-ends g c =
    memory-ends _ _ _ c.args.ticket _ c.in-Err.ensures.changes c.in-Err.ensures.out_of_memory c.give_up.result c.give_up.ensures.closes

pub returns-in-Err-entered-clause-saved : goal.returns-in-Err-entered-clause-saved
returns-in-Err-entered-clause-saved g c = λ keeps. temp-saved c.args.plan.now _ c.args.name.now _ (c.drop_temp-in-Err-entered.ensures.temp keeps)

pub returns-in-Err-clause-saved : goal.returns-in-Err-clause-saved
returns-in-Err-clause-saved g c = λ keeps. temp-saved c.args.plan.now _ c.args.name.now _ (c.drop_temp.ensures.temp keeps)

pub returns-in-Ok-entered-clause-temporary : goal.returns-in-Ok-entered-clause-temporary
returns-in-Ok-entered-clause-temporary g c =
    let t = c.args.ticket in
    let n = c.args.name.now in
    let commit = c.in-Ok-entered.commit in
    let entered = gets _ _ (EnterCommit t) _ (Entered commit) c.in-Ok.ensures.changes (ap enter_value c.in-Ok-entered.is) in
    let keeps = g.S.FileStore.keeps ≡ true in
    let new = c.replace_and_finish.new.store in
    let temps = (g.S.FileStore.tree new).temps in
    subst (λ (x : PullInfo). IfFile (standing_of (Some x.target))
    (IsTakenOrDropped c.replace_and_finish.result (keeps → temps n ≡ None) (IsDropped g.S.FileStore.gives keeps n temps new))
    (keeps → temps ≡ (g.S.FileStore.tree c.args.store.now).temps))
    (c.tickets_are_those_that_were_asked_for.ensures.entered _ _ t commit entered) c.replace_and_finish.ensures.temporary

pub returns-in-Err-entered-clause-alone : goal.returns-in-Err-entered-clause-alone
returns-in-Err-entered-clause-alone g c = λ keeps. temp-alone c.args.name.now c.args.plan.now _ _ (c.drop_temp-in-Err-entered.ensures.temp keeps)

pub returns-in-Err-entered-clause-temporary : goal.returns-in-Err-entered-clause-temporary
returns-in-Err-entered-clause-temporary g c =
    let old = g.S.FileStore.tree c.args.store.now in
    let new = c.drop_temp-in-Err-entered.new.store in
    let still = new ≡ c.args.store.now in
    temp-ended (standing_of (Some c.args.ticket.target)) c.refused.result _ _ still (g.S.FileStore.keeps ≡ true) old old (g.S.FileStore.tree new)
    (ap g.S.FileStore.tree) (λ keeps. temps-itself (standing_of (Some c.args.ticket.target)) old)
    (subst (λ (t : FileRecord). IfFile (standing_of (Some t)) (IsDropped g.S.FileStore.gives (g.S.FileStore.keeps ≡ true) c.args.name.now (g.S.FileStore.tree new).temps new) still)
    (c.target-in-Err-entered.ensures.value ∙ c.requires.assembled) c.drop_temp-in-Err-entered.ensures.dropped)
    (refused-undone ⊥ _ _ c.in-Err-entered.refusal c.refused.result c.refused.ensures.refused)

pub returns-in-Err-entered-clause-copy_alone : goal.returns-in-Err-entered-clause-copy_alone
returns-in-Err-entered-clause-copy_alone g c = λ keeps. temp-copy-alone c.args.name.now c.args.plan.now _ _ (c.drop_temp-in-Err-entered.ensures.temp keeps)

pub returns-in-Err-clause-copy_alone : goal.returns-in-Err-clause-copy_alone
returns-in-Err-clause-copy_alone g c = λ keeps. temp-copy-alone c.args.name.now c.args.plan.now _ _ (c.drop_temp.ensures.temp keeps)

pub returns-in-Err-entered-clause-entered : goal.returns-in-Err-entered-clause-entered
returns-in-Err-entered-clause-entered g c = λ keeps. inl (ap (λ f. f c.args.name.now) (c.drop_temp-in-Err-entered.ensures.temp keeps).names)

pub returns-in-Err-clause-entered : goal.returns-in-Err-clause-entered
returns-in-Err-clause-entered g c = λ keeps. inl (ap (λ f. f c.args.name.now) (c.drop_temp.ensures.temp keeps).names)

pub returns-in-Ok-entered-clause-entered : goal.returns-in-Ok-entered-clause-entered
returns-in-Ok-entered-clause-entered g c = λ keeps.
    let t = c.args.ticket in
    let commit = c.in-Ok-entered.commit in
    let entered = gets _ _ (EnterCommit t) _ (Entered commit) c.in-Ok.ensures.changes (ap enter_value c.in-Ok-entered.is) in
    let is = c.tickets_are_those_that_were_asked_for.ensures.entered _ _ t commit entered in
    entered-over c.args.name.now t (g.W.FolderCalls.view c.args.calls.now) (g.S.FileStore.tree c.args.store.now) (g.W.FolderCalls.view c.replace_and_finish.new.calls) (g.S.FileStore.tree c.replace_and_finish.new.store) (entered-first _ _ _ t commit entered is c.replace_and_finish.result c.replace_and_finish.ensures.ends)
    (subst (λ (x : PullInfo). IsOverBase x.base c.args.name.now (g.S.FileStore.tree c.args.store.now) (g.S.FileStore.tree c.replace_and_finish.new.store)) is (c.replace_and_finish.ensures.over_base keeps))

pub returns-in-Err-clause-checks : goal.returns-in-Err-clause-checks
returns-in-Err-clause-checks g c = not_entered (search rules) c.drop_temp.ensures.calls

pub returns-in-Err-entered-clause-checks : goal.returns-in-Err-entered-clause-checks
returns-in-Err-entered-clause-checks g c =
    not_entered (refused-undone ⊥ _ _ c.in-Err-entered.refusal c.refused.result c.refused.ensures.refused) c.drop_temp-in-Err-entered.ensures.calls

pub returns-in-Ok-entered-clause-checks : goal.returns-in-Ok-entered-clause-checks
returns-in-Ok-entered-clause-checks g c =
    let t = c.args.ticket in
    let n = c.args.name.now in
    let commit = c.in-Ok-entered.commit in
    let got = gets _ _ (EnterCommit t) _ (Entered commit) c.in-Ok.ensures.changes (ap enter_value c.in-Ok-entered.is) in
    let is = c.tickets_are_those_that_were_asked_for.ensures.entered _ _ t commit got in
    entered _ c.args.store.now not_called (entered_asks _ _ t commit got is) (c.enter_commit.new.self, c.show.ensures.shown, refl)
    (subst (λ (x : PullInfo). ChecksFirst g.S.FileStore.gives n x.base (IsOfPlace n (copy_of c.args.plan.now)) (IfDone c.replace_and_finish.result ⊥) c.args.store.now c.replace_and_finish.new.store) is
    c.replace_and_finish.ensures.checks)
