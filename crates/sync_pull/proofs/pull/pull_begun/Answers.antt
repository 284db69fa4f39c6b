use Rattle.std.proofs.Common.{◌≡◌, true, None, Some, ap, inl, refl, subst, sym, ◌∙◌}
use Rattle.folder_core.specs.declared.change.Change.TheVariants.{GiveUp}
use Rattle.sync_pull.specs.Ends.{Closes, stopped}
use Rattle.sync_pull.specs.Replacing.{IsReplaced}
use Rattle.sync_pull.proofs.EndsLemmas.{ends-after, gives-ends, stop-gives}
use Rattle.sync_record.specs.Records.{FileRecord}
use Rattle.sync_pull.specs.Faults.{FailsFor, IsFaultCounted}
use Rattle.sync_pull.specs.Pulled.{IfFile, IsDropped, IsNameKept, IsPulled, IsTakenOrDropped, PullFails}
use Rattle.sync_pull.specs.Putting.{standing_of}
use Rattle.sync_pull.proofs.FailLemmas.{fails-weaker, temp-ended}
use Rattle.sync_pull.specs.declared.answer.PullAnswer.{PullAnswer}
use Rattle.sync_pull.proofs.TrimLemmas.{after-stay, after-undone, both-alone, changes-and-trims, dropped-alone, dropped-free, entered-from, entered-on, free-as, free-on, if-file-map, kept-from, old-or-target-on, pulled-on, there-or-copied-on, undone-same, undone-trims}
use Rattle.folder_core.specs.Steps.{is_copy_due}
use Rattle.sync_pull.specs.Copies.{IsRefused}
use Rattle.sync_pull.specs.Plans.{copy_name}
use Rattle.sync_pull.proofs.ReasonLemmas.{if-file-then, left-pulled, pull-fails, still-kept, stops-before}
use Rattle.sync_pull.proofs.PulledLemmas.{done-through, pulled, saved-as, stop-undone}
use Rattle.file_store.proofs.SequenceLemmas.{called_on}
use Rattle.sync_pull.specs.Moments.{IsOfPlace, IsOfPull, copy_of, not_entered}
use Rattle.sync_pull.proofs.MomentLemmas.{enters_from, enters_on, enters_wider, plan_pull, still_undone}
use Rattle.folder_calls.specs.Shared.{CallerView}
use Rattle.sync_pull.specs.Sources.{HasNoSource}
use Rattle.sync_pull.proofs.TargetLemmas.{closing-fails, no-source-on, sourceless-as}
use Rattle.sync_pull.proofs.pull.pull_begun.Goals as goal

pub returns-in-Ok-clause-ends : goal.returns-in-Ok-clause-ends
returns-in-Ok-clause-ends g c = ends-after _ _ _ c.args.ticket c.commit_pull-answer.result c.prepare.ensures.sees c.commit_pull-answer.ensures.ends

pub returns-in-Err-clause-ends : goal.returns-in-Err-clause-ends
returns-in-Err-clause-ends g c =
    let t = c.args.ticket in
    let mid = g.W.FolderCalls.view c.prepare.new.calls in
    let new = g.W.FolderCalls.view c.give_up.new.calls in
    ends-after _ mid new t c.give_up.result c.prepare.ensures.sees
    (gives-ends mid new t (stopped c.in-Err.stop) c.give_up.result (stop-gives t c.in-Err.stop)
    (subst (λ a. Closes mid (GiveUp t) a c.give_up.result new) c.answer_of.ensures c.give_up.ensures.closes))

pub returns-in-Err-clause-saved : goal.returns-in-Err-clause-saved
returns-in-Err-clause-saved g c = λ keeps due.
    inl (ap (λ f. f c.args.name.now) (c.drop_temp.ensures.temp keeps).names ∙ (c.prepare.ensures.temp keeps).name)

pub returns-in-Err-clause-reasons : goal.returns-in-Err-clause-reasons
returns-in-Err-clause-reasons g c =
    let n = c.args.name.now in
    let t = c.args.ticket in
    let keeps = g.S.FileStore.keeps ≡ true in
    let old = g.S.FileStore.tree c.args.store.now in
    let new = g.S.FileStore.tree c.drop_temp.new.store in
    let before = g.S.FileStore.fault_count c.args.store.now in
    let mid = g.S.FileStore.fault_count c.prepare.new.store in
    let after = g.S.FileStore.fault_count c.drop_temp.new.store in
    let first = g.W.FolderCalls.view c.args.calls.now in
    let point = g.W.FolderCalls.view c.prepare.new.calls in
    let last = g.W.FolderCalls.view c.give_up.new.calls in
    let source = λ (v : CallerView). HasNoSource g.B.BlockSource.gives n c.prepare.new.source v t.target first in
    let why = λ (v : CallerView). PullFails c.args.pulling.now.max_conflicts c.args.pulling.now.moment n keeps (IsFaultCounted before after) (source v) t old new in
    closing-fails (why point) (why last) point last (GiveUp t) c.in-Err.stop c.give_up.result
    (λ gets f. sourceless-as c.args.pulling.now.max_conflicts c.args.pulling.now.moment n keeps (IsFaultCounted before after) (source point) (source last) t old new
    (no-source-on g.B.BlockSource.gives n c.prepare.new.source point last t.target first (GiveUp t) gets) f)
    (stops-before c.args.pulling.now.max_conflicts c.args.pulling.now.moment n keeps (source point) t old new before mid after c.in-Err.stop c.in-Err.ensures.counted c.drop_temp.ensures.counted)
    (subst (λ a. Closes (g.W.FolderCalls.view c.prepare.new.calls) (GiveUp t) a c.give_up.result (g.W.FolderCalls.view c.give_up.new.calls)) c.answer_of.ensures c.give_up.ensures.closes)

pub returns-in-Err-clause-left : goal.returns-in-Err-clause-left
returns-in-Err-clause-left g c = λ keeps.
    inl (ap (λ f. f c.args.name.now) (c.drop_temp.ensures.temp keeps).names ∙ (c.prepare.ensures.temp keeps).name)

pub returns-in-Err-clause-temporary : goal.returns-in-Err-clause-temporary
returns-in-Err-clause-temporary g c =
    let t = c.args.ticket in
    let mid = g.S.FileStore.tree c.prepare.new.store in
    let new = c.drop_temp.new.store in
    let still = new ≡ c.prepare.new.store in
    let wanted = standing_of (Some t.target) in
    temp-ended wanted c.give_up.result _ _ still (g.S.FileStore.keeps ≡ true) (g.S.FileStore.tree c.args.store.now) mid (g.S.FileStore.tree new)
    (ap g.S.FileStore.tree) (λ keeps. still-kept wanted (c.prepare.new.store ≡ c.args.store.now) _ mid (ap g.S.FileStore.tree) c.prepare.ensures.still)
    (subst (λ (r : FileRecord). IfFile (standing_of (Some r)) (IsDropped g.S.FileStore.gives (g.S.FileStore.keeps ≡ true) c.args.name.now (g.S.FileStore.tree new).temps new) still)
    c.target.ensures c.drop_temp.ensures.dropped)
    (stop-undone ⊥ _ _ (GiveUp t) c.in-Err.stop c.give_up.result
    (subst (λ a. Closes (g.W.FolderCalls.view c.prepare.new.calls) (GiveUp t) a c.give_up.result (g.W.FolderCalls.view c.give_up.new.calls)) c.answer_of.ensures c.give_up.ensures.closes))

pub returns-in-Ok-clause-done : goal.returns-in-Ok-clause-done
returns-in-Ok-clause-done g c = λ keeps.
    let n = c.args.name.now in
    let t = c.args.ticket in
    let old = g.S.FileStore.tree c.args.store.now in
    let mid = g.S.FileStore.tree c.prepare.new.store in
    let placed = g.S.FileStore.tree c.commit_pull-answer.new.store in
    let new = g.S.FileStore.tree c.trim_copies.new.store in
    let stays = after-stay (IsRefused g.S.FileStore.gives g.S.FileStore.tree) c.args.pulling.now.max_conflicts c.args.pulling.now.moment n t.base t.target c.in-Ok.plan placed new c.conflict_names_are_of_copies.ensures.other
    c.in-Ok.ensures.planned c.commit_pull-answer.result (g.S.FileStore.keeps ≡ true) (c.trim_copies.new.store ≡ c.commit_pull-answer.new.store) keeps (ap g.S.FileStore.tree) c.trim_copies.ensures.trims in
    done-through (IsReplaced t.base t.target c.in-Ok.plan n mid placed) (IsPulled c.args.pulling.now.max_conflicts c.args.pulling.now.moment n t old new)
    (λ replaced.
    pulled-on c.args.pulling.now.max_conflicts c.args.pulling.now.moment n t old placed new stays
    (pulled c.args.pulling.now.max_conflicts c.args.pulling.now.moment n t c.in-Ok.plan old mid placed (c.prepare.ensures.temp keeps).name (c.in-Ok.ensures.ready keeps) c.in-Ok.ensures.planned replaced))
    c.commit_pull-answer.result (c.commit_pull-answer.ensures.done keeps)

pub returns-in-Ok-clause-saved : goal.returns-in-Ok-clause-saved
returns-in-Ok-clause-saved g c = λ keeps due.
    let n = c.args.name.now in
    let t = c.args.ticket in
    let old = g.S.FileStore.tree c.args.store.now in
    let mid = g.S.FileStore.tree c.prepare.new.store in
    let placed = g.S.FileStore.tree c.commit_pull-answer.new.store in
    let new = g.S.FileStore.tree c.trim_copies.new.store in
    let stays = after-stay (IsRefused g.S.FileStore.gives g.S.FileStore.tree) c.args.pulling.now.max_conflicts c.args.pulling.now.moment n t.base t.target c.in-Ok.plan placed new c.conflict_names_are_of_copies.ensures.other
    c.in-Ok.ensures.planned c.commit_pull-answer.result (g.S.FileStore.keeps ≡ true) (c.trim_copies.new.store ≡ c.commit_pull-answer.new.store) keeps (ap g.S.FileStore.tree) c.trim_copies.ensures.trims in
    there-or-copied-on n (copy_name n c.args.pulling.now.moment t.base) old placed new stays
    (saved-as c.args.pulling.now.max_conflicts c.args.pulling.now.moment n t.base t.target c.in-Ok.plan old mid placed c.in-Ok.ensures.planned (c.prepare.ensures.temp keeps).name (c.commit_pull-answer.ensures.saved keeps) due)

pub returns-in-Ok-clause-reasons : goal.returns-in-Ok-clause-reasons
returns-in-Ok-clause-reasons g c =
    let n = c.args.name.now in
    let t = c.args.ticket in
    let keeps = g.S.FileStore.keeps ≡ true in
    let old = g.S.FileStore.tree c.args.store.now in
    let mid = g.S.FileStore.tree c.prepare.new.store in
    let placed = c.commit_pull-answer.new.store in
    let new = c.trim_copies.new.store in
    let after = g.S.FileStore.fault_count placed in
    let sourceless = HasNoSource g.B.BlockSource.gives n c.prepare.new.source (g.W.FolderCalls.view c.commit_pull-answer.new.calls) t.target (g.W.FolderCalls.view c.args.calls.now) in
    let why = λ (s : g.row.S.Denot). PullFails c.args.pulling.now.max_conflicts c.args.pulling.now.moment n keeps (IsFaultCounted (g.S.FileStore.fault_count c.args.store.now) (g.S.FileStore.fault_count s)) sourceless t old (g.S.FileStore.tree s) in
    undone-same (FailsFor (why placed)) (FailsFor (why new)) (new ≡ placed) (λ k done. tt) (λ still p failed. subst (λ s. FailsFor (why s) p) (sym still) failed) c.commit_pull-answer.result
    (after-undone c.in-Ok.plan c.commit_pull-answer.result _ (new ≡ placed) c.trim_copies.ensures.trims)
    (subst (λ before. FailsFor (PullFails c.args.pulling.now.max_conflicts c.args.pulling.now.moment n keeps (IsFaultCounted before after) sourceless t old (g.S.FileStore.tree placed)) c.commit_pull-answer.result) c.in-Ok.ensures.counted
    (fails-weaker _ _
    (pull-fails c.args.pulling.now.max_conflicts c.args.pulling.now.moment n keeps sourceless t old mid (g.S.FileStore.tree placed) (g.S.FileStore.fault_count c.prepare.new.store) after c.prepare.ensures.temp c.in-Ok.plan c.in-Ok.ensures.planned)
    c.commit_pull-answer.result c.commit_pull-answer.ensures.reasons))

pub returns-in-Ok-clause-kept : goal.returns-in-Ok-clause-kept
returns-in-Ok-clause-kept g c = λ keeps.
    let n = c.args.name.now in
    let old = g.S.FileStore.tree c.args.store.now in
    let placed = c.commit_pull-answer.new.store in
    let new = c.trim_copies.new.store in
    let mid = g.S.FileStore.tree c.prepare.new.store in
    undone-same (λ p. IsNameKept p n mid (g.S.FileStore.tree placed)) (λ p. IsNameKept p n old (g.S.FileStore.tree new)) (new ≡ placed) (λ k done. tt)
    (λ still p kept. kept-from n old mid (g.S.FileStore.tree new) (c.prepare.ensures.temp keeps).name p (subst (λ s. IsNameKept p n mid (g.S.FileStore.tree s)) (sym still) kept)) c.commit_pull-answer.result
    (after-undone c.in-Ok.plan c.commit_pull-answer.result _ (new ≡ placed) c.trim_copies.ensures.trims) (c.commit_pull-answer.ensures.kept keeps)

pub returns-in-Ok-clause-left : goal.returns-in-Ok-clause-left
returns-in-Ok-clause-left g c = λ keeps.
    let n = c.args.name.now in
    let t = c.args.ticket in
    let old = g.S.FileStore.tree c.args.store.now in
    let placed = g.S.FileStore.tree c.commit_pull-answer.new.store in
    let new = g.S.FileStore.tree c.trim_copies.new.store in
    let stays = after-stay (IsRefused g.S.FileStore.gives g.S.FileStore.tree) c.args.pulling.now.max_conflicts c.args.pulling.now.moment n t.base t.target c.in-Ok.plan placed new c.conflict_names_are_of_copies.ensures.other
    c.in-Ok.ensures.planned c.commit_pull-answer.result (g.S.FileStore.keeps ≡ true) (c.trim_copies.new.store ≡ c.commit_pull-answer.new.store) keeps (ap g.S.FileStore.tree) c.trim_copies.ensures.trims in
    old-or-target-on c.args.pulling.now.max_conflicts c.args.pulling.now.moment n (IsRefused g.S.FileStore.gives g.S.FileStore.tree) t old placed new stays.name
    (left-pulled c.args.pulling.now.max_conflicts c.args.pulling.now.moment n (IsRefused g.S.FileStore.gives g.S.FileStore.tree) t c.in-Ok.plan old (g.S.FileStore.tree c.prepare.new.store) placed c.in-Ok.ensures.planned (c.prepare.ensures.temp keeps).name
    (c.in-Ok.ensures.ready keeps) (c.commit_pull-answer.ensures.left keeps))

pub returns-in-Ok-clause-temporary : goal.returns-in-Ok-clause-temporary
returns-in-Ok-clause-temporary g c =
    let n = c.args.name.now in
    let t = c.args.ticket in
    let held = g.S.FileStore.keeps ≡ true in
    let old = g.S.FileStore.tree c.args.store.now in
    let placed = c.commit_pull-answer.new.store in
    let new = c.trim_copies.new.store in
    let wanted = standing_of (Some t.target) in
    let stays = λ (keeps : held). after-stay (IsRefused g.S.FileStore.gives g.S.FileStore.tree) c.args.pulling.now.max_conflicts c.args.pulling.now.moment n t.base t.target c.in-Ok.plan (g.S.FileStore.tree placed) (g.S.FileStore.tree new) c.conflict_names_are_of_copies.ensures.other
    c.in-Ok.ensures.planned c.commit_pull-answer.result held (new ≡ placed) keeps (ap g.S.FileStore.tree) c.trim_copies.ensures.trims in
    let temporary = λ (s : g.row.S.Denot) (p : PullAnswer). IfFile wanted
    (IsTakenOrDropped p (held → (g.S.FileStore.tree s).temps n ≡ None) (IsDropped g.S.FileStore.gives held n (g.S.FileStore.tree s).temps s))
    (held → (g.S.FileStore.tree s).temps ≡ old.temps) in
    undone-same (temporary placed) (temporary new) (new ≡ placed)
    (λ k done. if-file-map wanted _ _ _ _ (λ taken keeps. ap (λ f. f n) (stays keeps).temps ∙ taken keeps) (λ same keeps. (stays keeps).temps ∙ same keeps) done)
    (λ still p was. subst (λ s. temporary s p) (sym still) was) c.commit_pull-answer.result
    (after-undone c.in-Ok.plan c.commit_pull-answer.result _ (new ≡ placed) c.trim_copies.ensures.trims)
    (if-file-then wanted _ _ _ (c.prepare.new.store ≡ c.args.store.now) c.commit_pull-answer.ensures.temporary c.prepare.ensures.still
    (λ still same keeps. same keeps ∙ ap (λ s. (g.S.FileStore.tree s).temps) still))

pub returns-in-Ok-clause-alone : goal.returns-in-Ok-clause-alone
returns-in-Ok-clause-alone g c = λ keeps.
    let n = c.args.name.now in
    let t = c.args.ticket in
    let old = g.S.FileStore.tree c.args.store.now in
    let mid = g.S.FileStore.tree c.prepare.new.store in
    let placed = g.S.FileStore.tree c.commit_pull-answer.new.store in
    let new = g.S.FileStore.tree c.trim_copies.new.store in
    changes-and-trims (IsRefused g.S.FileStore.gives g.S.FileStore.tree) c.args.pulling.now.max_conflicts c.args.pulling.now.moment n t c.in-Ok.plan c.commit_pull-answer.result old placed new
    (both-alone c.args.pulling.now.max_conflicts c.args.pulling.now.moment n t.base t.target c.in-Ok.plan old mid placed c.in-Ok.ensures.planned (c.prepare.ensures.temp keeps) (c.commit_pull-answer.ensures.alone keeps))
    c.in-Ok.ensures.planned (g.S.FileStore.keeps ≡ true) (c.trim_copies.new.store ≡ c.commit_pull-answer.new.store) keeps (ap g.S.FileStore.tree) mid
    (done-through (IsReplaced t.base t.target c.in-Ok.plan n mid placed) _ (λ replaced. replaced.copied) c.commit_pull-answer.result (c.commit_pull-answer.ensures.done keeps)) c.trim_copies.ensures.trims

pub returns-in-Err-clause-alone : goal.returns-in-Err-clause-alone
returns-in-Err-clause-alone g c = λ keeps.
    let n = c.args.name.now in
    let t = c.args.ticket in
    let new = g.S.FileStore.tree c.drop_temp.new.store in
    let undone = stop-undone ⊥ _ _ (GiveUp t) c.in-Err.stop c.give_up.result
    (subst (λ a. Closes (g.W.FolderCalls.view c.prepare.new.calls) (GiveUp t) a c.give_up.result (g.W.FolderCalls.view c.give_up.new.calls)) c.answer_of.ensures c.give_up.ensures.closes) in
    record {
      placed = new;
      alone = dropped-alone n (copy_name n c.args.pulling.now.moment t.base) (g.S.FileStore.tree c.args.store.now) (g.S.FileStore.tree c.prepare.new.store) new (c.prepare.ensures.temp keeps) (c.drop_temp.ensures.temp keeps);
      trimmed = undone-trims (is_copy_due c.args.pulling.now.max_conflicts t.base t.target) c.give_up.result _ (new ≡ new) refl undone;
    }

pub returns-in-Ok-clause-entered : goal.returns-in-Ok-clause-entered
returns-in-Ok-clause-entered g c = λ keeps.
    let n = c.args.name.now in
    let t = c.args.ticket in
    let old = g.S.FileStore.tree c.args.store.now in
    let placed = g.S.FileStore.tree c.commit_pull-answer.new.store in
    let new = g.S.FileStore.tree c.trim_copies.new.store in
    let stays = after-stay (IsRefused g.S.FileStore.gives g.S.FileStore.tree) c.args.pulling.now.max_conflicts c.args.pulling.now.moment n t.base t.target c.in-Ok.plan placed new c.conflict_names_are_of_copies.ensures.other
    c.in-Ok.ensures.planned c.commit_pull-answer.result (g.S.FileStore.keeps ≡ true) (c.trim_copies.new.store ≡ c.commit_pull-answer.new.store) keeps (ap g.S.FileStore.tree) c.trim_copies.ensures.trims in
    let first = g.W.FolderCalls.view c.args.calls.now in
    let last = g.W.FolderCalls.view c.commit_pull-answer.new.calls in
    entered-on n t first last old placed new stays.name
    (entered-from n t first (g.W.FolderCalls.view c.prepare.new.calls) last old (g.S.FileStore.tree c.prepare.new.store) placed c.prepare.ensures.sees (c.prepare.ensures.temp keeps).name (c.commit_pull-answer.ensures.entered keeps))

pub returns-in-Err-clause-entered : goal.returns-in-Err-clause-entered
returns-in-Err-clause-entered g c = λ keeps.
    inl (ap (λ f. f c.args.name.now) (c.drop_temp.ensures.temp keeps).names ∙ (c.prepare.ensures.temp keeps).name)

pub returns-in-Ok-clause-free : goal.returns-in-Ok-clause-free
returns-in-Ok-clause-free g c = λ keeps.
    let n = c.args.name.now in
    let t = c.args.ticket in
    let old = g.S.FileStore.tree c.args.store.now in
    let mid = g.S.FileStore.tree c.prepare.new.store in
    let placed = g.S.FileStore.tree c.commit_pull-answer.new.store in
    let new = g.S.FileStore.tree c.trim_copies.new.store in
    let stays = after-stay (IsRefused g.S.FileStore.gives g.S.FileStore.tree) c.args.pulling.now.max_conflicts c.args.pulling.now.moment n t.base t.target c.in-Ok.plan placed new c.conflict_names_are_of_copies.ensures.other
    c.in-Ok.ensures.planned c.commit_pull-answer.result (g.S.FileStore.keeps ≡ true) (c.trim_copies.new.store ≡ c.commit_pull-answer.new.store) keeps (ap g.S.FileStore.tree) c.trim_copies.ensures.trims in
    free-on (is_copy_due c.args.pulling.now.max_conflicts t.base t.target) n (copy_name n c.args.pulling.now.moment t.base) old placed new stays
    (free-as c.args.pulling.now.max_conflicts c.args.pulling.now.moment n t.base t.target c.in-Ok.plan old mid placed c.in-Ok.ensures.planned (c.prepare.ensures.temp keeps) (c.commit_pull-answer.ensures.alone keeps) (c.commit_pull-answer.ensures.copy_alone keeps))

pub returns-in-Err-clause-free : goal.returns-in-Err-clause-free
returns-in-Err-clause-free g c = λ keeps.
    let t = c.args.ticket in
    dropped-free (is_copy_due c.args.pulling.now.max_conflicts t.base t.target) c.args.name.now (copy_name c.args.name.now c.args.pulling.now.moment t.base) (g.S.FileStore.tree c.args.store.now) (g.S.FileStore.tree c.prepare.new.store) (g.S.FileStore.tree c.drop_temp.new.store)
    (c.prepare.ensures.temp keeps) (c.drop_temp.ensures.temp keeps)

pub returns-in-Ok-clause-checks : goal.returns-in-Ok-clause-checks
returns-in-Ok-clause-checks g c =
    let n = c.args.name.now in
    let t = c.args.ticket in
    let kind = IsOfPull n (copy_name n c.args.pulling.now.moment t.base) in
    let gives = g.S.FileStore.gives in
    enters_on gives n _ t kind _ (g.W.FolderCalls.view c.args.calls.now) c.args.store.now c.commit_pull-answer.new.store c.trim_copies.new.store
    (enters_from gives n _ t kind _ _ (g.W.FolderCalls.view c.prepare.new.calls) c.args.store.now c.prepare.new.store c.commit_pull-answer.new.store c.prepare.ensures.sees c.prepare.ensures.calls
    (enters_wider gives n _ t (IsOfPlace n (copy_of c.in-Ok.plan)) kind _ (g.W.FolderCalls.view c.prepare.new.calls) c.prepare.new.store c.commit_pull-answer.new.store
    (plan_pull c.args.pulling.now.max_conflicts c.args.pulling.now.moment n t.base t.target c.in-Ok.plan c.in-Ok.ensures.planned) c.commit_pull-answer.ensures.checks))
    (c.trim_copies.ensures.calls (copy_name n c.args.pulling.now.moment t.base))
    (still_undone c.commit_pull-answer.result (c.trim_copies.new.store ≡ c.commit_pull-answer.new.store)
    (after-undone c.in-Ok.plan c.commit_pull-answer.result _ (c.trim_copies.new.store ≡ c.commit_pull-answer.new.store) c.trim_copies.ensures.trims))

pub returns-in-Err-clause-checks : goal.returns-in-Err-clause-checks
returns-in-Err-clause-checks g c =
    let undone = stop-undone ⊥ _ _ (GiveUp c.args.ticket) c.in-Err.stop c.give_up.result
    (subst (λ a. Closes (g.W.FolderCalls.view c.prepare.new.calls) (GiveUp c.args.ticket) a c.give_up.result (g.W.FolderCalls.view c.give_up.new.calls)) c.answer_of.ensures c.give_up.ensures.closes) in
    not_entered undone (called_on _ _ _ _ _ c.prepare.ensures.calls c.drop_temp.ensures.calls)
