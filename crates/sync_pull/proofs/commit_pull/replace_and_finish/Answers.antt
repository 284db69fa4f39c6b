use Rattle.std.proofs.Common.{◌≡◌, true, None, Option, Some, ap, subst, sym}
use Rattle.folder_core.specs.declared.change.Change.TheVariants.{Abort}
use Rattle.sync_record.specs.Records.{FileRecord}
use Rattle.sync_pull.specs.Copies.{IsRefused}
use Rattle.sync_pull.specs.Ends.{Closes}
use Rattle.sync_pull.specs.Faults.{StopsFor}
use Rattle.sync_pull.specs.Pulled.{IfDone, IfFile, IsDropped}
use Rattle.sync_pull.specs.Putting.{AreTempsKept, IsLeft, standing_of}
use Rattle.sync_pull.specs.Replacing.{IsOverBase, MayEmpty, ReplaceFails}
use Rattle.sync_pull.proofs.FailLemmas.{closed-fails, left-on, of-both, replace-dropped, stop-weaker, temp-ended}
use Rattle.sync_pull.proofs.PulledLemmas.{aborted-ends, aborted-kept, copy-alone-temp, finished-ends, kept-saved, over-base-temp, saved-temp, stop-undone}
use Rattle.file_store.proofs.SequenceLemmas.{called_wider}
use Rattle.sync_pull.specs.Moments.{ChecksFirst, IsOfPlace, copy_of}
use Rattle.sync_pull.proofs.MomentLemmas.{checks_so, checks_then, place_copy}
use Rattle.sync_pull.proofs.commit_pull.replace_and_finish.Goals as goal

pub returns-in-Ok-clause-ends : goal.returns-in-Ok-clause-ends
returns-in-Ok-clause-ends g c = finished-ends _ _ c.args.commit c.finish.result c.finish.ensures.finishes

pub returns-in-Err-clause-ends : goal.returns-in-Err-clause-ends
returns-in-Err-clause-ends g c =
    aborted-ends (g.W.FolderCalls.view c.args.calls.now) (g.W.FolderCalls.view c.abort.new.calls) c.args.commit c.in-Err.stop c.abort.result
    (subst (λ a. Closes (g.W.FolderCalls.view c.args.calls.now) (Abort c.args.commit) a c.abort.result (g.W.FolderCalls.view c.abort.new.calls)) c.answer_of.ensures c.abort.ensures.closes)

pub returns-in-Ok-clause-saved : goal.returns-in-Ok-clause-saved
returns-in-Ok-clause-saved g c = λ keeps. kept-saved c.args.plan.now _ c.args.name.now _ (c.in-Ok.ensures.replaced keeps).copied

pub returns-in-Err-clause-saved : goal.returns-in-Err-clause-saved
returns-in-Err-clause-saved g c = λ keeps. saved-temp c.args.plan.now _ _ c.args.name.now _ (c.in-Err.ensures.saved keeps) (c.drop_temp.ensures.temp keeps)

pub returns-in-Err-clause-reasons : goal.returns-in-Err-clause-reasons
returns-in-Err-clause-reasons g c =
    let why = λ (b : Option FileRecord) (t : FileRecord). ReplaceFails (g.S.FileStore.keeps ≡ true) b t c.args.plan.now c.args.name.now (g.S.FileStore.tree c.args.store.now) in
    let start = g.S.FileStore.fault_count c.args.store.now in
    let old = λ (b : Option FileRecord) (t : FileRecord). why b t (g.S.FileStore.tree c.replace.new.store) start (g.S.FileStore.fault_count c.replace.new.store) in
    let base = c.args.commit.base in
    let target = c.args.commit.target in
    let new = why base target (g.S.FileStore.tree c.drop_temp.new.store) start (g.S.FileStore.fault_count c.drop_temp.new.store) in
    closed-fails new _ _ (Abort c.args.commit) c.in-Err.stop c.abort.result
    (stop-weaker (old base target) new (replace-dropped (g.S.FileStore.keeps ≡ true) base target c.args.plan.now c.args.name.now (g.S.FileStore.tree c.args.store.now) (g.S.FileStore.tree c.replace.new.store) (g.S.FileStore.tree c.drop_temp.new.store) start (g.S.FileStore.fault_count c.replace.new.store) (g.S.FileStore.fault_count c.drop_temp.new.store) c.drop_temp.ensures.temp c.drop_temp.ensures.counted) c.in-Err.stop
    (of-both (λ b t. StopsFor (old b t) c.in-Err.stop) _ base _ target (sym c.base-base.ensures) (sym c.target.ensures) c.in-Err.ensures.reasons))
    (subst (λ a. Closes (g.W.FolderCalls.view c.args.calls.now) (Abort c.args.commit) a c.abort.result (g.W.FolderCalls.view c.abort.new.calls)) c.answer_of.ensures c.abort.ensures.closes)

pub returns-in-Err-clause-left : goal.returns-in-Err-clause-left
returns-in-Err-clause-left g c = λ keeps.
    let left = λ (b : Option FileRecord) (t : FileRecord). IsLeft (MayEmpty (IsRefused g.S.FileStore.gives g.S.FileStore.tree) ((g.S.FileStore.tree c.args.store.now).names c.args.name.now) c.args.name.now c.args.plan.now (standing_of b) (standing_of (Some t))) (standing_of (Some t)) (g.S.FileStore.tree c.args.store.now) c.args.name.now in
    left-on _ _ _ c.args.name.now (g.S.FileStore.tree c.replace.new.store) _ (ap (λ f. f c.args.name.now) (c.drop_temp.ensures.temp keeps).names)
    (of-both (λ b t. left b t (g.S.FileStore.tree c.replace.new.store)) _ c.args.commit.base _ c.args.commit.target (sym c.base-base.ensures) (sym c.target.ensures) (c.in-Err.ensures.left keeps))

pub returns-in-Err-clause-temporary : goal.returns-in-Err-clause-temporary
returns-in-Err-clause-temporary g c =
    let wanted = c.args.commit.target in
    let mid = g.S.FileStore.tree c.replace.new.store in
    temp-ended (standing_of (Some wanted)) c.abort.result _ _ (c.drop_temp.new.store ≡ c.replace.new.store) (g.S.FileStore.keeps ≡ true) (g.S.FileStore.tree c.args.store.now) mid _
    (ap g.S.FileStore.tree) (λ keeps. subst (λ (t : FileRecord). AreTempsKept (standing_of (Some t)) (g.S.FileStore.tree c.args.store.now) mid) c.target.ensures (c.replace.ensures.temps keeps))
    (subst (λ (t : FileRecord). IfFile (standing_of (Some t)) (IsDropped g.S.FileStore.gives (g.S.FileStore.keeps ≡ true) c.args.name.now (g.S.FileStore.tree c.drop_temp.new.store).temps c.drop_temp.new.store)
    (c.drop_temp.new.store ≡ c.replace.new.store)) c.target-in-Err.ensures c.drop_temp.ensures.dropped)
    (stop-undone ⊥ _ _ (Abort c.args.commit) c.in-Err.stop c.abort.result
    (subst (λ a. Closes (g.W.FolderCalls.view c.args.calls.now) (Abort c.args.commit) a c.abort.result (g.W.FolderCalls.view c.abort.new.calls)) c.answer_of.ensures c.abort.ensures.closes))

pub returns-in-Err-clause-copy_alone : goal.returns-in-Err-clause-copy_alone
returns-in-Err-clause-copy_alone g c = λ keeps.
    copy-alone-temp c.args.name.now c.args.plan.now (g.S.FileStore.tree c.args.store.now) (g.S.FileStore.tree c.replace.new.store) (g.S.FileStore.tree c.drop_temp.new.store) (c.replace.ensures.copy_alone keeps) (c.drop_temp.ensures.temp keeps)

pub returns-in-Err-clause-over_base : goal.returns-in-Err-clause-over_base
returns-in-Err-clause-over_base g c = λ keeps.
    let old = g.S.FileStore.tree c.args.store.now in
    let mid = g.S.FileStore.tree c.replace.new.store in
    over-base-temp c.args.commit.base c.args.name.now old mid (g.S.FileStore.tree c.drop_temp.new.store)
    (subst (λ (b : Option FileRecord). IsOverBase b c.args.name.now old mid) c.base-base.ensures (c.replace.ensures.over_base keeps)) (c.drop_temp.ensures.temp keeps)

pub returns-in-Ok-clause-checks : goal.returns-in-Ok-clause-checks
returns-in-Ok-clause-checks g c =
    let kind = IsOfPlace c.args.name.now (copy_of c.args.plan.now) in
    let undone = IfDone c.finish.result ⊥ in
    subst (λ (b : Option FileRecord). ChecksFirst g.S.FileStore.gives c.args.name.now b kind undone c.args.store.now c.replace.new.store) c.base-base.ensures
    (checks_so g.S.FileStore.gives c.args.name.now _ kind ⊥ undone c.args.store.now c.replace.new.store (λ no. absurd no) c.in-Ok.ensures.checks)

pub returns-in-Err-clause-checks : goal.returns-in-Err-clause-checks
returns-in-Err-clause-checks g c =
    let n = c.args.name.now in
    let kind = IsOfPlace n (copy_of c.args.plan.now) in
    let is = stop-undone ⊥ _ _ (Abort c.args.commit) c.in-Err.stop c.abort.result
    (subst (λ a. Closes (g.W.FolderCalls.view c.args.calls.now) (Abort c.args.commit) a c.abort.result (g.W.FolderCalls.view c.abort.new.calls)) c.answer_of.ensures c.abort.ensures.closes) in
    subst (λ (b : Option FileRecord). ChecksFirst g.S.FileStore.gives n b kind (IfDone c.abort.result ⊥) c.args.store.now c.drop_temp.new.store) c.base-base.ensures
    (checks_then g.S.FileStore.gives n _ kind _ (IfDone c.abort.result ⊥) c.args.store.now c.replace.new.store c.drop_temp.new.store (λ _. is) c.in-Err.ensures.checks
    c.drop_temp.ensures.calls
    (called_wider g.S.FileStore.gives (IsOfPlace n None) kind (place_copy n (copy_of c.args.plan.now)) _ _ c.drop_temp.ensures.drops))

pub returns-in-Err-clause-kept : goal.returns-in-Err-clause-kept
returns-in-Err-clause-kept g c = λ keeps.
    aborted-kept c.args.name.now (g.S.FileStore.tree c.args.store.now) (g.S.FileStore.tree c.replace.new.store) (g.S.FileStore.tree c.drop_temp.new.store) c.in-Err.stop
    (c.in-Err.ensures.untouched keeps) (c.drop_temp.ensures.temp keeps) _ _ (Abort c.args.commit) c.abort.result
    (subst (λ a. Closes (g.W.FolderCalls.view c.args.calls.now) (Abort c.args.commit) a c.abort.result (g.W.FolderCalls.view c.abort.new.calls)) c.answer_of.ensures c.abort.ensures.closes)
