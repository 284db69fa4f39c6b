-- Why a pull fails, and what a failure leaves.
use Rattle.std.proofs.Common.{◌≡◌, ◌≢◌, ℕ, Option, Some, None, List, inl, inr, refl, sym, ap, subst, ◌∙◌, arith}
use Rattle.std.specs.Prelude.{Err, IfErr, IsErrAnd, IsSome, Ok, Result}
use Rattle.file_store.specs.Calls.{ChangesTemp}
use Rattle.file_store.specs.Names.{Name}
use Rattle.file_store.specs.Trees.{Tree}
use Rattle.folder_core.specs.declared.change.Change.{Change}
use Rattle.folder_calls.specs.Shared.{CallerView}
use Rattle.sync_names.specs.Parsing.{IsToldOf}
use Rattle.sync_names.specs.Refusal.{refusal}
use Rattle.sync_names.specs.declared.fault.NameFault.{NameFault}
use Rattle.sync_names.specs.declared.fault.NameFault.TheVariants as name
use Rattle.sync_record.specs.Records.{FileRecord}
use Rattle.sync_pull.specs.Ends.{Closes, stopped}
use Rattle.sync_pull.specs.Faults.{CountsFaults, CountsStop, FailsFor, IsFaultCounted, StopCounts, StopsFor}
use Rattle.sync_pull.specs.Pulled.{IfDone, IfFile, IsTakenOrDropped}
use Rattle.sync_pull.specs.Putting.{AreTempsKept, IsInPlace, IsLeft}
use Rattle.sync_pull.specs.Replacing.{IsCopyTaken, ReplaceFails}
use Rattle.sync_pull.specs.declared.answer.PullAnswer.{PullAnswer}
use Rattle.sync_pull.specs.declared.answer.PullAnswer.TheVariants.{Done, NotNeeded, Busy, Unsupported, LocalMoved, Superseded, Refused, Failed}
use Rattle.sync_pull.specs.declared.answer.PullFailure.{PullFailure}
use Rattle.sync_pull.specs.declared.answer.PullFailure.TheVariants.{StoreFault, NoSource, LocalChanged, ConflictNameTaken, NotEmpty, BadParent}
use Rattle.sync_pull.specs.declared.answer.PullRefusal.TheVariants.{SequenceFull, HistoryFull, OutOfMemory, Stray}
use Rattle.sync_pull.specs.declared.answer.Stop.{Stop}
use Rattle.sync_pull.specs.declared.answer.Stop.TheVariants as stop
use Rattle.sync_pull.specs.declared.commit.Standing.{Standing}
use Rattle.sync_pull.specs.declared.commit.Standing.TheVariants as standing
use Rattle.sync_pull.specs.declared.replace.CopyPlan.{CopyPlan}
use Rattle.sync_pull.specs.declared.replace.CopyPlan.TheVariants.{Due, NotDue}

-- a name that is refused has a refusal, unless memory was out
pub refused-some : (text : List ℕ) (fault : NameFault) → IsToldOf text fault → (fault ≢ name.OutOfMemory) → IsSome (refusal text)
refused-some text name.Empty h other = subst IsSome (sym h) refl
refused-some text name.Absolute h other = subst IsSome (sym h) refl
refused-some text name.BadComponent h other = subst IsSome (sym h) refl
refused-some text name.Nul h other = subst IsSome (sym h) refl
refused-some text name.NotNfc h other = subst IsSome (sym h) refl
refused-some text name.Internal h other = subst IsSome (sym h) refl
refused-some text name.OutOfMemory h other = absurd (other refl)

-- what holds of these holds of what they are
pub of-both : {A B : Type 0} (P : A → B → Type 0) (a c : A) (b d : B) → c ≡ a → d ≡ b → P a b → P c d
of-both P a c b d e f h = subst (λ x. P x d) (sym e) (subst (P a) (sym f) h)

-- ---- why

pub stop-weaker : (why why' : PullFailure → Type 0) → ((f : PullFailure) → why f → why' f) → (s : Stop) → StopsFor why s → StopsFor why' s
stop-weaker why why' w stop.OutOfMemory h = tt
stop-weaker why why' w (stop.Failed f) h = w f h

pub fails-weaker : (why why' : PullFailure → Type 0) → ((f : PullFailure) → why f → why' f) → (p : PullAnswer) → FailsFor why p → FailsFor why' p
fails-weaker why why' w (Done k) h = tt
fails-weaker why why' w NotNeeded h = tt
fails-weaker why why' w Busy h = tt
fails-weaker why why' w Unsupported h = tt
fails-weaker why why' w LocalMoved h = tt
fails-weaker why why' w Superseded h = tt
fails-weaker why why' w (Refused r) h = tt
fails-weaker why why' w (Failed f) h = w f h

stop-fails : (why : PullFailure → Type 0) (s : Stop) → StopsFor why s → FailsFor why (stopped s)
stop-fails why stop.OutOfMemory h = tt
stop-fails why (stop.Failed f) h = h

-- a pull that is closed fails for what it stopped for
pub closed-fails : (why : PullFailure → Type 0) (old new : CallerView) (c : Change) (s : Stop) (p : PullAnswer) → StopsFor why s → Closes old c (stopped s) p new → FailsFor why p
closed-fails why old new c s p h (inl e) = subst (FailsFor why) (sym e.0) (stop-fails why s h)
closed-fails why old new c s p h (inr e) = subst (FailsFor why) (sym e.0) tt

-- faults that are counted later leave the count high
pub counted-on : (a b c : ℕ) → IsFaultCounted a b → CountsFaults b c → IsFaultCounted a c
counted-on a b c x y = grind arith

pub taken-on : (plan : CopyPlan) (t u : Tree) → u.names ≡ t.names → IsCopyTaken plan t → IsCopyTaken plan u
taken-on NotDue t u e h = h
taken-on (Due None) t u e h = h
taken-on (Due (Some copy)) t u e h = subst (λ (f : Name → _). IsSome (f copy)) (sym e) h

-- where the temporary file is dropped afterwards, it failed for the same reason
pub replace-dropped : (keeps : Type 0) (base : Option FileRecord) (target : FileRecord) (plan : CopyPlan) (n : Name) (old mid new : Tree) (before at after : ℕ)
    → (keeps → ChangesTemp mid n new) → CountsFaults at after → (f : PullFailure)
    → ReplaceFails keeps base target plan n old mid before at f → ReplaceFails keeps base target plan n old new before after f
replace-dropped keeps base target plan n old mid new before at after temp counts StoreFault h = counted-on before at after h counts
replace-dropped keeps base target plan n old mid new before at after temp counts NoSource h = h
replace-dropped keeps base target plan n old mid new before at after temp counts LocalChanged h = h
replace-dropped keeps base target plan n old mid new before at after temp counts ConflictNameTaken h = (h.0, λ k. taken-on plan mid new (temp k).names (h.1 k))
replace-dropped keeps base target plan n old mid new before at after temp counts NotEmpty h = h
replace-dropped keeps base target plan n old mid new before at after temp counts BadParent h = h

-- an error that is passed on is counted as it was
pub err-counts : {X : Type 0} (source parent : Type 0) (r : Result X Stop) (s : Stop) (a b : ℕ) → IsErrAnd r (λ x. x ≡ s) → StopCounts source parent s a b → CountsStop source parent r a b
err-counts source parent (Ok x) s a b e h = absurd e
err-counts source parent (Err x) s a b e h = subst (λ y. StopCounts source parent y a b) (sym e) h

-- ---- what is left

pub in-place-on : (w : Standing) (old : Tree) (n : Name) (mid new : Tree) → new.names n ≡ mid.names n → IsInPlace w old n mid → IsInPlace w old n new
in-place-on standing.File old n mid new e h = (h.0, e ∙ h.1)
in-place-on standing.Directory old n mid new e h = e ∙ h
in-place-on standing.Nothing old n mid new e h = e ∙ h

pub left-on : (emptied : Type 0) (w : Standing) (old : Tree) (n : Name) (mid new : Tree) → new.names n ≡ mid.names n → IsLeft emptied w old n mid → IsLeft emptied w old n new
left-on emptied w old n mid new e (inl h) = inl (e ∙ h)
left-on emptied w old n mid new e (inr (inl h)) = inr (inl (in-place-on w old n mid new e h))
left-on emptied w old n mid new e (inr (inr h)) = inr (inr (h.0, e ∙ h.1))

-- ---- the temporary file

undone-dropped : (p : PullAnswer) (taken dropped : Type 0) → IfDone p ⊥ → dropped → IsTakenOrDropped p taken dropped
undone-dropped (Done k) taken dropped undone d = absurd undone
undone-dropped NotNeeded taken dropped undone d = d
undone-dropped Busy taken dropped undone d = d
undone-dropped Unsupported taken dropped undone d = d
undone-dropped LocalMoved taken dropped undone d = d
undone-dropped Superseded taken dropped undone d = d
undone-dropped (Refused SequenceFull) taken dropped undone d = d
undone-dropped (Refused HistoryFull) taken dropped undone d = d
undone-dropped (Refused OutOfMemory) taken dropped undone d = d
undone-dropped (Refused Stray) taken dropped undone d = inr d
undone-dropped (Failed f) taken dropped undone d = d

pub temps-itself : (w : Standing) (t : Tree) → AreTempsKept w t t
temps-itself standing.File t = tt
temps-itself standing.Directory t = refl
temps-itself standing.Nothing t = refl

-- a pull that is not done dropped it, if there was to be one
pub temp-ended : (w : Standing) (p : PullAnswer) (taken dropped still keeps : Type 0) (old mid new : Tree) → (still → new ≡ mid) → (keeps → AreTempsKept w old mid)
    → IfFile w dropped still → IfDone p ⊥ → IfFile w (IsTakenOrDropped p taken dropped) (keeps → new.temps ≡ old.temps)
temp-ended standing.File p taken dropped still keeps old mid new same kept d undone = undone-dropped p taken dropped undone d
temp-ended standing.Directory p taken dropped still keeps old mid new same kept d undone = λ k. ap (λ (t : Tree). t.temps) (same d) ∙ kept k
temp-ended standing.Nothing p taken dropped still keeps old mid new same kept d undone = λ k. ap (λ (t : Tree). t.temps) (same d) ∙ kept k

-- an error that is passed on
pub if-err : {X E : Type 0} (r : Result X E) (s : E) (P : E → Type 0) → IsErrAnd r (λ x. x ≡ s) → P s → IfErr r P
if-err (Ok x) s P e h = tt
if-err (Err x) s P e h = subst P (sym e) h
