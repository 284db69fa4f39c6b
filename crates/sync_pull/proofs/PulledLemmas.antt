-- What a pull does to the store, by its answer.
use Rattle.std.proofs.Common.{◌≡◌, ℕ, Bool, true, List, [], ◌∷◌, Option, Some, None, inl, inr, sym, ap, subst, ◌∙◌}
use Rattle.std.specs.Prelude.{false, if◌then◌else◌, unwrap_or, ℤ}
use Rattle.file_store.specs.declared.node.Node.TheVariants.{File}
use Rattle.folder_core.specs.Steps.{is_copy_due}
use Rattle.sync_record.specs.Records.{FileRecord, kind_of}
use Rattle.sync_record.specs.declared.kind.Kind.{Kind}
use Rattle.sync_record.specs.declared.kind.Kind.TheVariants as kind
use Rattle.sync_pull.specs.Plans.{IsPlanned, copy_name}
use Rattle.sync_pull.specs.Standing.{IsOfKind, IsOfRecord, IsReadyAs, IsReadyBy, StandsAs}
use Rattle.sync_pull.specs.declared.commit.Standing.TheVariants as standing
use Rattle.sync_pull.specs.declared.replace.CopyPlan.TheVariants.{Due, NotDue}
use Rattle.file_store.specs.Calls.{ChangesTemp}
use Rattle.file_store.specs.Names.{Name}
use Rattle.file_store.specs.Trees.{Tree}
use Rattle.folder_core.specs.declared.change.Change.{Change}
use Rattle.folder_core.specs.declared.change.Change.TheVariants.{Abort}
use Rattle.folder_core.specs.declared.pull_info.PullInfo.{PullInfo}
use Rattle.folder_calls.specs.Adds.{Asked}
use Rattle.folder_calls.specs.Shared.{CallerView}
use Rattle.sync_pull.specs.Chains.{AsksAndSees}
use Rattle.folder_calls.specs.declared.pull.EnterRefusal.{EnterRefusal}
use Rattle.folder_calls.specs.declared.pull.EnterRefusal.TheVariants as enter
use Rattle.sync_pull.specs.Ends.{Closes, EndsCommit, Finishes, IsRefused, enters, stopped}
use Rattle.sync_pull.specs.Pulled.{IfDone, IsEnteredFirst, IsNameKept, IsPulled, IsThereOrCopied}
use Rattle.sync_pull.specs.Putting.{IsInPlace, IsKeptOrMade, standing_by, standing_of}
use Rattle.sync_pull.specs.Replacing.{ChangesAlone, IsCopyAlone, IsCopyKept, IsOverBase, IsReplaced, IsSaved, IsUntouched}
use Rattle.sync_pull.specs.declared.answer.PullAnswer.{PullAnswer}
use Rattle.sync_pull.specs.declared.answer.PullAnswer.TheVariants.{Done, NotNeeded, Busy, Unsupported, LocalMoved, Superseded, Refused, Failed}
use Rattle.sync_pull.specs.declared.answer.PullFailure.TheVariants.{StoreFault, NoSource, LocalChanged, ConflictNameTaken, NotEmpty, BadParent}
use Rattle.sync_pull.specs.declared.answer.PullRefusal.TheVariants.{SequenceFull, HistoryFull, OutOfMemory, Stray}
use Rattle.sync_pull.specs.declared.answer.Stop.{Stop}
use Rattle.sync_pull.specs.declared.answer.Stop.TheVariants as stop
use Rattle.sync_pull.specs.declared.replace.CopyPlan.{CopyPlan}

pub if-done : (P : Type 0) → P → (p : PullAnswer) → IfDone p P
if-done P x (Done k) = x
if-done P x NotNeeded = tt
if-done P x Busy = tt
if-done P x Unsupported = tt
if-done P x LocalMoved = tt
if-done P x Superseded = tt
if-done P x (Refused r) = tt
if-done P x (Failed f) = tt

stopped-undone : (P : Type 0) (s : Stop) → IfDone (stopped s) P
stopped-undone P stop.OutOfMemory = tt
stopped-undone P (stop.Failed f) = tt

-- a pull that is closed so is not done
pub closed-undone : (P : Type 0) (old new : CallerView) (c : Change) (given p : PullAnswer) → IfDone given P → Closes old c given p new → IfDone p P
closed-undone P old new c given p x (inl e) = subst (λ r. IfDone r P) (sym e.0) x
closed-undone P old new c given p x (inr e) = subst (λ r. IfDone r P) (sym e.0) tt

pub stop-undone : (P : Type 0) (old new : CallerView) (c : Change) (s : Stop) (p : PullAnswer) → Closes old c (stopped s) p new → IfDone p P
stop-undone P old new c s p h = closed-undone P old new c (stopped s) p (stopped-undone P s) h

pub refused-undone : (P : Type 0) (old new : CallerView) (r : EnterRefusal) (p : PullAnswer) → IsRefused old r p new → IfDone p P
refused-undone P old new enter.Stray p e = subst (λ r. IfDone r P) (sym e.0) tt
refused-undone P old new (enter.LocalMoved t) p e = closed-undone P old new _ LocalMoved p tt e
refused-undone P old new (enter.Superseded t) p e = closed-undone P old new _ Superseded p tt e
refused-undone P old new (enter.SequenceFull t) p e = closed-undone P old new _ (Refused SequenceFull) p tt e
refused-undone P old new (enter.HistoryFull t) p e = closed-undone P old new _ (Refused HistoryFull) p tt e

-- where the name is as it was, any answer keeps it
pub name-kept : (n : Name) (old new : Tree) → new.names n ≡ old.names n → (p : PullAnswer) → IsNameKept p n old new
name-kept n old new e (Done k) = tt
name-kept n old new e NotNeeded = e
name-kept n old new e Busy = e
name-kept n old new e Unsupported = e
name-kept n old new e LocalMoved = e
name-kept n old new e Superseded = e
name-kept n old new e (Refused SequenceFull) = e
name-kept n old new e (Refused HistoryFull) = e
name-kept n old new e (Refused OutOfMemory) = tt
name-kept n old new e (Refused Stray) = tt
name-kept n old new e (Failed StoreFault) = tt
name-kept n old new e (Failed NoSource) = e
name-kept n old new e (Failed LocalChanged) = e
name-kept n old new e (Failed ConflictNameTaken) = e
name-kept n old new e (Failed NotEmpty) = tt
name-kept n old new e (Failed BadParent) = tt

pub finished-kept : (n : Name) (x y : Tree) (old new : CallerView) (c : PullInfo) (p : PullAnswer) → Finishes old c p new → IsNameKept p n x y
finished-kept n x y old new c (Done k) h = tt
finished-kept n x y old new c NotNeeded h = absurd h
finished-kept n x y old new c Busy h = absurd h
finished-kept n x y old new c Unsupported h = absurd h
finished-kept n x y old new c LocalMoved h = absurd h
finished-kept n x y old new c Superseded h = absurd h
finished-kept n x y old new c (Refused SequenceFull) h = absurd h
finished-kept n x y old new c (Refused HistoryFull) h = absurd h
finished-kept n x y old new c (Refused OutOfMemory) h = absurd h
finished-kept n x y old new c (Refused Stray) h = tt
finished-kept n x y old new c (Failed f) h = absurd h

-- a finish ends a commit
pub finished-ends : (old new : CallerView) (c : PullInfo) (p : PullAnswer) → Finishes old c p new → EndsCommit old c p new
finished-ends old new c (Done k) h = h
finished-ends old new c NotNeeded h = absurd h
finished-ends old new c Busy h = absurd h
finished-ends old new c Unsupported h = absurd h
finished-ends old new c LocalMoved h = absurd h
finished-ends old new c Superseded h = absurd h
finished-ends old new c (Refused SequenceFull) h = absurd h
finished-ends old new c (Refused HistoryFull) h = absurd h
finished-ends old new c (Refused OutOfMemory) h = absurd h
finished-ends old new c (Refused Stray) h = inl h
finished-ends old new c (Failed f) h = absurd h

-- an abort ends it too
pub aborted-ends : (old new : CallerView) (c : PullInfo) (s : Stop) (p : PullAnswer) → Closes old (Abort c) (stopped s) p new → EndsCommit old c p new
aborted-ends old new c stop.OutOfMemory p (inl e) = subst (λ r. EndsCommit old c r new) (sym e.0) e.1
aborted-ends old new c (stop.Failed f) p (inl e) = subst (λ r. EndsCommit old c r new) (sym e.0) e.1
aborted-ends old new c s p (inr e) = subst (λ r. EndsCommit old c r new) (sym e.0) (inr e.1)

untouched-kept : (n : Name) (old mid new : Tree) (s : Stop) → IsUntouched s old mid → new.names ≡ mid.names → IsNameKept (stopped s) n old new
untouched-kept n old mid new stop.OutOfMemory h e = tt
untouched-kept n old mid new (stop.Failed StoreFault) h e = tt
untouched-kept n old mid new (stop.Failed NoSource) h e = ap (λ f. f n) e ∙ ap (λ (t : Tree). t.names n) h
untouched-kept n old mid new (stop.Failed LocalChanged) h e = ap (λ f. f n) e ∙ ap (λ (t : Tree). t.names n) h
untouched-kept n old mid new (stop.Failed ConflictNameTaken) h e = ap (λ f. f n) e ∙ ap (λ (t : Tree). t.names n) h
untouched-kept n old mid new (stop.Failed NotEmpty) h e = tt
untouched-kept n old mid new (stop.Failed BadParent) h e = tt

-- what was not touched is kept where the pull is then aborted
pub aborted-kept : (n : Name) (x y z : Tree) (s : Stop) → IsUntouched s x y → ChangesTemp y n z → (old new : CallerView) (c : Change) (p : PullAnswer)
    → Closes old c (stopped s) p new → IsNameKept p n x z
aborted-kept n x y z s h temp old new c p (inl e) = subst (λ r. IsNameKept r n x z) (sym e.0) (untouched-kept n x y z s h temp.names)
aborted-kept n x y z s h temp old new c p (inr e) = subst (λ r. IsNameKept r n x z) (sym e.0) tt

pub alone-temp : (n : Name) (plan : CopyPlan) (a b c : Tree) → ChangesAlone n plan a b → ChangesTemp b n c → ChangesAlone n plan a c
alone-temp n plan a b c x y = record {
  names = λ q e o. subst (IsKeptOrMade n q (a.names q)) (sym (ap (λ f. f q) y.names)) (x.names q e o);
  temps = λ q e. y.temps q e ∙ x.temps q e;
}

pub temp-alone : (n : Name) (plan : CopyPlan) (a b : Tree) → ChangesTemp a n b → ChangesAlone n plan a b
temp-alone n plan a b x = record { names = λ q e o. inl (ap (λ f. f q) x.names); temps = x.temps }

-- ---- the copy's name, and what was there when the commit was entered

pub copy-alone-temp : (n : Name) (plan : CopyPlan) (a b c : Tree) → IsCopyAlone plan n a b → ChangesTemp b n c → IsCopyAlone plan n a c
copy-alone-temp n NotDue a b c x y = tt
copy-alone-temp n (Due None) a b c x y = tt
copy-alone-temp n (Due (Some copy)) a b c x y = λ apart. elim (x apart) [
  | inl kept ↦ inl (subst (IsKeptOrMade n copy (a.names copy)) (sym (ap (λ f. f copy) y.names)) kept)
  | inr moved ↦ inr (moved.0, ap (λ f. f copy) y.names ∙ moved.1)
]

pub temp-copy-alone : (n : Name) (plan : CopyPlan) (a b : Tree) → ChangesTemp a n b → IsCopyAlone plan n a b
temp-copy-alone n NotDue a b x = tt
temp-copy-alone n (Due None) a b x = tt
temp-copy-alone n (Due (Some copy)) a b x = λ apart. inl (inl (ap (λ f. f copy) x.names))

pub over-base-temp : (base : Option FileRecord) (n : Name) (a b c : Tree) → IsOverBase base n a b → ChangesTemp b n c → IsOverBase base n a c
over-base-temp base n a b c (inl same) x = inl (ap (λ f. f n) x.names ∙ same)
over-base-temp base n a b c (inr stood) x = inr stood

-- the commit was entered, and what the base says was there
pub entered-over : (n : Name) (t : PullInfo) (old : CallerView) (before : Tree) (new : CallerView) (after : Tree)
    → (rest : List Asked) × AsksAndSees old (enters t ∷ rest) new → IsOverBase t.base n before after → IsEnteredFirst n t old before new after
entered-over n t old before new after asked (inl same) = inl same
entered-over n t old before new after asked (inr stood) = inr (stood, asked.0, asked.1)

-- ---- a pull that is done

pub done-through : (P Q : Type 0) → (P → Q) → (p : PullAnswer) → IfDone p P → IfDone p Q
done-through P Q f (Done k) x = f x
done-through P Q f NotNeeded x = tt
done-through P Q f Busy x = tt
done-through P Q f Unsupported x = tt
done-through P Q f LocalMoved x = tt
done-through P Q f Superseded x = tt
done-through P Q f (Refused r) x = tt
done-through P Q f (Failed g) x = tt

module _ (r : FileRecord) (n : Name) (mid new : Tree) where
  there-by-kind : (k : Kind) → IsReadyBy k r n mid → IsInPlace (standing_by k) mid n new → IsOfKind k r (new.names n)
  there-by-kind kind.File ready e = (ready.0, e.0, e.1 ∙ ap (λ o. Some (File (unwrap_or o []) e.0)) ready.1, ready.2)
  there-by-kind kind.Directory ready e = e
  there-by-kind kind.Other ready e = absurd ready

  there-by : (d : Bool) → IsReadyAs d r n mid → IsInPlace (if d then standing.Nothing else standing_by (kind_of r)) mid n new → IsOfRecord d r (new.names n)
  there-by true ready e = e
  there-by false ready e = there-by-kind (kind_of r) ready e

  -- what is put in place of a record is what the record says
  pub there-is : IsReadyAs r.deleted r n mid → IsInPlace (standing_of (Some r)) mid n new → StandsAs (Some r) (new.names n)
  there-is ready e = there-by r.deleted ready e

copied-as : (most : ℤ) (moment : ℕ) (n : Name) (base : Option FileRecord) (target : FileRecord) (plan : CopyPlan) (mid new : Tree) → IsPlanned most moment n base target plan
    → IsCopyKept plan mid n new → is_copy_due most base target ≡ true → new.names (copy_name n moment base) ≡ mid.names n
copied-as most moment n base target NotDue mid new planned kept due = absurd (true-false (sym due ∙ planned))
  where
    true-false : true ≡ false → ⊥
    true-false e = cc
copied-as most moment n base target (Due None) mid new planned kept due = absurd kept
copied-as most moment n base target (Due (Some copy)) mid new planned kept due = ap new.names (sym planned.1) ∙ kept

pub pulled : (most : ℤ) (moment : ℕ) (n : Name) (t : PullInfo) (plan : CopyPlan) (old mid new : Tree) → mid.names n ≡ old.names n
    → IsReadyAs t.target.deleted t.target n mid → IsPlanned most moment n t.base t.target plan
    → IsReplaced t.base t.target plan n mid new → IsPulled most moment n t old new
pulled most moment n t plan old mid new same ready planned h = record {
  stood = subst (StandsAs t.base) same h.stood;
  there = there-is t.target n mid new ready h.in_place;
  copied = λ due. copied-as most moment n t.base t.target plan mid new planned h.copied due ∙ same;
}

-- ---- what was at the name is saved

pub kept-saved : (plan : CopyPlan) (old : Tree) (n : Name) (new : Tree) → IsCopyKept plan old n new → IsSaved plan old n new
kept-saved NotDue old n new h = tt
kept-saved (Due None) old n new h = absurd h
kept-saved (Due (Some copy)) old n new h = inr h

pub saved-temp : (plan : CopyPlan) (old mid : Tree) (n : Name) (new : Tree) → IsSaved plan old n mid → ChangesTemp mid n new → IsSaved plan old n new
saved-temp NotDue old mid n new h x = tt
saved-temp (Due None) old mid n new h x = ap (λ f. f n) x.names ∙ h
saved-temp (Due (Some copy)) old mid n new (inl h) x = inl (ap (λ f. f n) x.names ∙ h)
saved-temp (Due (Some copy)) old mid n new (inr h) x = inr (ap (λ f. f copy) x.names ∙ h)

pub temp-saved : (plan : CopyPlan) (old : Tree) (n : Name) (new : Tree) → ChangesTemp old n new → IsSaved plan old n new
temp-saved NotDue old n new x = tt
temp-saved (Due None) old n new x = ap (λ f. f n) x.names
temp-saved (Due (Some copy)) old n new x = inl (ap (λ f. f n) x.names)

pub saved-as : (most : ℤ) (moment : ℕ) (n : Name) (base : Option FileRecord) (target : FileRecord) (plan : CopyPlan) (old mid new : Tree) → IsPlanned most moment n base target plan
    → mid.names n ≡ old.names n → IsSaved plan mid n new → is_copy_due most base target ≡ true → IsThereOrCopied n (copy_name n moment base) old new
saved-as most moment n base target NotDue old mid new planned same h due = absurd (true-false (sym due ∙ planned))
  where
    true-false : true ≡ false → ⊥
    true-false e = cc
saved-as most moment n base target (Due None) old mid new planned same h due = inl (h ∙ same)
saved-as most moment n base target (Due (Some copy)) old mid new planned same (inl h) due = inl (h ∙ same)
saved-as most moment n base target (Due (Some copy)) old mid new planned same (inr h) due = inr (ap new.names (sym planned.1) ∙ h ∙ same)
