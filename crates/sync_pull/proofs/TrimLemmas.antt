-- What the removal of older conflict copies leaves as it was.
use Rattle.std.proofs.Common.{◌≡◌, ◌≢◌, ◌⊎◌, ◌∷◌, ℕ, Bool, true, false, List, Option, Some, None, inl, inr, refl, sym, ap, subst, ◌∙◌}
use Rattle.std.specs.Prelude.{bytes_eq, ⊤, ℤ, pos, negsuc}
use Rattle.file_store.specs.Asked.{Call}
use Rattle.file_store.specs.Calls.{ChangesTemp}
use Rattle.file_store.specs.Names.{Name}
use Rattle.file_store.specs.Trees.{Tree}
use Rattle.folder_core.specs.Steps.{is_copy_due}
use Rattle.folder_core.specs.declared.pull_info.PullInfo.{PullInfo}
use Rattle.file_store.specs.declared.node.Node.TheVariants.{Directory}
use Rattle.folder_calls.specs.Shared.{CallerView, Sees}
use Rattle.sync_names.specs.Copies.{IsConflictCopy}
use Rattle.sync_record.specs.Records.{FileRecord}
use Rattle.sync_pull.specs.Copies.{TrimsCopies, surplus}
use Rattle.sync_pull.specs.Ends.{enters}
use Rattle.sync_pull.specs.Plans.{IsPlanned, copy_name}
use Rattle.sync_pull.specs.Pulled.{ChangesAndTrims, ChangesNameAndCopy, IfDone, IfDoneElse, IfFile, IsCopyFree, IsEnteredFirst, IsNameKept, IsOldOrTarget, IsPulled, IsThereOrCopied, TrimsAfter, TrimsIfDue}
use Rattle.sync_pull.specs.Putting.{IsKeptOrMade, WritesTempAlone}
use Rattle.sync_pull.specs.Replacing.{ChangesAlone, IsCopyAlone, IsCopyKept, IsOther}
use Rattle.sync_pull.specs.Standing.{StandsAs}
use Rattle.sync_pull.specs.declared.answer.PullAnswer.{PullAnswer}
use Rattle.sync_pull.specs.declared.answer.PullAnswer.TheVariants.{Done, NotNeeded, Busy, Unsupported, LocalMoved, Superseded, Refused, Failed}
use Rattle.sync_pull.specs.declared.answer.PullFailure.TheVariants.{StoreFault, NoSource, LocalChanged, ConflictNameTaken, NotEmpty, BadParent}
use Rattle.sync_pull.specs.declared.answer.PullRefusal.TheVariants.{SequenceFull, HistoryFull, OutOfMemory, Stray}
use Rattle.sync_pull.specs.declared.commit.Standing.{Standing}
use Rattle.sync_pull.specs.declared.commit.Standing.TheVariants as standing
use Rattle.sync_pull.specs.declared.replace.CopyPlan.{CopyPlan}
use Rattle.sync_pull.specs.declared.replace.CopyPlan.TheVariants.{Due, NotDue}
use Rattle.sync_pull.proofs.EndsLemmas.{sees-first}
use Rattle.sync_pull.proofs.OldCopyLemmas.{contains-take, kept-at}
use Rattle.sync_pull.proofs.PuttingLemmas.{kept-then, some-none}

-- what stays as it was
pub record StaysSo (n copy : Name) (old new : Tree) : Type 0 where
  pub name : new.names n ≡ old.names n
  pub copy_name : new.names copy ≡ old.names copy
  pub temps : new.temps ≡ old.temps

pub stays-same : (n copy : Name) (old new : Tree) → new ≡ old → StaysSo n copy old new
stays-same n copy old new e = record { name = ap (λ (t : Tree). t.names n) e; copy_name = ap (λ (t : Tree). t.names copy) e; temps = ap (λ (t : Tree). t.temps) e }

module _ (refused : Tree → Call → Type 0) (n copy : Name) (old new : Tree) (other : (name copy : List ℕ) → IsConflictCopy name copy → copy ≢ name) where
  pub trims-stay : (most : ℤ) → TrimsCopies refused most n copy old new → StaysSo n copy old new
  trims-stay (negsuc k) e = stays-same n copy old new e
  trims-stay (pos most) (inl h) = stays-same n copy old new h.1
  trims-stay (pos most) (inr h) =
      let names = surplus most h.0 in
      record {
        name = kept-at refused names old new h.2 n (λ has. other n n ((h.1.each n).0 (contains-take _ h.0 n has)).named refl);
        copy_name = kept-at refused names old new h.2 copy (λ has. ((h.1.each copy).0 (contains-take _ h.0 copy has)).other refl);
        temps = h.2.temps;
      }

  pub if-done-stay : (most : ℤ) (p : PullAnswer) (keeps still : Type 0) → keeps → (still → new ≡ old) → IfDoneElse p (keeps → TrimsCopies refused most n copy old new) still → StaysSo n copy old new
  if-done-stay most (Done k) keeps still held same h = trims-stay most (h held)
  if-done-stay most NotNeeded keeps still held same h = stays-same n copy old new (same h)
  if-done-stay most Busy keeps still held same h = stays-same n copy old new (same h)
  if-done-stay most Unsupported keeps still held same h = stays-same n copy old new (same h)
  if-done-stay most LocalMoved keeps still held same h = stays-same n copy old new (same h)
  if-done-stay most Superseded keeps still held same h = stays-same n copy old new (same h)
  if-done-stay most (Refused r) keeps still held same h = stays-same n copy old new (same h)
  if-done-stay most (Failed f) keeps still held same h = stays-same n copy old new (same h)

-- the name, the copy and the temporary files are as they were
pub after-stay : (refused : Tree → Call → Type 0) (most : ℤ) (moment : ℕ) (n : Name) (base : Option FileRecord) (target : FileRecord) (plan : CopyPlan) (old new : Tree)
    → ((name copy : List ℕ) → IsConflictCopy name copy → copy ≢ name) → IsPlanned most moment n base target plan → (p : PullAnswer) (keeps still : Type 0) → keeps → (still → new ≡ old)
    → TrimsAfter plan p (λ copy. keeps → TrimsCopies refused most n copy old new) still → StaysSo n (copy_name n moment base) old new
after-stay refused most moment n base target NotDue old new other planned p keeps still held same h = stays-same n _ old new (same h)
after-stay refused most moment n base target (Due None) old new other planned p keeps still held same h = stays-same n _ old new (same h)
after-stay refused most moment n base target (Due (Some copy)) old new other planned p keeps still held same h =
    subst (λ q. StaysSo n q old new) planned.1 (if-done-stay refused n copy old new other most p keeps still held same h)

if-same : (p : PullAnswer) (still : Type 0) → still → IfDoneElse p ⊤ still
if-same (Done k) still h = tt
if-same NotNeeded still h = h
if-same Busy still h = h
if-same Unsupported still h = h
if-same LocalMoved still h = h
if-same Superseded still h = h
if-same (Refused r) still h = h
if-same (Failed f) still h = h

if-done-any : (p : PullAnswer) (P still : Type 0) → IfDoneElse p P still → IfDoneElse p ⊤ still
if-done-any (Done k) P still h = tt
if-done-any NotNeeded P still h = h
if-done-any Busy P still h = h
if-done-any Unsupported P still h = h
if-done-any LocalMoved P still h = h
if-done-any Superseded P still h = h
if-done-any (Refused r) P still h = h
if-done-any (Failed f) P still h = h

-- of a pull that is not done nothing is removed
pub after-undone : (plan : CopyPlan) (p : PullAnswer) (trims : Name → Type 0) (still : Type 0) → TrimsAfter plan p trims still → IfDoneElse p ⊤ still
after-undone NotDue p trims still h = if-same p still h
after-undone (Due None) p trims still h = if-same p still h
after-undone (Due (Some copy)) p trims still h = if-done-any p (trims copy) still h

if-undone : (p : PullAnswer) (P Q : Type 0) → Q → IfDone p ⊥ → IfDoneElse p P Q
if-undone (Done k) P Q e undone = absurd undone
if-undone NotNeeded P Q e undone = e
if-undone Busy P Q e undone = e
if-undone Unsupported P Q e undone = e
if-undone LocalMoved P Q e undone = e
if-undone Superseded P Q e undone = e
if-undone (Refused r) P Q e undone = e
if-undone (Failed f) P Q e undone = e

pub undone-trims : (due : Bool) (p : PullAnswer) (P Q : Type 0) → Q → IfDone p ⊥ → TrimsIfDue due p P Q
undone-trims true p P Q e undone = if-undone p P Q e undone
undone-trims false p P Q e undone = e

-- what holds of a pull that is not done holds where nothing changed since
pub undone-same : (P Q : PullAnswer → Type 0) (still : Type 0) → ((k : ℕ) → P (Done k) → Q (Done k)) → (still → (p : PullAnswer) → P p → Q p)
    → (p : PullAnswer) → IfDoneElse p ⊤ still → P p → Q p
undone-same P Q still done same (Done k) s h = done k h
undone-same P Q still done same NotNeeded s h = same s NotNeeded h
undone-same P Q still done same Busy s h = same s Busy h
undone-same P Q still done same Unsupported s h = same s Unsupported h
undone-same P Q still done same LocalMoved s h = same s LocalMoved h
undone-same P Q still done same Superseded s h = same s Superseded h
undone-same P Q still done same (Refused r) s h = same s (Refused r) h
undone-same P Q still done same (Failed f) s h = same s (Failed f) h

pub if-file-map : (w : Standing) (P P' Q Q' : Type 0) → (P → P') → (Q → Q') → IfFile w P Q → IfFile w P' Q'
if-file-map standing.File P P' Q Q' f g h = f h
if-file-map standing.Directory P P' Q Q' f g h = g h
if-file-map standing.Nothing P P' Q Q' f g h = g h

-- ---- what a pull comes to, after that

pub pulled-on : (most : ℤ) (moment : ℕ) (n : Name) (t : PullInfo) (old placed new : Tree) → StaysSo n (copy_name n moment t.base) placed new
    → IsPulled most moment n t old placed → IsPulled most moment n t old new
pulled-on most moment n t old placed new s h = record {
  stood = h.stood;
  there = subst (StandsAs (Some t.target)) (sym s.name) h.there;
  copied = λ due. s.copy_name ∙ h.copied due;
}

pub old-or-target-on : (most : ℤ) (moment : ℕ) (n : Name) (refused : Tree → Call → Type 0) (t : PullInfo) (old placed new : Tree) → new.names n ≡ placed.names n
    → IsOldOrTarget most moment n refused t old placed → IsOldOrTarget most moment n refused t old new
old-or-target-on most moment n refused t old placed new e (inl h) = inl (e ∙ h)
old-or-target-on most moment n refused t old placed new e (inr (inl h)) = inr (inl (subst (StandsAs (Some t.target)) (sym e) h))
old-or-target-on most moment n refused t old placed new e (inr (inr h)) = inr (inr (h.0, e ∙ h.1))

pub there-or-copied-on : (n copy : Name) (old placed new : Tree) → StaysSo n copy placed new → IsThereOrCopied n copy old placed → IsThereOrCopied n copy old new
there-or-copied-on n copy old placed new s (inl h) = inl (s.name ∙ h)
there-or-copied-on n copy old placed new s (inr h) = inr (s.copy_name ∙ h)

pub changes-and-trims : (refused : Tree → Call → Type 0) (most : ℤ) (moment : ℕ) (n : Name) (t : PullInfo) (plan : CopyPlan) (p : PullAnswer) (old placed new : Tree)
    → ChangesNameAndCopy n (copy_name n moment t.base) old placed → IsPlanned most moment n t.base t.target plan → (keeps still : Type 0) → keeps → (still → new ≡ placed)
    → (mid : Tree) → IfDone p (IsCopyKept plan mid n placed)
    → TrimsAfter plan p (λ copy. keeps → TrimsCopies refused most n copy placed new) still → ChangesAndTrims most moment n refused t p old new
changes-and-trims refused most moment n t plan p old placed new alone planned keeps still held same mid copied h = record { placed = placed; alone = alone; trimmed = by plan planned copied h }
  where
    due-is : (P : Bool → Type 0) (b : Bool) → is_copy_due most t.base t.target ≡ b → P b → P (is_copy_due most t.base t.target)
    due-is P b e x = subst P (sym e) x

    trims : (copy : Name) (p : PullAnswer) → copy ≡ copy_name n moment t.base → IfDoneElse p (keeps → TrimsCopies refused most n copy placed new) still
        → IfDoneElse p (TrimsCopies refused most n (copy_name n moment t.base) placed new) (new ≡ placed)
    trims copy (Done k) e x = subst (λ q. TrimsCopies refused most n q placed new) e (x held)
    trims copy NotNeeded e x = same x
    trims copy Busy e x = same x
    trims copy Unsupported e x = same x
    trims copy LocalMoved e x = same x
    trims copy Superseded e x = same x
    trims copy (Refused r) e x = same x
    trims copy (Failed f) e x = same x

    by : (plan : CopyPlan) → IsPlanned most moment n t.base t.target plan → IfDone p (IsCopyKept plan mid n placed) → TrimsAfter plan p (λ copy. keeps → TrimsCopies refused most n copy placed new) still
        → TrimsIfDue (is_copy_due most t.base t.target) p (TrimsCopies refused most n (copy_name n moment t.base) placed new) (new ≡ placed)
    by NotDue planned copied h = due-is (λ b. TrimsIfDue b p (TrimsCopies refused most n (copy_name n moment t.base) placed new) (new ≡ placed)) false planned (same h)
    by (Due None) planned copied h = due-is (λ b. TrimsIfDue b p (TrimsCopies refused most n (copy_name n moment t.base) placed new) (new ≡ placed)) true planned.0 (if-undone p _ (new ≡ placed) (same h) copied)
    by (Due (Some copy)) planned copied h = due-is (λ b. TrimsIfDue b p (TrimsCopies refused most n (copy_name n moment t.base) placed new) (new ≡ placed)) true planned.0 (trims copy p planned.1 h)

-- what was so of the name before the temporary file was written
pub kept-from : (n : Name) (old mid new : Tree) → mid.names n ≡ old.names n → (p : PullAnswer) → IsNameKept p n mid new → IsNameKept p n old new
kept-from n old mid new e (Done k) h = tt
kept-from n old mid new e NotNeeded h = h ∙ e
kept-from n old mid new e Busy h = h ∙ e
kept-from n old mid new e Unsupported h = h ∙ e
kept-from n old mid new e LocalMoved h = h ∙ e
kept-from n old mid new e Superseded h = h ∙ e
kept-from n old mid new e (Refused SequenceFull) h = h ∙ e
kept-from n old mid new e (Refused HistoryFull) h = h ∙ e
kept-from n old mid new e (Refused OutOfMemory) h = tt
kept-from n old mid new e (Refused Stray) h = tt
kept-from n old mid new e (Failed StoreFault) h = tt
kept-from n old mid new e (Failed NoSource) h = h ∙ e
kept-from n old mid new e (Failed LocalChanged) h = h ∙ e
kept-from n old mid new e (Failed ConflictNameTaken) h = h ∙ e
kept-from n old mid new e (Failed NotEmpty) h = tt
kept-from n old mid new e (Failed BadParent) h = tt

-- nothing changed but the name and its copy, from the beginning on
other-than : (most : ℤ) (moment : ℕ) (n q : Name) (base : Option FileRecord) (target : FileRecord) (plan : CopyPlan) → IsPlanned most moment n base target plan
    → bytes_eq (copy_name n moment base) q ≡ false → IsOther plan q
other-than most moment n q base target NotDue planned e = tt
other-than most moment n q base target (Due None) planned e = tt
other-than most moment n q base target (Due (Some copy)) planned e = subst (λ c. bytes_eq c q ≡ false) (sym planned.1) e

pub both-alone : (most : ℤ) (moment : ℕ) (n : Name) (base : Option FileRecord) (target : FileRecord) (plan : CopyPlan) (old mid new : Tree) → IsPlanned most moment n base target plan
    → WritesTempAlone n old mid → ChangesAlone n plan mid new → ChangesNameAndCopy n (copy_name n moment base) old new
both-alone most moment n base target plan old mid new planned w a = record {
  names = λ q e f. kept-then n q (old.names q) (mid.names q) (new.names q) (w.alone.names q e) (a.names q e (other-than most moment n q base target plan planned f));
  temps = λ q e. a.temps q e ∙ w.alone.temps q e;
}

-- the temporary file was dropped, and nothing else done
pub dropped-alone : (n copy : Name) (old mid new : Tree) → WritesTempAlone n old mid → ChangesTemp mid n new → ChangesNameAndCopy n copy old new
dropped-alone n copy old mid new w x = record {
  names = λ q e f. subst (IsKeptOrMade n q (old.names q)) (sym (ap (λ g. g q) x.names)) (w.alone.names q e);
  temps = λ q e. x.temps q e ∙ w.alone.temps q e;
}

-- ---- the copy's name, and what was there when the commit was entered

pub free-as : (most : ℤ) (moment : ℕ) (n : Name) (base : Option FileRecord) (target : FileRecord) (plan : CopyPlan) (old mid new : Tree) → IsPlanned most moment n base target plan
    → WritesTempAlone n old mid → ChangesAlone n plan mid new → IsCopyAlone plan n mid new → IsCopyFree (is_copy_due most base target) n (copy_name n moment base) old new
free-as most moment n base target plan old mid new planned w a x = λ apart. by plan planned a x apart (w.alone.names (copy_name n moment base) apart)
  where
    copy : Name
    copy = copy_name n moment base

    Free : Type 0
    Free = IsKeptOrMade n copy (old.names copy) (new.names copy) ⊎ ((is_copy_due most base target ≡ true) × (old.names copy ≡ None) × (new.names copy ≡ old.names n))

    kept : IsKeptOrMade n copy (old.names copy) (mid.names copy) → IsKeptOrMade n copy (mid.names copy) (new.names copy) → Free
    kept first then = inl (kept-then n copy (old.names copy) (mid.names copy) (new.names copy) first then)

    moved : is_copy_due most base target ≡ true → IsKeptOrMade n copy (old.names copy) (mid.names copy) → mid.names copy ≡ None → new.names copy ≡ mid.names n → Free
    moved due (inl same) none is = inr (due, sym same ∙ none, is ∙ w.name)
    moved due (inr made) none is = absurd (some-none Directory (sym made.2 ∙ none))

    by : (plan : CopyPlan) → IsPlanned most moment n base target plan → ChangesAlone n plan mid new → IsCopyAlone plan n mid new → bytes_eq n copy ≡ false
        → IsKeptOrMade n copy (old.names copy) (mid.names copy) → Free
    by NotDue planned a x apart first = kept first (a.names copy apart tt)
    by (Due None) planned a x apart first = kept first (a.names copy apart tt)
    by (Due (Some c)) planned a x apart first =
        elim (subst (λ q. IsCopyAlone (Due (Some q)) n mid new) planned.1 x apart) [
          | inl then ↦ kept first then
          | inr m ↦ moved planned.0 first m.0 m.1
        ]

pub free-on : (due : Bool) (n copy : Name) (old placed new : Tree) → StaysSo n copy placed new → IsCopyFree due n copy old placed → IsCopyFree due n copy old new
free-on due n copy old placed new s x = λ apart. elim (x apart) [
  | inl kept ↦ inl (subst (IsKeptOrMade n copy (old.names copy)) (sym s.copy_name) kept)
  | inr moved ↦ inr (moved.0, moved.1, s.copy_name ∙ moved.2)
]

-- the temporary file was written and dropped, and nothing else done
pub dropped-free : (due : Bool) (n copy : Name) (old mid new : Tree) → WritesTempAlone n old mid → ChangesTemp mid n new → IsCopyFree due n copy old new
dropped-free due n copy old mid new w x = λ apart. inl (subst (IsKeptOrMade n copy (old.names copy)) (sym (ap (λ g. g copy) x.names)) (w.alone.names copy apart))

pub entered-from : (n : Name) (t : PullInfo) (first old new : CallerView) (before mid after : Tree) → Sees first old → mid.names n ≡ before.names n
    → IsEnteredFirst n t old mid new after → IsEnteredFirst n t first before new after
entered-from n t first old new before mid after sees same (inl e) = inl (e ∙ same)
entered-from n t first old new before mid after sees same (inr h) = inr (subst (StandsAs t.base) same h.0, h.1, sees-first first old new (enters t ∷ h.1) sees h.2)

pub entered-on : (n : Name) (t : PullInfo) (old new : CallerView) (before placed after : Tree) → after.names n ≡ placed.names n
    → IsEnteredFirst n t old before new placed → IsEnteredFirst n t old before new after
entered-on n t old new before placed after s (inl e) = inl (s ∙ e)
entered-on n t old new before placed after s (inr h) = inr h
