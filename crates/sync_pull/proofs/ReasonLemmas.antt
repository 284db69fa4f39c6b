-- Why a pull fails, by what its parts failed for.
use Rattle.std.proofs.Common.{◌≡◌, ℕ, ◌+◌, ◌-◌, ◌^◌, ◌<◌, min, Bool, true, false, ◌&&◌, ◌==◌, [], ◌∷◌, length, Option, Some, None, inl, inr, refl, sym, ap, subst, ◌∙◌, arith}
use Rattle.std.specs.Prelude.{bytes_eq, ◌⊎◌, ⊤, IsSome, ℤ}
use Rattle.std.proofs.lemmas.Bool.{false≢true}
use Rattle.std.proofs.lemmas.Slice.Eq.{bytes_eq-Decides}
use Rattle.file_store.specs.Asked.{Call}
use Rattle.file_store.specs.Calls.{HasBadParent, HasEntries}
use Rattle.file_store.specs.Names.{Name, is_parent}
use Rattle.file_store.specs.Trees.{Tree, is_file}
use Rattle.file_store.specs.declared.node.Node.{Node}
use Rattle.folder_core.specs.Steps.{is_copy_due}
use Rattle.folder_core.specs.declared.pull_info.PullInfo.{PullInfo}
use Rattle.sync_pull.specs.Faults.{CountsFaults, IsFaultCounted, StopCounts, StopsFor}
use Rattle.sync_pull.specs.Copies.{IsMoveRefused}
use Rattle.sync_pull.specs.Plans.{IsPlanned, copy_name}
use Rattle.sync_pull.specs.Pulled.{HasNoPlace, IfFile, IsOldOrTarget, MayBeEmpty, PullFails}
use Rattle.sync_pull.specs.Putting.{AreTempsKept, IsLeft, WritesTempAlone, standing_of}
use Rattle.sync_pull.specs.Replacing.{HasBadCopyParent, IsCopyTaken, IsDue, MayEmpty, ReplaceFails}
use Rattle.sync_pull.specs.Standing.{IsReadyAs, StandsAs}
use Rattle.sync_pull.specs.declared.answer.PullFailure.{PullFailure}
use Rattle.sync_pull.specs.declared.answer.PullFailure.TheVariants.{StoreFault, NoSource, LocalChanged, ConflictNameTaken, NotEmpty, BadParent}
use Rattle.sync_pull.specs.declared.answer.Stop.{Stop}
use Rattle.sync_pull.specs.declared.answer.Stop.TheVariants as stop
use Rattle.sync_pull.specs.declared.commit.Standing.{Standing}
use Rattle.sync_pull.specs.declared.commit.Standing.TheVariants as standing
use Rattle.sync_pull.specs.declared.replace.CopyPlan.{CopyPlan}
use Rattle.sync_pull.specs.declared.replace.CopyPlan.TheVariants.{Due, NotDue}
use Rattle.sync_pull.proofs.FailLemmas.{counted-on}
use Rattle.sync_pull.proofs.PulledLemmas.{there-is}
use Rattle.sync_pull.proofs.PuttingLemmas.{no-own-parent}

-- ---- parents

and-right : (a b : Bool) → (a && b) ≡ true → b ≡ true
and-right true b h = h
and-right false b h = absurd (false≢true h)

-- a parent is shorter
pub parent-shorter : (p q : Name) → is_parent p q ≡ true → length p < length q
parent-shorter [] [] h = absurd (false≢true h)
parent-shorter [] (y ∷ ys) h = omega arith
parent-shorter (x ∷ xs) [] h = absurd (false≢true h)
parent-shorter (x ∷ xs) (y ∷ ys) h =
    let rest : length xs < length ys = parent-shorter xs ys (and-right (x == y) (is_parent xs ys) h) in
    omega arith

same-or-not : (n q : Name) → ((n ≡ q) ⊎ (bytes_eq n q ≡ false))
same-or-not n q = by (bytes_eq n q) refl
  where
    by : (b : Bool) → bytes_eq n q ≡ b → (n ≡ q) ⊎ (bytes_eq n q ≡ false)
    by true e = inl ((bytes_eq-Decides n q).0 e)
    by false e = inr e

other-than-parent : (n q : Name) → is_parent n q ≡ true → bytes_eq n q ≡ false
other-than-parent n q h =
    elim (same-or-not n q) [
      | inl same ↦ absurd (false≢true (sym (no-own-parent q) ∙ subst (λ x. is_parent x q ≡ true) same h))
      | inr other ↦ other
    ]

-- ---- what was so before the temporary file was written

module _ (n : Name) (old mid : Tree) (w : WritesTempAlone n old mid) where
  pub entries-before : HasEntries mid n → HasEntries old n
  entries-before h = (h.0, h.1, by h.2)
    where
      other : bytes_eq n h.0 ≡ false
      other = other-than-parent n h.0 h.1

      named : IsSome (mid.names h.0) → IsSome (old.names h.0)
      named s =
          elim (w.alone.names h.0 other) [
            | inl same ↦ subst IsSome same s
            | inr made ↦
                let up : length n < length h.0 = parent-shorter n h.0 h.1 in
                let down : length h.0 < length n = parent-shorter h.0 n made.0 in
                absurd (omega arith)
          ]

      by : IsSome (mid.names h.0) ⊎ IsSome (mid.temps h.0) → IsSome (old.names h.0) ⊎ IsSome (old.temps h.0)
      by (inl s) = inl (named s)
      by (inr s) = inr (subst IsSome (w.alone.temps h.0 other) s)

  file-before : (p : Name) → is_file (mid.names p) ≡ true → is_file (old.names p) ≡ true
  file-before p h =
      elim (same-or-not n p) [
        | inl same ↦ subst (λ q. is_file (old.names q) ≡ true) same (ap is_file (sym w.name) ∙ subst (λ q. is_file (mid.names q) ≡ true) (sym same) h)
        | inr other ↦
            elim (w.alone.names p other) [
              | inl kept ↦ ap is_file (sym kept) ∙ h
              | inr made ↦ absurd (false≢true (sym (ap is_file made.2) ∙ h))
            ]
      ]

  pub parent-before : (m : Name) → HasBadParent mid m → HasBadParent old m
  parent-before m h = (h.0, h.1, file-before h.0 h.2)

-- ---- why

module _ (most : ℤ) (moment : ℕ) (n : Name) (keeps sourceless : Type 0) (t : PullInfo) (old mid new : Tree) (before after : ℕ) (w : keeps → WritesTempAlone n old mid) where
  planned-place : (plan : CopyPlan) → IsPlanned most moment n t.base t.target plan → IsDue plan × (keeps → IsCopyTaken plan new)
      → (is_copy_due most t.base t.target ≡ true) × (keeps → HasNoPlace (copy_name n moment t.base) new)
  planned-place NotDue planned h = absurd h.0
  planned-place (Due None) planned h = (planned.0, λ k. inl planned.1)
  planned-place (Due (Some copy)) planned h = (planned.0, λ k. inr (subst (λ q. IsSome (new.names q)) planned.1 (h.1 k)))

  planned-parent : (plan : CopyPlan) → keeps → IsPlanned most moment n t.base t.target plan → HasBadCopyParent plan mid
      → (is_copy_due most t.base t.target ≡ true) × HasBadParent old (copy_name n moment t.base)
  planned-parent NotDue k planned h = absurd h
  planned-parent (Due None) k planned h = absurd h
  planned-parent (Due (Some copy)) k planned h = (planned.0, subst (HasBadParent old) planned.1 (parent-before n old mid (w k) copy h))

  pub pull-fails : (plan : CopyPlan) → IsPlanned most moment n t.base t.target plan → (f : PullFailure)
      → ReplaceFails keeps t.base t.target plan n mid new before after f → PullFails most moment n keeps (IsFaultCounted before after) sourceless t old new f
  pull-fails plan planned StoreFault h = h
  pull-fails plan planned NoSource h = absurd h
  pull-fails plan planned LocalChanged h = λ k s. h k (subst (StandsAs t.base) (sym (w k).name) s)
  pull-fails plan planned ConflictNameTaken h = planned-place plan planned h
  pull-fails plan planned NotEmpty h = λ k. ((h k).0, (h k).1, entries-before n old mid (w k) (h k).2)
  pull-fails plan planned BadParent h = λ k. elim (h k) [
    | inl b ↦ inl (parent-before n old mid (w k) n b)
    | inr b ↦ inr (planned-parent plan k planned b)
  ]

counted-one : (a b : ℕ) → b ≡ min (a + 1) (2 ^ 64 - 1) → IsFaultCounted a b
counted-one a b h = grind arith

-- a pull that stops before its commit is entered
pub stops-before : (most : ℤ) (moment : ℕ) (n : Name) (keeps sourceless : Type 0) (t : PullInfo) (old new : Tree) (a b c : ℕ) (s : Stop)
    → StopCounts sourceless (keeps → HasBadParent old n) s a b → CountsFaults b c
    → StopsFor (PullFails most moment n keeps (IsFaultCounted a c) sourceless t old new) s
stops-before most moment n keeps sourceless t old new a b c stop.OutOfMemory h counts = tt
stops-before most moment n keeps sourceless t old new a b c (stop.Failed StoreFault) h counts = counted-on a b c (counted-one a b h) counts
stops-before most moment n keeps sourceless t old new a b c (stop.Failed NoSource) h counts = h.0
stops-before most moment n keeps sourceless t old new a b c (stop.Failed LocalChanged) h counts = absurd h
stops-before most moment n keeps sourceless t old new a b c (stop.Failed ConflictNameTaken) h counts = absurd h
stops-before most moment n keeps sourceless t old new a b c (stop.Failed NotEmpty) h counts = absurd h
stops-before most moment n keeps sourceless t old new a b c (stop.Failed BadParent) h counts = λ k. inl (h.0 k)

-- ---- what is left

emptied-by : (most : ℤ) (moment : ℕ) (n : Name) (refused : Tree → Call → Type 0) (t : PullInfo) (plan : CopyPlan) (was : Option Node) → IsPlanned most moment n t.base t.target plan
    → MayEmpty refused was n plan (standing_of t.base) (standing_of (Some t.target)) → MayBeEmpty most moment n refused t was
emptied-by most moment n refused t NotDue was planned m = inr m
emptied-by most moment n refused t (Due None) was planned m = absurd m
emptied-by most moment n refused t (Due (Some copy)) was planned m = inl (planned.0, subst (IsMoveRefused refused was n) planned.1 m)

pub left-pulled : (most : ℤ) (moment : ℕ) (n : Name) (refused : Tree → Call → Type 0) (t : PullInfo) (plan : CopyPlan) (old mid new : Tree) → IsPlanned most moment n t.base t.target plan
    → mid.names n ≡ old.names n → IsReadyAs t.target.deleted t.target n mid
    → IsLeft (MayEmpty refused (mid.names n) n plan (standing_of t.base) (standing_of (Some t.target))) (standing_of (Some t.target)) mid n new → IsOldOrTarget most moment n refused t old new
left-pulled most moment n refused t plan old mid new planned same ready (inl e) = inl (e ∙ same)
left-pulled most moment n refused t plan old mid new planned same ready (inr (inl p)) = inr (inl (there-is t.target n mid new ready p))
left-pulled most moment n refused t plan old mid new planned same ready (inr (inr e)) = inr (inr (
  emptied-by most moment n refused t plan (old.names n) planned
      (subst (λ (o : Option Node). MayEmpty refused o n plan (standing_of t.base) (standing_of (Some t.target))) same e.0),
  e.1,
))

-- ---- the temporary file

pub if-file-then : (w : Standing) (P Q R still : Type 0) → IfFile w P Q → IfFile w ⊤ still → (still → Q → R) → IfFile w P R
if-file-then standing.File P Q R still h s f = h
if-file-then standing.Directory P Q R still h s f = f s h
if-file-then standing.Nothing P Q R still h s f = f s h

pub still-kept : (w : Standing) (still : Type 0) (old mid : Tree) → (still → mid ≡ old) → IfFile w ⊤ still → AreTempsKept w old mid
still-kept standing.File still old mid same s = tt
still-kept standing.Directory still old mid same s = ap (λ (t : Tree). t.temps) (same s)
still-kept standing.Nothing still old mid same s = ap (λ (t : Tree). t.temps) (same s)
