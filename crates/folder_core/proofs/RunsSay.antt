-- What changes that are made one after the other come to, and which of them end a pull or allocate.
use Rattle.std.proofs.Common.{◌≡◌, ℕ, true, false, List, [], ◌∷◌, ◌++◌, refl, sym, ap, ◌∙◌, ◌⊎◌, inl, inr}
use Rattle.std.specs.Prelude.{Some, None}
use Rattle.std.proofs.lemmas.Bool.{true≢false}
use Rattle.sync_record.specs.Records.{FileRecord}
use Rattle.sync_version.specs.Versions.{Vector}
use Rattle.folder_core.specs.Calls.{copy_allocates, may_allocate}
use Rattle.folder_core.specs.Runs.{IsPartway, ends_pull, run}
use Rattle.folder_core.specs.States.{FolderState}
use Rattle.folder_core.specs.Steps.{step}
use Rattle.folder_core.specs.declared.answer.Answer.{Answer}
use Rattle.folder_core.specs.declared.answer.Answer.TheVariants.{Begun, Entered, Moved, Recorded}
use Rattle.folder_core.specs.declared.change.Change.{Change}
use Rattle.folder_core.specs.declared.change.Change.TheVariants.{Abort, Finish, GiveUp}
use Rattle.folder_core.specs.declared.pull_info.PullInfo.{PullInfo}

pub run-more : (s : FolderState) (cs ds : List Change) → run s (cs ++ ds) ≡ ((run s cs).0 ++ (run (run s cs).1 ds).0, (run (run s cs).1 ds).1)
run-more s [] ds = refl
run-more s (c ∷ cs) ds = ap (λ (r : List Answer × FolderState). ((step s c).0 ∷ r.0, r.1)) (run-more (step s c).1 cs ds)

pub partway-says : (s t : FolderState) (cs : List Change) (answers : List Answer) → IsPartway s cs answers t
    → (made rest : List Change) × (cs ≡ made ++ rest) × (answers ≡ (run s made).0) × (t ≡ (run s made).1)
partway-says s t cs answers p =
    (p.made, p.rest, p.divided, ap (λ (r : List Answer × FolderState). r.0) p.ran, ap (λ (r : List Answer × FolderState). r.1) p.ran)

abbrev Ends : Change → Type 0
Ends c = ((t : PullInfo) × (r : FileRecord) × (c ≡ Finish t r)) ⊎ (((t : PullInfo) × (c ≡ GiveUp t)) ⊎ ((t : PullInfo) × (c ≡ Abort t)))

pub ends-to : (c : Change) → ends_pull c ≡ true → Ends c
ends-to (Finish t r) e = inl (t, r, refl)
ends-to (GiveUp t) e = inr (inl (t, refl))
ends-to (Abort t) e = inr (inr (t, refl))
ends-to _ e = absurd (true≢false (sym e))

pub ends-from : (c : Change) → Ends c → ends_pull c ≡ true
ends-from c (inl x) = ap ends_pull x.2
ends-from c (inr (inl x)) = ap ends_pull x.1
ends-from c (inr (inr x)) = ap ends_pull x.1

abbrev Copies : Answer → Type 0
Copies a = ((v : Vector) × (a ≡ Moved (Some v))) ⊎ (((t : PullInfo) × (a ≡ Begun t)) ⊎ ((t : PullInfo) × (a ≡ Entered t)))

pub copies-to : (a : Answer) → copy_allocates a ≡ true → Copies a
copies-to (Moved (Some v)) e = inl (v, refl)
copies-to (Begun t) e = inr (inl (t, refl))
copies-to (Entered t) e = inr (inr (t, refl))
copies-to _ e = absurd (true≢false (sym e))

pub copies-from : (a : Answer) → Copies a → copy_allocates a ≡ true
copies-from a (inl x) = ap copy_allocates x.1
copies-from a (inr (inl x)) = ap copy_allocates x.1
copies-from a (inr (inr x)) = ap copy_allocates x.1

pub allocates-to : (a : Answer) → may_allocate a ≡ true → ((k : ℕ) × (a ≡ Recorded k)) ⊎ Copies a
allocates-to (Recorded k) e = inl (k, refl)
allocates-to (Moved (Some v)) e = inr (inl (v, refl))
allocates-to (Begun t) e = inr (inr (inl (t, refl)))
allocates-to (Entered t) e = inr (inr (inr (t, refl)))
allocates-to _ e = absurd (true≢false (sym e))

pub allocates-from : (a : Answer) → ((k : ℕ) × (a ≡ Recorded k)) ⊎ Copies a → may_allocate a ≡ true
allocates-from a (inl x) = ap may_allocate x.1
allocates-from a (inr (inl x)) = ap may_allocate x.1
allocates-from a (inr (inr (inl x))) = ap may_allocate x.1
allocates-from a (inr (inr (inr x))) = ap may_allocate x.1
