-- How a change takes a sequence, and that it fits.
use Rattle.std.proofs.Common.{◌≡◌, ℕ, ◌+◌, ◌-◌, ◌^◌, ◌≤◌, Bool, true, false, refl, sym, ap, ◌∙◌, arith, ◌⊎◌, inl, inr}
use Rattle.std.proofs.lemmas.Bool.{true≢false}
use Rattle.folder_core.specs.States.{FolderState, IsFolder}
use Rattle.folder_core.specs.declared.answer.Answer.{Answer}
use Rattle.folder_core.specs.declared.answer.Answer.TheVariants.{Recorded, Done, Applied, Begun, Entered, Closed}
use Rattle.folder_core.specs.declared.change.Change.{Change}
use Rattle.folder_core.specs.Steps.{next_ticket, is_accepted, step, MayChange}
use Rattle.folder_core.proofs.ChangeFolders.{step-folder}
use Rattle.folder_core.proofs.ChangeCases.{step-cases}

-- the answer has the sequence
abbrev pub Takes : Answer → ℕ → Type 0
Takes a k = (a ≡ Recorded k) ⊎ (a ≡ Done k)

abbrev sequence_of : Answer → ℕ
sequence_of (Recorded k) = k
sequence_of (Done k) = k
sequence_of _ = 0

abbrev has_sequence : Answer → Bool
has_sequence (Recorded k) = true
has_sequence (Done k) = true
has_sequence _ = false

taken : (a : Answer) (k : ℕ) → Takes a k → (has_sequence a ≡ true) × (sequence_of a ≡ k)
taken a k (inl e) = (ap has_sequence e, ap sequence_of e)
taken a k (inr e) = (ap has_sequence e, ap sequence_of e)

tested-takes : (a : Answer) → is_accepted a ≡ false → (k : ℕ) → Takes a k → ⊥
tested-takes a unmade k (inl e) = true≢false (ap is_accepted (sym e) ∙ unmade)
tested-takes a unmade k (inr e) = true≢false (ap is_accepted (sym e) ∙ unmade)

abbrev Counts : FolderState → Answer × FolderState → Type 0
Counts s d = (k : ℕ) → Takes d.0 k → (k ≡ s.last + 1) × (d.1.last ≡ k)

untaken : (a : Answer) (k : ℕ) → has_sequence a ≡ false → Takes a k → ⊥
untaken a k none takes = true≢false (sym (taken a k takes).0 ∙ none)

pub step-taken : (s : FolderState) (c : Change) (k : ℕ) → Takes (step s c).0 k → (k ≡ s.last + 1) × ((step s c).1.last ≡ k)
step-taken s = step-cases s (λ _ d. Counts s d) (record {
  tested = λ _ a unmade k takes. absurd (tested-takes a unmade k takes);
  found = λ n expected f moment _ k takes. let e = (taken _ k takes).1 in (sym e, e);
  gone = λ n expected moment r _ _ k takes. let e = (taken _ k takes).1 in (sym e, e);
  full = λ d rs k takes. absurd (untaken Applied k refl takes);
  more = λ d rs k takes. absurd (untaken Applied k refl takes);
  forgotten = λ d k takes. absurd (untaken Applied k refl takes);
  begun = λ n b _ _ k takes. absurd (untaken (Begun (next_ticket s n b.1)) k refl takes);
  entered = λ t p _ _ k takes. absurd (untaken (Entered t) k refl takes);
  finished = λ t assembled p _ k takes. let e = (taken _ k takes).1 in (sym e, e);
  given_up = λ t p _ k takes. absurd (untaken Closed k refl takes);
  aborted = λ t p _ k takes. absurd (untaken Closed k refl takes);
})

pub step-kept : (s : FolderState) (c : Change) → ((step s c).1.last ≡ s.last) ⊎ ((k : ℕ) × Takes (step s c).0 k)
step-kept s = step-cases s (λ _ d. (d.1.last ≡ s.last) ⊎ ((k : ℕ) × Takes d.0 k)) (record {
  tested = λ _ a _. inl refl;
  found = λ n expected f moment _. inr (s.last + 1, inl refl);
  gone = λ n expected moment r _ _. inr (s.last + 1, inl refl);
  full = λ d rs. inl refl;
  more = λ d rs. inl refl;
  forgotten = λ d. inl refl;
  begun = λ n b _ _. inl refl;
  entered = λ t p _ _. inl refl;
  finished = λ t assembled p _. inr (s.last + 1, inr refl);
  given_up = λ t p _. inl refl;
  aborted = λ t p _. inl refl;
})

pub step-fits : (s : FolderState) (c : Change) (k : ℕ) → IsFolder s → MayChange s.me c → Takes (step s c).0 k → k ≤ 2 ^ 63 - 1
step-fits s c k folder may takes =
    let room = (step-folder s c folder may).room in
    let e = (step-taken s c k takes).1 in
    omega arith
