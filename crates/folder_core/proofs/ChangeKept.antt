-- What isn't accepted changes nothing.
use Rattle.std.proofs.Common.{◌≡◌, true, false, refl}
use Rattle.std.proofs.lemmas.Bool.{true≢false}
use Rattle.folder_core.specs.States.{FolderState}
use Rattle.folder_core.specs.declared.change.Change.{Change}
use Rattle.folder_core.specs.Steps.{is_accepted, step}
use Rattle.folder_core.proofs.ChangeCases.{step-cases}

made : (s t : FolderState) → true ≡ false → t ≡ s
made s t e = absurd (true≢false e)

pub step-keeps : (s : FolderState) (c : Change) → is_accepted (step s c).0 ≡ false → (step s c).1 ≡ s
step-keeps s c = step-cases s (λ _ d. is_accepted d.0 ≡ false → d.1 ≡ s) (record {
  tested = λ _ a _ _. refl;
  found = λ n expected f moment _. made s _;
  gone = λ n expected moment r _ _. made s _;
  full = λ d rs. made s _;
  more = λ d rs. made s _;
  forgotten = λ d. made s _;
  begun = λ n b _ _. made s _;
  entered = λ t p _ _. made s _;
  finished = λ t assembled p _. made s _;
  given_up = λ t p _. made s _;
  aborted = λ t p _. made s _;
}) c
