-- The last sequence of a folder is that of a local record, or the one with which the folder was opened.
use Rattle.std.proofs.Common.{◌≡◌, ℕ, ◌+◌, List, [], ◌∷◌, refl, ◌∙◌, ◌⊎◌, inl, inr}
use Rattle.std.specs.Prelude.{Some}
use Rattle.std.specs.FinMap.{get}
use Rattle.sync_record.specs.Records.{Name, FileRecord}
use Rattle.folder_core.specs.Announced.{Announced, announce, key, without}
use Rattle.folder_core.specs.declared.change.Change.{Change}
use Rattle.folder_core.specs.States.{FolderState, local}
use Rattle.folder_core.specs.Steps.{MayChange, committed_record, step, with_local}
use Rattle.folder_core.proofs.AnnouncedIndexes.{get-announce, get-index_other, get-without_other}
use Rattle.folder_core.proofs.ChangeCases.{found_now, gone_now, step-cases}
use Rattle.folder_core.proofs.ScanRecords.{local-here}
use Rattle.folder_calls.specs.Histories.{IsLegal, after, state_after}
use Rattle.folder_calls.specs.declared.entry.Entry.{Entry}

abbrev pub HasLast : ℕ → FolderState → Type 0
HasLast opened s = (s.last ≡ opened) ⊎ ((n : Name) × (r : FileRecord) × (local s n ≡ Some r) × (r.sequence ≡ s.last))

recorded : (opened : ℕ) (s : FolderState) (r : FileRecord) → HasLast opened (with_local s r)
recorded opened s r = inr (r.name, record r { sequence = s.last + 1 }, local-here s r r.name refl, refl)

-- where other devices' records change
others : (opened : ℕ) (s : FolderState) (now : Announced) → ((n : Name) → get now (key n s.me) ≡ local s n) → HasLast opened s → HasLast opened (record s { announced = now })
others opened s now same (inl e) = inl e
others opened s now same (inr x) = inr (x.0, x.1, same x.0 ∙ x.2, x.3)

step-last : (opened : ℕ) (s : FolderState) (c : Change) → MayChange s.me c → HasLast opened s → HasLast opened (step s c).1
step-last opened s = step-cases s (λ x d. MayChange s.me x → HasLast opened s → HasLast opened d.1) (record {
  tested = λ _ a _ _ h. h;
  found = λ n expected f moment _ _ _. recorded opened s (found_now s n f moment);
  gone = λ n expected moment r _ _ _ _. recorded opened s (gone_now s n r moment);
  full = λ d rs may h. others opened s (announce d rs (without d s.announced)) (λ n. get-index_other d rs s.announced s.me n may) h;
  more = λ d rs may h. others opened s (announce d rs s.announced) (λ n. get-announce d rs s.announced s.me n may) h;
  forgotten = λ d may h. others opened s (without d s.announced) (λ n. get-without_other d s.announced s.me n may) h;
  begun = λ m b _ _ _ h. h;
  entered = λ t p _ _ _ h. h;
  finished = λ t assembled p _ _ _. recorded opened s (committed_record p.base p.target);
  given_up = λ t p _ _ h. h;
  aborted = λ t p _ _ h. h;
})

pub history-has : (passes opened : ℕ) (s : FolderState) (es : List Entry) → IsLegal passes s es → HasLast opened s → HasLast opened (state_after s es)
history-has passes opened s [] legal h = h
history-has passes opened s (e ∷ es) legal h = history-has passes opened (after s e) es legal.1 (step-last opened s e.change legal.0.allowed h)
