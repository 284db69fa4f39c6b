-- Beginnings of histories, and what goes on along them.
use Rattle.std.proofs.Common.{◌≡◌, ℕ, ◌+◌, ◌-◌, ◌<◌, ◌≤◌, Bool, true, false, List, [], ◌∷◌, ◌++◌, length, refl, sym, ap, ◌∙◌, arith, ◌⊎◌, inl, inr}
use Rattle.std.specs.Prelude.{cond, ◌==◌, Some, is_some}
use Rattle.std.specs.FinMap.{contains_key, get, insert, remove, len, len-insert, len-remove}
use Rattle.std.proofs.lemmas.List.{length-append}
use Rattle.std.proofs.lemmas.List.Elements.{filter-append}
use Rattle.sync_record.specs.Records.{Name, FileRecord}
use Rattle.folder_core.specs.declared.change.Change.{Change}
use Rattle.folder_core.specs.States.{FolderState, Pull, local}
use Rattle.folder_core.specs.Steps.{MayChange, committed_record, step, with_local}
use Rattle.folder_core.proofs.Orders.{bytes_total}
use Rattle.folder_core.proofs.ChangeCases.{step-cases, found_now, gone_now}
use Rattle.folder_core.proofs.AnnouncedIndexes.{get-announce, get-index_other, get-without_other}
use Rattle.folder_core.proofs.ChangeRest.{same_or_not}
use Rattle.folder_core.proofs.ChangeSequences.{Takes, step-kept, step-taken}
use Rattle.folder_core.proofs.ScanRecords.{local-elsewhere, local-here}
use Rattle.folder_calls.specs.declared.entry.Entry.{Entry}
use Rattle.folder_calls.specs.Histories.{IsLegal, after, state_after, own_entries}
use Rattle.folder_calls.specs.Shared.{CallerView, IsLegalView, seeing}

pub legal-divided : (passes : ℕ) (s : FolderState) (es fs : List Entry) → IsLegal passes s (es ++ fs) → IsLegal passes s es × IsLegal passes (state_after s es) fs
legal-divided passes s [] fs legal = (tt, legal)
legal-divided passes s (e ∷ es) fs legal = let r = legal-divided passes (after s e) es fs legal.1 in ((legal.0, r.0), r.1)

pub legal-together : (passes : ℕ) (s : FolderState) (es fs : List Entry) → IsLegal passes s es → IsLegal passes (state_after s es) fs → IsLegal passes s (es ++ fs)
legal-together passes s [] fs front rest = rest
legal-together passes s (e ∷ es) fs front rest = (front.0, legal-together passes (after s e) es fs front.1 rest)

pub state-divided : (s : FolderState) (es fs : List Entry) → state_after s (es ++ fs) ≡ state_after (state_after s es) fs
state-divided s [] fs = refl
state-divided s (e ∷ es) fs = state-divided (after s e) es fs

-- more passes leave a history legal
pub legal-more : (passes more : ℕ) (s : FolderState) (es : List Entry) → passes ≤ more → IsLegal passes s es → IsLegal more s es
legal-more passes more s [] le legal = tt
legal-more passes more s (e ∷ es) le legal = (
  record { given = (legal.0.given.0, let g = legal.0.given.1 in omega arith); allowed = legal.0.allowed; answered = legal.0.answered; accepted = legal.0.accepted },
  legal-more passes more (after s e) es le legal.1,
)

pub own-divided : (pass : ℕ) (es fs : List Entry) → own_entries pass (es ++ fs) ≡ own_entries pass es ++ own_entries pass fs
own-divided pass es fs = filter-append (λ e. e.pass == pass) es fs

-- ---- room

abbrev pulls_of : FolderState → ℕ
pulls_of s = len s.pulls

put-more : (s : FolderState) (n : Name) (p : Pull) → len s.pulls ≤ len (insert s.pulls n p) + 1
put-more s n p = by (contains_key s.pulls n) (len-insert bytes_total s.pulls n p)
  where
    by : (b : Bool) → len (insert s.pulls n p) ≡ cond b (len s.pulls) (len s.pulls + 1) → len s.pulls ≤ len (insert s.pulls n p) + 1
    by true e = omega arith
    by false e = omega arith

pub removed-less : (s : FolderState) (n : Name) → len s.pulls ≤ len (remove s.pulls n) + 1
removed-less s n = by (is_some (get s.pulls n)) (len-remove bytes_total s.pulls n)
  where
    by : (b : Bool) → len (remove s.pulls n) ≡ cond b (len s.pulls - 1) (len s.pulls) → len s.pulls ≤ len (remove s.pulls n) + 1
    by true e = omega arith
    by false e = omega arith

-- a change closes at most one pull
pub one-closed : (s : FolderState) (c : Change) → len s.pulls ≤ len (step s c).1.pulls + 1
one-closed s = step-cases s (λ _ d. len s.pulls ≤ len d.1.pulls + 1) (record {
  tested = λ _ a _. omega arith;
  found = λ n expected f moment _. omega arith;
  gone = λ n expected moment r _ _. omega arith;
  full = λ d rs. omega arith;
  more = λ d rs. omega arith;
  forgotten = λ d. omega arith;
  begun = λ n b _ _. put-more s n _;
  entered = λ t p _ _. put-more s t.name _;
  finished = λ t assembled p _. removed-less s t.name;
  given_up = λ t p _. removed-less s t.name;
  aborted = λ t p _. removed-less s t.name;
})

-- so entries and open pulls together never become fewer
rest-room : (s : FolderState) (es : List Entry) → len s.pulls ≤ length es + len (state_after s es).pulls
rest-room s [] = omega arith
rest-room s (e ∷ es) = let one = one-closed s e.change in let r = rest-room (after s e) es in omega arith

pub front-room : (s : FolderState) (es fs : List Entry) → length es + len (state_after s es).pulls ≤ length (es ++ fs) + len (state_after s (es ++ fs)).pulls
front-room s es fs =
    let r = rest-room (state_after s es) fs in
    let l = length-append es fs in
    let p = ap pulls_of (state-divided s es fs) in
    omega arith

-- a beginning of what a folder had is one too
pub view-front : (v : CallerView) (es fs : List Entry) → IsLegalView (seeing v (es ++ fs)) → IsLegalView (seeing v es)
view-front v es fs view = record {
  opening = view.opening;
  no_pull = view.no_pull;
  passes = view.passes;
  given = view.given;
  legal = (legal-divided view.passes v.opening es fs view.legal).0;
  room = let r = front-room v.opening es fs in let k = view.room in omega arith;
}

-- ---- local records

abbrev PlanGoesOn : FolderState → FolderState → Type 0
PlanGoesOn s t = (n : Name) → (local t n ≡ local s n) ⊎ ((r : FileRecord) × (local t n ≡ Some r) × (s.last < r.sequence))

recorded-on : (s : FolderState) (r : FileRecord) → PlanGoesOn s (with_local s r)
recorded-on s r n = same_or_not r.name n
    (λ same. inr (record r { sequence = s.last + 1 }, local-here s r n same, omega arith))
    (λ apart. inl (local-elsewhere s r r.name n refl (λ e. apart (sym e))))

step-on : (s : FolderState) (c : Change) → MayChange s.me c → PlanGoesOn s (step s c).1
step-on s = step-cases s (λ x d. MayChange s.me x → PlanGoesOn s d.1) (record {
  tested = λ _ a _ _ n. inl refl;
  found = λ n expected f moment _ _. recorded-on s (found_now s n f moment);
  gone = λ n expected moment r _ _ _. recorded-on s (gone_now s n r moment);
  full = λ d rs may n. inl (get-index_other d rs s.announced s.me n may);
  more = λ d rs may n. inl (get-announce d rs s.announced s.me n may);
  forgotten = λ d may n. inl (get-without_other d s.announced s.me n may);
  begun = λ m b _ _ _ n. inl refl;
  entered = λ t p _ _ _ n. inl refl;
  finished = λ t assembled p _ _. recorded-on s (committed_record p.base p.target);
  given_up = λ t p _ _ n. inl refl;
  aborted = λ t p _ _ n. inl refl;
})

step-last : (s : FolderState) (c : Change) → s.last ≤ (step s c).1.last
step-last s c = by (step-kept s c)
  where
    by : ((step s c).1.last ≡ s.last) ⊎ ((k : ℕ) × Takes (step s c).0 k) → s.last ≤ (step s c).1.last
    by (inl e) = omega arith
    by (inr t) = let e = step-taken s c t.0 t.1 in omega arith

pub history-last : (s : FolderState) (es : List Entry) → s.last ≤ (state_after s es).last
history-last s [] = omega arith
history-last s (e ∷ es) = let one = step-last s e.change in let r = history-last (after s e) es in omega arith

pub history-on : (passes : ℕ) (s : FolderState) (es : List Entry) → IsLegal passes s es → (n : Name)
    → (local (state_after s es) n ≡ local s n) ⊎ ((r : FileRecord) × (local (state_after s es) n ≡ Some r) × (s.last < r.sequence))
history-on passes s [] legal n = inl refl
history-on passes s (e ∷ es) legal n = by (history-on passes (after s e) es legal.1 n) (step-on s e.change legal.0.allowed n)
  where
    Later : ℕ → Type 0
    Later last = (r : FileRecord) × (local (state_after (after s e) es) n ≡ Some r) × (last < r.sequence)

    by : (local (state_after (after s e) es) n ≡ local (after s e) n) ⊎ Later (after s e).last
        → (local (after s e) n ≡ local s n) ⊎ ((r : FileRecord) × (local (after s e) n ≡ Some r) × (s.last < r.sequence))
        → (local (state_after (after s e) es) n ≡ local s n) ⊎ Later s.last
    by (inr x) y = inr (x.0, x.1, (let one = step-last s e.change in let above = x.2 in omega arith))
    by (inl x) (inl y) = inl (x ∙ y)
    by (inl x) (inr y) = inr (y.0, x ∙ y.1, y.2)
