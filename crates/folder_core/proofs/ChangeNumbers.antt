-- Local sequences stay distinct and at most the last one given, and what changes has a new one.
use Rattle.std.proofs.Common.{◌≡◌, ◌+◌, ◌<◌, ◌≤◌, sym, ap, ◌∙◌, arith, ◌⊎◌, inl, inr}
use Rattle.std.specs.Prelude.{Some}
use Rattle.std.specs.FinMap.{get}
use Rattle.sync_record.specs.Records.{Name, FileRecord}
use Rattle.folder_core.specs.Announced.{Announced, Key, key, announce, without}
use Rattle.folder_core.specs.States.{FolderState, local, IsNumbered}
use Rattle.folder_core.specs.declared.change.Change.{Change}
use Rattle.folder_core.specs.Steps.{step, with_local, committed_record, MayChange}
use Rattle.folder_core.proofs.Orders.{keys_total, exact_keys}
use Rattle.folder_core.proofs.AnnouncedMaps.{insert_split}
use Rattle.folder_core.proofs.AnnouncedIndexes.{get-announce, get-without_other, get-index_other}
use Rattle.folder_core.proofs.ChangeCases.{step-cases, found_now, gone_now}

-- what is at a name after a new local record
pub local-split : (s : FolderState) (r : FileRecord) (n : Name) (q : FileRecord) → local (with_local s r) n ≡ Some q
    → ((n ≡ r.name) × (record r { sequence = s.last + 1 } ≡ q)) ⊎ (local s n ≡ Some q)
local-split s r n q e = by (insert_split keys_total exact_keys s.announced (key r.name s.me) (key n s.me) (record r { sequence = s.last + 1 }) q e)
  where
    by : ((key n s.me ≡ key r.name s.me) × (record r { sequence = s.last + 1 } ≡ q)) ⊎ (local s n ≡ Some q)
        → ((n ≡ r.name) × (record r { sequence = s.last + 1 } ≡ q)) ⊎ (local s n ≡ Some q)
    by (inl x) = inl (ap (λ (k : Key). k.name) x.0, x.1)
    by (inr x) = inr x

module _ (s : FolderState) (old : IsNumbered s) (r : FileRecord) where
  abbrev New : Name → FileRecord → Type 0
  New n q = ((n ≡ r.name) × (record r { sequence = s.last + 1 } ≡ q)) ⊎ (local s n ≡ Some q)

  ranged : (n : Name) (q : FileRecord) → New n q → (1 ≤ q.sequence) × (q.sequence ≤ s.last + 1)
  ranged n q (inl e) = let is : s.last + 1 ≡ q.sequence = ap (λ (f : FileRecord). f.sequence) e.1 in (omega arith, omega arith)
  ranged n q (inr e) = let b = old.in_range n q e in (omega arith, omega arith)

  apart : (m n : Name) (p q : FileRecord) → New m p → New n q → p.sequence ≡ q.sequence → m ≡ n
  apart m n p q (inl e) (inl f) same = e.0 ∙ sym f.0
  apart m n p q (inl e) (inr f) same =
      let b = old.in_range n q f in
      let x : s.last + 1 ≡ p.sequence = ap (λ (f : FileRecord). f.sequence) e.1 in
      absurd (omega arith)
  apart m n p q (inr e) (inl f) same =
      let b = old.in_range m p e in
      let x : s.last + 1 ≡ q.sequence = ap (λ (f : FileRecord). f.sequence) f.1 in
      absurd (omega arith)
  apart m n p q (inr e) (inr f) same = old.distinct m n p q e f same

  pub with_local-numbered : IsNumbered (with_local s r)
  with_local-numbered = record {
    in_range = λ n q e. ranged n q (local-split s r n q e);
    distinct = λ m n p q e f. apart m n p q (local-split s r m p e) (local-split s r n q f);
  }

-- what leaves the local records as they are
pub same-numbered : (s : FolderState) → IsNumbered s → (a : Announced) → ((n : Name) → get a (key n s.me) ≡ local s n) → IsNumbered (record s { announced = a })
same-numbered s old a same = record {
  in_range = λ n r e. old.in_range n r (sym (same n) ∙ e);
  distinct = λ m n q r e f. old.distinct m n q r (sym (same m) ∙ e) (sym (same n) ∙ f);
}

pub step-numbered : (s : FolderState) (c : Change) → IsNumbered s → MayChange s.me c → IsNumbered (step s c).1
step-numbered s c old = step-cases s (λ x d. MayChange s.me x → IsNumbered d.1) (record {
  tested = λ _ a _ _. old;
  found = λ n expected f moment _ _. with_local-numbered s old (found_now s n f moment);
  gone = λ n expected moment r _ _ _. with_local-numbered s old (gone_now s n r moment);
  full = λ d rs may. same-numbered s old (announce d rs (without d s.announced)) (λ n. get-index_other d rs s.announced s.me n may);
  more = λ d rs may. same-numbered s old (announce d rs s.announced) (λ n. get-announce d rs s.announced s.me n may);
  forgotten = λ d may. same-numbered s old (without d s.announced) (λ n. get-without_other d s.announced s.me n may);
  begun = λ n b _ _ _. record { in_range = old.in_range; distinct = old.distinct };
  entered = λ t p _ _ _. record { in_range = old.in_range; distinct = old.distinct };
  finished = λ t assembled p _ _.
      let new = with_local-numbered s old (committed_record p.base p.target) in
      record { in_range = new.in_range; distinct = new.distinct };
  given_up = λ t p _ _. record { in_range = old.in_range; distinct = old.distinct };
  aborted = λ t p _ _. record { in_range = old.in_range; distinct = old.distinct };
}) c

abbrev IsNew : FolderState → FolderState → Type 0
IsNew s t = (n : Name) (r : FileRecord) → local t n ≡ Some r → (local s n ≡ Some r) ⊎ (s.last < r.sequence)

local-new : (s : FolderState) (r : FileRecord) → IsNew s (with_local s r)
local-new s r n q e = by (local-split s r n q e)
  where
    by : ((n ≡ r.name) × (record r { sequence = s.last + 1 } ≡ q)) ⊎ (local s n ≡ Some q) → (local s n ≡ Some q) ⊎ (s.last < q.sequence)
    by (inl x) = inr (let is : s.last + 1 ≡ q.sequence = ap (λ (f : FileRecord). f.sequence) x.1 in omega arith)
    by (inr x) = inl x

-- a local record that wasn't there before has a greater sequence than any before
pub step-new : (s : FolderState) (c : Change) → MayChange s.me c → IsNew s (step s c).1
step-new s = step-cases s (λ x d. MayChange s.me x → IsNew s d.1) (record {
  tested = λ _ a _ _ n r e. inl e;
  found = λ n expected f moment _ _. local-new s (found_now s n f moment);
  gone = λ n expected moment r _ _ _. local-new s (gone_now s n r moment);
  full = λ d rs may n r e. inl (sym (get-index_other d rs s.announced s.me n may) ∙ e);
  more = λ d rs may n r e. inl (sym (get-announce d rs s.announced s.me n may) ∙ e);
  forgotten = λ d may n r e. inl (sym (get-without_other d s.announced s.me n may) ∙ e);
  begun = λ m b _ _ _ n r e. inl e;
  entered = λ t p _ _ _ n r e. inl e;
  finished = λ t assembled p _ _. local-new s (committed_record p.base p.target);
  given_up = λ t p _ _ n r e. inl e;
  aborted = λ t p _ _ n r e. inl e;
})
