-- What holds of pages holds with the next one.
use Rattle.std.proofs.Common.{◌≡◌, ℕ, ◌<◌, ◌≤◌, Bool, true, false, List, [], ◌∷◌, ◌++◌, refl, sym, ap, subst, ◌∙◌, arith, ◌⊎◌, inl, inr}
use Rattle.std.specs.Prelude.{Contains, nat_le, Option, None, Some}
use Rattle.std.specs.Option.{option_or}
use Rattle.std.proofs.lemmas.Bool.{leb-true, leb-false}
use Rattle.std.proofs.lemmas.List.Sums.{fold-append}
use Rattle.std.proofs.lemmas.Option.{none-some}
use Rattle.sync_record.specs.Records.{Name, FileRecord}
use Rattle.folder_core.specs.Announced.{last_of}
use Rattle.folder_core.specs.States.{FolderState, IsFolder, local}
use Rattle.folder_calls.specs.Shared.{CallerView, now}
use Rattle.index_sender.specs.Overlay.{KeepsUp, RecordMap, lay, overlay}
use Rattle.index_sender.specs.Pages.{Progress, after_page, last_sequence, page_of, records_of}
use Rattle.index_sender.specs.declared.page.Page.{Page}
use Rattle.index_sender.specs.declared.page.Page.TheVariants.{Nothing}
use Rattle.index_sender.proofs.PageRecords.{IsLast, Rise, inside, last-has, last-in, last-is}

-- what a page has of a name, over what the pages before it have
abbrev pub over_page : Bool → List FileRecord → Option FileRecord → Name → Option FileRecord
over_page true rs below n = last_of n rs
over_page false rs below n = option_or (last_of n rs) below

pub overlay-push : (pages : List Page) (owes : Bool) (rs : List FileRecord) (n : Name) → overlay (pages ++ page_of owes rs ∷ []) n ≡ over_page owes rs (overlay pages n) n
overlay-push pages owes rs n = ap (λ (m : RecordMap). m n) (fold-append lay (λ q. None) pages (page_of owes rs ∷ [])) ∙ by owes rs
  where
    by : (owes : Bool) (rs : List FileRecord) → lay (overlay pages) (page_of owes rs) n ≡ over_page owes rs (overlay pages n) n
    by true rs = refl
    by false [] = refl
    by false (r ∷ rs) = refl

pub records-are : (owes : Bool) (rs : List FileRecord) → records_of (page_of owes rs) ≡ rs
records-are true rs = refl
records-are false [] = refl
records-are false (r ∷ rs) = refl

-- only where no Index is to come, and there is no record
pub nothing-is : (owes : Bool) (rs : List FileRecord) → Nothing ≡ page_of owes rs → (owes ≡ false) × (rs ≡ [])
nothing-is true rs e = cc
nothing-is false [] e = (refl, refl)
nothing-is false (r ∷ rs) e = cc

pub after-nothing : (old : Progress) (rs : List FileRecord) → old.owes_index ≡ false → rs ≡ [] → after_page old rs ≡ old
after-nothing old rs owes none = ap (after_page old) none ∙ ap (λ b. record old { owes_index = b }) (sym owes)

-- a local record of the page's point stands before where the page stops
abbrev pub Stops : FolderState → List FileRecord → FileRecord → Type 0
Stops t rs r = (m : Name) × (q : FileRecord) × (local t m ≡ Some q) × (q.sequence ≤ r.sequence) × ((p : FileRecord) → Contains rs p → p.sequence < q.sequence)

-- the records that a page has
pub record IsPage (t : FolderState) (cursor : ℕ) (rs : List FileRecord) : Type 0 where
  pub rise : Rise rs
  pub only : (r : FileRecord) → Contains rs r → (n : Name) × (local t n ≡ Some r) × (cursor < r.sequence)
  pub all : (n : Name) (r : FileRecord) → local t n ≡ Some r → cursor < r.sequence → Contains rs r ⊎ Stops t rs r

-- a local record stays, or a later one comes in its place
abbrev pub LocalGoesOn : FolderState → FolderState → Type 0
LocalGoesOn s t = (n : Name) → (local t n ≡ local s n) ⊎ ((r : FileRecord) × (local t n ≡ Some r) × (s.last < r.sequence))

module _ (t : FolderState) (folder : IsFolder t) (cursor : ℕ) (rs : List FileRecord) (page : IsPage t cursor rs) where
  last : IsLast cursor rs (last_sequence cursor rs)
  last = last-is cursor rs page.rise

  -- a record that the page has under the name is the local one
  pub page-local : (n : Name) (r : FileRecord) → last_of n rs ≡ Some r → (local t n ≡ Some r) × (cursor < r.sequence) × (r.sequence ≤ last_sequence cursor rs)
  page-local n r e =
      let i = last-in n rs r e in
      let found = page.only r i.0 in
      let same : found.0 ≡ n = sym (folder.named _ r found.1) ∙ i.1 in
      (subst (λ m. local t m ≡ Some r) same found.1, found.2, last.above r i.0)

  -- a local record up to where the page goes is in it
  pub page-contains : (n : Name) (r : FileRecord) → local t n ≡ Some r → cursor < r.sequence → r.sequence ≤ last_sequence cursor rs → Contains rs r
  page-contains n r here above below = by (page.all n r here above)
    where
      stops : Stops t rs r → (last_sequence cursor rs ≡ cursor) ⊎ ((q : FileRecord) × Contains rs q × (q.sequence ≡ last_sequence cursor rs)) → ⊥
      stops x (inl e) = omega arith
      stops x (inr l) =
          let lt : l.0.sequence < x.1.sequence = x.4 l.0 l.1 in
          let le : x.1.sequence ≤ r.sequence = x.3 in
          let at : l.0.sequence ≡ last_sequence cursor rs = l.2 in
          omega arith

      by : Contains rs r ⊎ Stops t rs r → Contains rs r
      by (inl i) = i
      by (inr x) = absurd (stops x last.reached)

  pub page-has : (n : Name) (r : FileRecord) → local t n ≡ Some r → cursor < r.sequence → r.sequence ≤ last_sequence cursor rs → last_of n rs ≡ Some r
  page-has n r here above below =
      let found = last-has n rs r (page-contains n r here above below) (folder.named _ r here) in
      found.1 ∙ sym (page-local n found.0 found.1).0 ∙ here

  pub page-from : cursor ≤ last_sequence cursor rs
  page-from = by last.reached
    where
      by : (last_sequence cursor rs ≡ cursor) ⊎ ((q : FileRecord) × Contains rs q × (q.sequence ≡ last_sequence cursor rs)) → cursor ≤ last_sequence cursor rs
      by (inl e) = omega arith
      by (inr l) = let lt : cursor < l.0.sequence = (page.only l.0 l.1).2 in let at : l.0.sequence ≡ last_sequence cursor rs = l.2 in omega arith

  -- where the page goes to is a sequence that the folder gave
  pub page-given : (last_sequence cursor rs ≡ cursor) ⊎ (last_sequence cursor rs ≤ t.last)
  page-given = by last.reached
    where
      by : (last_sequence cursor rs ≡ cursor) ⊎ ((q : FileRecord) × Contains rs q × (q.sequence ≡ last_sequence cursor rs)) → (last_sequence cursor rs ≡ cursor) ⊎ (last_sequence cursor rs ≤ t.last)
      by (inl e) = inl e
      by (inr l) =
          let found = page.only l.0 l.1 in
          let le : l.0.sequence ≤ t.last = (folder.numbered.in_range found.0 l.0 found.1).1 in
          let at : l.0.sequence ≡ last_sequence cursor rs = l.2 in
          inr (omega arith)

-- a record of which one and another hold is the same
same-local : (t : FolderState) (n : Name) (q r : FileRecord) → local t n ≡ Some q → local t n ≡ Some r → q.sequence ≡ r.sequence
same-local t n q r one other = ap (λ (x : FileRecord). x.sequence) (inside q r (sym one ∙ other))

module _ (start : ℕ) (pages : List Page) (old : Progress) (before after : CallerView) (keeps : KeepsUp start pages old before)
    (folder : IsFolder (now after)) (later : (now before).last ≤ (now after).last) (goes : LocalGoesOn (now before) (now after))
    (rs : List FileRecord) (page : IsPage (now after) old.cursor rs) where
  in-page : (n : Name) (r : FileRecord) → last_of n rs ≡ Some r → (local (now after) n ≡ Some r) × (old.cursor < r.sequence) × (r.sequence ≤ last_sequence old.cursor rs)
  in-page = page-local (now after) folder old.cursor rs page

  -- a record that came in place of another is later than the cursor
  replaced : (r : FileRecord) → (now before).last < r.sequence → start < r.sequence → old.cursor < r.sequence
  replaced r new above = by keeps.given
    where
      by : (old.cursor ≡ start) ⊎ (old.cursor ≤ (now before).last) → old.cursor < r.sequence
      by (inl e) = omega arith
      by (inr le) = omega arith

  abbrev goal_all : Bool → Type 0
  goal_all owes = (n : Name) (r : FileRecord) → local (now after) n ≡ Some r → start < r.sequence → r.sequence ≤ last_sequence old.cursor rs → over_page owes rs (overlay pages n) n ≡ Some r

  -- a record that the pages before have, and the page has not
  kept : (n : Name) (r : FileRecord) → local (now after) n ≡ Some r → start < r.sequence → r.sequence ≤ old.cursor → overlay pages n ≡ Some r
  kept n r here above below = by (goes n)
    where
      by : (local (now after) n ≡ local (now before) n) ⊎ ((q : FileRecord) × (local (now after) n ≡ Some q) × ((now before).last < q.sequence)) → overlay pages n ≡ Some r
      by (inl e) = keeps.all n r (sym e ∙ here) above below
      by (inr x) =
          let same = same-local (now after) n x.0 r x.1 here in
          let new : (now before).last < x.0.sequence = x.2 in
          let lt : old.cursor < r.sequence = replaced r (omega arith) above in
          absurd (omega arith)

  not-in-page : (n : Name) (r : FileRecord) → local (now after) n ≡ Some r → r.sequence ≤ old.cursor → (o : Option FileRecord) → last_of n rs ≡ o → o ≡ None
  not-in-page n r here below None e = refl
  not-in-page n r here below (Some q) e =
      let i = in-page n q e in
      let same = same-local (now after) n q r i.0 here in
      let lt : old.cursor < q.sequence = i.1 in
      absurd (omega arith)

  pub next-all : (owes : Bool) → old.owes_index ≡ owes → goal_all owes
  next-all true is = λ n r here above below.
      let e : old.cursor ≡ start = keeps.owed is in
      page-has (now after) folder old.cursor rs page n r here (omega arith) below
  next-all false is = λ n r here above below. elim (nat_le r.sequence old.cursor) as (λ b. nat_le r.sequence old.cursor ≡ b → option_or (last_of n rs) (overlay pages n) ≡ Some r) [
    | true ↦ λ t.
        let le = leb-true r.sequence old.cursor t in
        ap (λ o. option_or o (overlay pages n)) (not-in-page n r here le (last_of n rs) refl) ∙ kept n r here above le
    | false ↦ λ t.
        let lt = leb-false r.sequence old.cursor t in
        ap (λ o. option_or o (overlay pages n)) (page-has (now after) folder old.cursor rs page n r here lt below)
  ] refl

  abbrev IsOnly : Name → FileRecord → Type 0
  IsOnly n r = (start < r.sequence) × (r.sequence ≤ last_sequence old.cursor rs)
      × ((local (now after) n ≡ Some r) ⊎ ((q : FileRecord) × (local (now after) n ≡ Some q) × (last_sequence old.cursor rs < q.sequence)))

  from_start : start ≤ old.cursor
  from_start = keeps.from

  -- one that is in the page
  only-new : (n : Name) (r : FileRecord) → last_of n rs ≡ Some r → IsOnly n r
  only-new n r e = let i = in-page n r e in let lt : old.cursor < r.sequence = i.1 in let le = from_start in (omega arith, i.2, inl i.0)

  -- one that the pages before have, of a name that the page has not
  only-old : (n : Name) (r : FileRecord) → last_of n rs ≡ None → overlay pages n ≡ Some r → IsOnly n r
  only-old n r none e = (o.0, (let le : r.sequence ≤ old.cursor = o.1 in let more = page-from (now after) folder old.cursor rs page in omega arith), by (goes n) o.2)
    where
      o : (start < r.sequence) × (r.sequence ≤ old.cursor) × ((local (now before) n ≡ Some r) ⊎ ((q : FileRecord) × (local (now before) n ≡ Some q) × (old.cursor < q.sequence)))
      o = keeps.only n r e

      to-come : (q : FileRecord) → local (now after) n ≡ Some q → old.cursor < q.sequence
          → (local (now after) n ≡ Some r) ⊎ ((q : FileRecord) × (local (now after) n ≡ Some q) × (last_sequence old.cursor rs < q.sequence))
      to-come q here above = elim (nat_le q.sequence (last_sequence old.cursor rs)) as (λ b. nat_le q.sequence (last_sequence old.cursor rs) ≡ b
          → (local (now after) n ≡ Some r) ⊎ ((q : FileRecord) × (local (now after) n ≡ Some q) × (last_sequence old.cursor rs < q.sequence))) [
            | true ↦ λ t. absurd (none-some q (sym none ∙ page-has (now after) folder old.cursor rs page n q here above (leb-true q.sequence (last_sequence old.cursor rs) t)))
            | false ↦ λ t. inr (q, here, leb-false q.sequence (last_sequence old.cursor rs) t)
          ] refl

      by : (local (now after) n ≡ local (now before) n) ⊎ ((q : FileRecord) × (local (now after) n ≡ Some q) × ((now before).last < q.sequence))
          → (local (now before) n ≡ Some r) ⊎ ((q : FileRecord) × (local (now before) n ≡ Some q) × (old.cursor < q.sequence))
          → (local (now after) n ≡ Some r) ⊎ ((q : FileRecord) × (local (now after) n ≡ Some q) × (last_sequence old.cursor rs < q.sequence))
      by (inl same) (inl here) = inl (same ∙ here)
      by (inl same) (inr x) = to-come x.0 (same ∙ x.1) x.2
      by (inr x) either = to-come x.0 x.1 (past keeps.given)
        where
          past : (old.cursor ≡ start) ⊎ (old.cursor ≤ (now before).last) → old.cursor < x.0.sequence
          past (inl e) = absurd (let lt : start < r.sequence = o.0 in let le : r.sequence ≤ old.cursor = o.1 in omega arith)
          past (inr le) = let lt : (now before).last < x.0.sequence = x.2 in omega arith

  pub next-only : (owes : Bool) → (n : Name) (r : FileRecord) → over_page owes rs (overlay pages n) n ≡ Some r → IsOnly n r
  next-only true n r e = only-new n r e
  next-only false n r e = by (last_of n rs) refl e
    where
      by : (o : Option FileRecord) → last_of n rs ≡ o → option_or o (overlay pages n) ≡ Some r → IsOnly n r
      by None is f = only-old n r is f
      by (Some q) is f = only-new n r (is ∙ f)

  next-given : (last_sequence old.cursor rs ≡ start) ⊎ (last_sequence old.cursor rs ≤ (now after).last)
  next-given = by (page-given (now after) folder old.cursor rs page) keeps.given
    where
      by : (last_sequence old.cursor rs ≡ old.cursor) ⊎ (last_sequence old.cursor rs ≤ (now after).last) → (old.cursor ≡ start) ⊎ (old.cursor ≤ (now before).last)
          → (last_sequence old.cursor rs ≡ start) ⊎ (last_sequence old.cursor rs ≤ (now after).last)
      by (inr le) either = inr le
      by (inl e) (inl s) = inl (e ∙ s)
      by (inl e) (inr le) = inr (let more = later in omega arith)

  pub next-keeps : KeepsUp start (pages ++ page_of old.owes_index rs ∷ []) (after_page old rs) after
  next-keeps = record {
    all = λ n r here above below. overlay-push pages old.owes_index rs n ∙ next-all old.owes_index refl n r here above below;
    only = λ n r e. next-only old.owes_index n r (sym (overlay-push pages old.owes_index rs n) ∙ e);
    from = let le = from_start in let more = page-from (now after) folder old.cursor rs page in omega arith;
    given = next-given;
    owed = λ e. absurd (false-true e);
  }
    where
      false-true : false ≡ true → ⊥
      false-true e = cc
