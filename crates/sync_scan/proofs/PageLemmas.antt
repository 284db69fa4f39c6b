-- The local names that are collected page by page.
use Rattle.std.proofs.Common.{◌≡◌, ℕ, ◌+◌, ◌-◌, ◌<◌, ◌≤◌, List, [], ◌∷◌, ◌++◌, length, Bool, true, false, Some, None, refl, sym, ap, subst, ◌∙◌, ◌⊎◌, inl, inr, arith}
use Rattle.std.specs.Prelude.{Contains, IfOk, IsTrue, Result, Ok, Err, nat_le, slice_get, sum_by, ◌↔◌}
use Rattle.std.proofs.lemmas.Bool.{leb-false, leb-true}
use Rattle.std.proofs.lemmas.Option.{get_or_from_slice_get, none-some, slice_get-get_or, slice_get_within}
use Rattle.sync_record.specs.Records.{FileRecord, Name, is_live}
use Rattle.folder_core.specs.Announced.{key}
use Rattle.folder_core.specs.Reads.{LocalSince, Reads, max_page_blocks}
use Rattle.folder_core.specs.States.{FolderState, IsFolder, local}
use Rattle.folder_calls.specs.declared.at.At.{At}
use Rattle.folder_calls.specs.declared.entry.Entry.{Entry}
use Rattle.folder_calls.specs.Histories.{IsLegal, state_after}
use Rattle.folder_calls.specs.Shared.{CallerView, IsLegalView, ReadsAt, Sees, now}
use Rattle.file_store.specs.Listings.{AreAscending}
use Rattle.sync_scan.specs.AllNames.{AddsMissing, AreMissing}
use Rattle.sync_scan.proofs.ScanLemmas.{sees-itself, sees-on}

-- the laws of folders and their histories that are used
pub record Laws : Type 0 where
  pub folder : (v : CallerView) → IsLegalView v → IsFolder (state_after v.opening v.seen)
  pub divided : (passes : ℕ) (s : FolderState) (es fs : List Entry) → IsLegal passes s (es ++ fs) ↔ (IsLegal passes s es × IsLegal passes (state_after s es) fs)
  pub leads : (s : FolderState) (es fs : List Entry) → state_after s (es ++ fs) ≡ state_after (state_after s es) fs
  pub records : (passes : ℕ) (s : FolderState) (es : List Entry) (n : Name) → IsLegal passes s es
      → (local (state_after s es) n ≡ local s n) ⊎ ((r : FileRecord) × (local (state_after s es) n ≡ Some r) × (s.last < r.sequence))
  pub last : (s : FolderState) (es : List Entry) → s.last ≤ (state_after s es).last
  pub only : (s : FolderState) (after limit : ℕ) (page : List FileRecord) (r : FileRecord) → IsFolder s → Reads s (LocalSince after limit) page → Contains page r
      → (n : Name) × (local s n ≡ Some r) × (after < r.sequence)
  pub all : (s : FolderState) (after limit : ℕ) (page : List FileRecord) (n : Name) (r : FileRecord) → IsFolder s → Reads s (LocalSince after limit) page
      → local s n ≡ Some r → after < r.sequence → Contains page r
      ⊎ ((m : Name) × (q : FileRecord) × (local s m ≡ Some q) × (q.sequence ≤ r.sequence) × ((p : FileRecord) → Contains page p → p.sequence < q.sequence)
      × ((length page ≡ limit) ⊎ ((1 ≤ length page) × (max_page_blocks < sum_by (λ r. length r.blocks) page + length q.blocks))))

-- what was collected up to a sequence
pub record Collected (old v : CallerView) (listed names : List Name) (cursor : ℕ) : Type 0 where
  pub sees : Sees old v
  pub apart : (n : Name) → Contains names n → Contains listed n → ⊥
  pub had : (n : Name) → Contains names n → (before : CallerView) × (r : FileRecord) × Sees old before × Sees before v × (local (now before) n ≡ Some r) × IsTrue (is_live r)
  pub all : (n : Name) (r : FileRecord) → local (now v) n ≡ Some r → IsTrue (is_live r) → 1 ≤ r.sequence → r.sequence ≤ cursor → Contains listed n ⊎ Contains names n
  pub bound : (cursor ≤ (now v).last) ⊎ (cursor ≡ 0)

pub collected-none : (v : CallerView) (listed names : List Name) → names ≡ [] → Collected v v listed names 0
collected-none v listed names none = record {
  sees = sees-itself v;
  apart = λ n i l. absurd (nobody n i);
  had = λ n i. absurd (nobody n i);
  all = λ n r here live some few. absurd (omega arith);
  bound = inr refl;
}
  where
    nobody : (n : Name) → Contains names n → ⊥
    nobody n i = let j = subst (λ ns. Contains ns n) none i in let lt = j.1 in absurd (omega arith)

-- a name that was there, or was added of a record
abbrev Added : List Name → List Name → List FileRecord → Name → Type 0
Added listed names rs n = Contains names n ⊎ ((r : FileRecord) × Contains rs r × (r.name ≡ n) × IsTrue (is_live r) × (Contains listed n → ⊥))

none-last : (rs : List FileRecord) → None ≡ slice_get rs (length rs - 1) → length rs ≡ 0
none-last [] none = refl
none-last (r ∷ rs) none = absurd (none-some _ (none ∙ slice_get-get_or (r ∷ rs) (length (r ∷ rs) - 1) r (omega arith)))

module _ (laws : Laws) (old a b : CallerView) (listed names : List Name) (cursor limit : ℕ) (c : Collected old a listed names cursor)
    (reply : At (List FileRecord)) (reads : ReadsAt a (LocalSince cursor limit) (Some reply) b) where
  opening : b.opening ≡ a.opening
  opening = ap (λ (v : CallerView). v.opening) reads.sees.same

  abbrev rest : List Entry
  rest = reads.sees.longer.0

  whole : IsLegal reads.legal.passes a.opening (a.seen ++ rest)
  whole = subst (IsLegal reads.legal.passes a.opening) (sym reads.sees.longer.1) (subst (λ s. IsLegal reads.legal.passes s b.seen) opening reads.legal.legal)

  at : state_after (now a) rest ≡ now b
  at = sym (laws.leads a.opening a.seen rest) ∙ ap (state_after a.opening) reads.sees.longer.1 ∙ ap (λ s. state_after s b.seen) (sym opening)

  goes-on : (n : Name) → (local (now b) n ≡ local (now a) n) ⊎ ((r : FileRecord) × (local (now b) n ≡ Some r) × ((now a).last < r.sequence))
  goes-on n =
      subst (λ t. (local t n ≡ local (now a) n) ⊎ ((r : FileRecord) × (local t n ≡ Some r) × ((now a).last < r.sequence))) at
      (laws.records reads.legal.passes (now a) rest n ((laws.divided reads.legal.passes a.opening a.seen rest).0 whole).1)

  folder : IsFolder (now b)
  folder = laws.folder b reads.legal

  page : Reads (now b) (LocalSince cursor limit) reply.value
  page = subst (λ s. Reads (state_after s b.seen) (LocalSince cursor limit) reply.value) (sym opening) reads.answer_is

  named : (n : Name) (r : FileRecord) → local (now b) n ≡ Some r → r.name ≡ n
  named n r here = folder.named (key n (now b).me) r here

  last-on : (now a).last ≤ (now b).last
  last-on = subst (λ s. (now a).last ≤ s.last) at (laws.last (now a) rest)

  -- what was collected before is still what there was up to the sequence
  still : (n : Name) (r : FileRecord) → local (now b) n ≡ Some r → IsTrue (is_live r) → 1 ≤ r.sequence → r.sequence ≤ cursor → Contains listed n ⊎ Contains names n
  still n r here live some few = by (goes-on n)
    where
      by : (local (now b) n ≡ local (now a) n) ⊎ ((q : FileRecord) × (local (now b) n ≡ Some q) × ((now a).last < q.sequence)) → Contains listed n ⊎ Contains names n
      by (inl e) = c.all n r (sym e ∙ here) live some few
      by (inr x) =
          let both : Some x.0 ≡ Some r = sym x.1 ∙ here in
          let one : x.0 ≡ r = cc in
          let same : x.0.sequence ≡ r.sequence = ap (λ (q : FileRecord). q.sequence) one in
          let after = x.2 in
          absurd (past c.bound after same)
        where
          past : (cursor ≤ (now a).last) ⊎ (cursor ≡ 0) → (now a).last < x.0.sequence → x.0.sequence ≡ r.sequence → ⊥
          past (inl e) after same = omega arith
          past (inr e) after same = omega arith

  -- what a name had before, it had before what is seen now
  had-on : (n : Name) → Contains names n → (before : CallerView) × (r : FileRecord) × Sees old before × Sees before b × (local (now before) n ≡ Some r) × IsTrue (is_live r)
  had-on n i = let h = c.had n i in (h.0, h.1, h.2, sees-on h.0 a b h.3 reads.sees, h.4, h.5)

  -- the page is empty: all were collected
  pub collected-all : 1 ≤ limit → (rs : List FileRecord) → rs ≡ reply.value → None ≡ slice_get rs (length rs - 1) → AreAscending names → AreMissing old b listed names
  collected-all more rs is none order = record {
    order = order;
    apart = c.apart;
    had = had-on;
    all = λ n r here live. by n r here live (nat_le r.sequence cursor) refl;
  }
    where
      empty : length reply.value ≡ 0
      empty = ap length (sym is) ∙ none-last rs none

      by : (n : Name) (r : FileRecord) → local (now b) n ≡ Some r → IsTrue (is_live r) → (t : Bool) → nat_le r.sequence cursor ≡ t → Contains listed n ⊎ Contains names n
      by n r here live true t = still n r here live (folder.numbered.in_range n r here).0 (leb-true r.sequence cursor t)
      by n r here live false t = absurd (nowhere (laws.all (now b) cursor limit reply.value n r folder page here (leb-false r.sequence cursor t)))
        where
          full : (q : FileRecord) → (length reply.value ≡ limit) ⊎ ((1 ≤ length reply.value) × (max_page_blocks < sum_by (λ r. length r.blocks) reply.value + length q.blocks)) → ⊥
          full q (inl e) = let z = empty in omega arith
          full q (inr e) = let z = empty in let l = e.0 in omega arith

          nowhere : Contains reply.value r
              ⊎ ((m : Name) × (q : FileRecord) × (local (now b) m ≡ Some q) × (q.sequence ≤ r.sequence) × ((p : FileRecord) → Contains reply.value p → p.sequence < q.sequence)
              × ((length reply.value ≡ limit) ⊎ ((1 ≤ length reply.value) × (max_page_blocks < sum_by (λ r. length r.blocks) reply.value + length q.blocks)))) → ⊥
          nowhere (inl i) = let z = empty in let lt = i.1 in omega arith
          nowhere (inr x) = full x.1 x.5

  module _ (rs : List FileRecord) (is : rs ≡ reply.value) (end : FileRecord) (there : Some end ≡ slice_get rs (length rs - 1)) where
    last-in : Contains reply.value end
    last-in = subst (λ l. Contains l end) is
        (length rs - 1, slice_get_within rs (length rs - 1) end (sym there), get_or_from_slice_get rs (length rs - 1) end end (sym there))

    last-local : (n : Name) × (local (now b) n ≡ Some end) × (cursor < end.sequence)
    last-local = laws.only (now b) cursor limit reply.value end folder page last-in

    -- the sequences rise from page to page
    pub rises : (next : ℕ) → next ≡ end.sequence → cursor < next
    rises next e = subst (λ k. cursor < k) (sym e) last-local.2

    -- the page's names were added
    pub collected-page : (next : ℕ) → next ≡ end.sequence → (all : List Name) → AddsMissing listed rs names all → Collected old b listed all next
    collected-page next e all adds = subst (Collected old b listed all) (sym e) (record {
      sees = sees-on old a b c.sees reads.sees;
      apart = λ n i. apart n (adds.only n i);
      had = λ n i. had n (adds.only n i);
      all = λ n r here live some few. by n r here live some few (nat_le r.sequence cursor) refl;
      bound = inl (folder.numbered.in_range last-local.0 end last-local.1).1;
    })
      where
        apart : (n : Name) → Added listed names rs n → Contains listed n → ⊥
        apart n (inl i) = c.apart n i
        apart n (inr x) = x.4

        had : (n : Name) → Added listed names rs n → (before : CallerView) × (r : FileRecord) × Sees old before × Sees before b × (local (now before) n ≡ Some r) × IsTrue (is_live r)
        had n (inl i) = had-on n i
        had n (inr x) =
            let found = laws.only (now b) cursor limit reply.value x.0 folder page (subst (λ l. Contains l x.0) is x.1) in
            let name : found.0 ≡ n = sym (named found.0 x.0 found.1) ∙ x.2 in
            (b, x.0, sees-on old a b c.sees reads.sees, sees-itself b, subst (λ m. local (now b) m ≡ Some x.0) name found.1, x.3)

        by : (n : Name) (r : FileRecord) → local (now b) n ≡ Some r → IsTrue (is_live r) → 1 ≤ r.sequence → r.sequence ≤ end.sequence → (t : Bool)
            → nat_le r.sequence cursor ≡ t → Contains listed n ⊎ Contains all n
        by n r here live some few true t = kept (still n r here live some (leb-true r.sequence cursor t))
          where
            kept : Contains listed n ⊎ Contains names n → Contains listed n ⊎ Contains all n
            kept (inl l) = inl l
            kept (inr i) = inr (adds.kept n i)
        by n r here live some few false t = found (laws.all (now b) cursor limit reply.value n r folder page here (leb-false r.sequence cursor t))
          where
            found : Contains reply.value r
                ⊎ ((m : Name) × (q : FileRecord) × (local (now b) m ≡ Some q) × (q.sequence ≤ r.sequence) × ((p : FileRecord) → Contains reply.value p → p.sequence < q.sequence)
                × ((length reply.value ≡ limit) ⊎ ((1 ≤ length reply.value) × (max_page_blocks < sum_by (λ r. length r.blocks) reply.value + length q.blocks))))
                → Contains listed n ⊎ Contains all n
            found (inl i) = subst (λ m. Contains listed m ⊎ Contains all m) (named n r here) (adds.added r (subst (λ l. Contains l r) (sym is) i) live)
            found (inr x) = let before = x.4 end last-in in let upto = x.3 in absurd (omega arith)

pub nearer : (a b : ℕ) → a < b → b < 9223372036854775808 → 9223372036854775808 - b < 9223372036854775808 - a
nearer a b lt fits = omega arith

-- what holds of a list holds of the vector with its items
pub ok-through : {E V : Type 0} (P : List Name → Type 0) (items : V → List Name) (names : List Name) (r : Result V E) → IfOk r (λ v. items v ≡ names) → P names
    → IfOk r (λ v. P (items v))
ok-through P items names (Ok v) same p = subst P (sym same) p
ok-through P items names (Err e) same p = tt
