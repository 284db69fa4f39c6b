-- What the groups have, counted, is what the folder has.
use Rattle.std.proofs.Common.{◌≡◌, ℕ, ◌+◌, ◌≤◌, Bool, true, false, List, [], ◌∷◌, length, refl, sym, ap, subst, ◌∙◌, inl, inr, arith}
use Rattle.std.specs.Prelude.{bytes_eq, ◌&&◌, cond, filter, map, not, sum_by}
use Rattle.std.specs.Bool.{passes}
use Rattle.std.specs.Map.{values_of}
use Rattle.std.specs.Ordering.{is_lt, ordering_then}
use Rattle.std.specs.Cmp.{tied_itself}
use Rattle.std.specs.List.{list_all}
use Rattle.std.specs.declared.cmp.Ordering.TheVariants.{Less, Equal, Greater}
use Rattle.std.specs.FinMap.{put}
use Rattle.std.specs.FinMap.Entries.{by_order}
use Rattle.std.proofs.lemmas.Bool.{true≢false, false_from_ne_true, and_parts}
use Rattle.std.proofs.lemmas.List.{length-append, length-map}
use Rattle.std.proofs.lemmas.List.Elements.{filter-append}
use Rattle.std.proofs.lemmas.List.Sums.{sum_by-cons}
use Rattle.sync_record.specs.Devices.{Identity, bytes_cmp}
use Rattle.sync_record.specs.Records.{Name, FileRecord}
use Rattle.folder_core.specs.declared.announcement.Announcement.{Announcement as Entry}
use Rattle.folder_core.specs.Announced.{KeyedRecord, Key, is_by, key_cmp}
use Rattle.folder_core.specs.Plain.{Rises, filed}
use Rattle.folder_core.specs.PlainReads.{is_from}
use Rattle.folder_core.proofs.ListTests.{alike_bytes, In, all_in, below_in, in_map, parts, same_bytes}
use Rattle.folder_core.proofs.ListFilters.{filter_map}
use Rattle.folder_core.proofs.Orders.{bytes_total, keys_total, exact_keys}
use Rattle.folder_index.specs.declared.group.Group.{Group}
use Rattle.folder_index.specs.Groups.{entries_in, listed, needed_in, needed_listed}
use Rattle.folder_index.proofs.Lists.{keeps_none}
use Rattle.folder_index.proofs.Listed.{Groups}

-- the entries that pass, group by group
pub passing : (p : Entry → Bool) (gs : Groups) → length (filter p (listed gs)) ≡ sum_by (λ g. length (filter p (entries_in g))) (values_of gs)
passing p [] = refl
passing p (h ∷ gs) =
    ap length (filter-append p (entries_in h.1) (listed gs))
    ∙ length-append (filter p (entries_in h.1)) (filter p (listed gs))
    ∙ ap (λ k. length (filter p (entries_in h.1)) + k) (passing p gs)
    ∙ sym (sum_by-cons (λ (g : Group). length (filter p (entries_in g))) h.1 (values_of gs))

pub needed_count : (gs : Groups) → length (needed_listed gs) ≡ sum_by needed_in (values_of gs)
needed_count [] = refl
needed_count (h ∷ gs) =
    length-append (cond h.1.is_needed (h.0 ∷ []) []) (needed_listed gs)
    ∙ (λ i. one h.1.is_needed i + needed_count gs i)
    ∙ sym (sum_by-cons needed_in h.1 (values_of gs))
  where
    one : (b : Bool) → length (cond b (h.0 ∷ []) []) ≡ cond b 1 0
    one true = refl
    one false = refl

-- ---- of a name a device has one entry at most

module _ (me : Identity) (n : Name) where
  abbrev pub AllNamed : List Entry → Type 0
  AllNamed es = list_all (λ e. bytes_eq e.record.name n) es ≡ true

  pub none_after : (e : Entry) (es : List Entry) → Rises (e ∷ es) → AllNamed (e ∷ es) → is_from me e ≡ true → (f : Entry) → In f es → is_from me f ≡ false
  none_after e es up named own f i =
      let less : key_cmp (filed e).0 (filed f).0 ≡ Less = below_in keys_total exact_keys (filed e).0 (map filed es) (parts _ _ (passes _ up)).0 (filed f) (in_map filed es f i) in
      let first : e.record.name ≡ n = same_bytes e.record.name n (and_parts _ _ named).0 in
      let second : f.record.name ≡ n = same_bytes f.record.name n (all_in (λ (e : Entry). bytes_eq e.record.name n) es (and_parts _ _ named).1 f i) in
      let tie : bytes_cmp e.record.name f.record.name ≡ Equal = (λ j. bytes_cmp (first j) (second j)) ∙ tied_itself bytes_total n in
      let apart : bytes_cmp e.device f.device ≡ Less = sym (ap (λ o. ordering_then o (bytes_cmp e.device f.device)) tie) ∙ less in
      false_from_ne_true _ (λ t. true≢false (ap is_lt (sym apart ∙ (λ j. bytes_cmp (same_bytes e.device me own j) (same_bytes f.device me t j)) ∙ tied_itself bytes_total me)))

  pub own_once : (p : Entry → Bool) (es : List Entry) → Rises es → AllNamed es → length (filter (λ e. is_from me e && p e) es) ≤ 1
  own_once p [] up named = omega arith
  own_once p (e ∷ es) up named =
      elim (is_from me e) as (λ b. is_from me e ≡ b → length (cond (b && p e) (e ∷ filter (λ e. is_from me e && p e) es) (filter (λ e. is_from me e && p e) es)) ≤ 1) [
        | true ↦ λ t.
            let none : filter (λ e. is_from me e && p e) es ≡ [] = keeps_none (λ e. is_from me e && p e) es (λ f i. ap (λ b. b && p f) (none_after e es up named t f i)) in
            let count = ap length none in
            elim (p e) as (λ b. length (cond b (e ∷ filter (λ e. is_from me e && p e) es) (filter (λ e. is_from me e && p e) es)) ≤ 1) [
              | true ↦ omega arith
              | false ↦ omega arith
            ]
        | false ↦ λ f. own_once p es (and_parts _ _ up).1 (and_parts _ _ named).1
      ] refl

-- ---- one record more is one entry more at most

module _ (me : Identity) where
  abbrev is_others : KeyedRecord → Bool
  is_others e = not (is_by me e)

  put_others : (k : Key) (r : FileRecord) (es : List KeyedRecord) → length (filter is_others (put key_cmp k r es)) ≤ length (filter is_others es) + 1
  put_others k r [] = let x : KeyedRecord = (k, r) in elim (is_others x) as (λ b. length (cond b (x ∷ []) []) ≤ 0 + 1) [ true ↦ omega arith | false ↦ omega arith ]
  put_others k r (e ∷ es) =
      let rest = put_others k r es in
      elim (key_cmp k e.0) as (λ o. length (filter is_others (by_order o ((k, r) ∷ e ∷ es) ((e.0, r) ∷ es) (e ∷ put key_cmp k r es))) ≤ length (filter is_others (e ∷ es)) + 1) [
        | Less ↦ let x : KeyedRecord = (k, r) in elim (is_others x) as (λ b. length (cond b (x ∷ filter is_others (e ∷ es)) (filter is_others (e ∷ es))) ≤ length (filter is_others (e ∷ es)) + 1) [ true ↦ omega arith | false ↦ omega arith ]
        | Equal ↦ let x : KeyedRecord = (e.0, r) in elim (is_others e) as (λ b. length (cond b (x ∷ filter is_others es) (filter is_others es)) ≤ length (cond b (e ∷ filter is_others es) (filter is_others es)) + 1) [ true ↦ omega arith | false ↦ omega arith ]
        | Greater ↦ elim (is_others e) as (λ b. length (cond b (e ∷ filter is_others (put key_cmp k r es)) (filter is_others (put key_cmp k r es))) ≤ length (cond b (e ∷ filter is_others es) (filter is_others es)) + 1) [ true ↦ omega arith | false ↦ omega arith ]
      ]

  -- this device's record is no one else's
  put_own : (k : Key) (r : FileRecord) (es : List KeyedRecord) → k.device ≡ me → length (filter is_others (put key_cmp k r es)) ≤ length (filter is_others es)
  put_own k r [] own = let x : KeyedRecord = (k, r) in subst (λ b. length (cond (not b) (x ∷ []) []) ≤ 0) (sym (alike_bytes k.device me own)) (omega arith)
  put_own k r (e ∷ es) own =
      let rest = put_own k r es own in
      elim (key_cmp k e.0) as (λ o. length (filter is_others (by_order o ((k, r) ∷ e ∷ es) ((e.0, r) ∷ es) (e ∷ put key_cmp k r es))) ≤ length (filter is_others (e ∷ es))) [
        | Less ↦ let x : KeyedRecord = (k, r) in subst (λ b. length (cond (not b) (x ∷ filter is_others (e ∷ es)) (filter is_others (e ∷ es))) ≤ length (filter is_others (e ∷ es))) (sym (alike_bytes k.device me own)) (omega arith)
        | Equal ↦ let x : KeyedRecord = (e.0, r) in elim (is_others e) as (λ b. length (cond b (x ∷ filter is_others es) (filter is_others es)) ≤ length (cond b (e ∷ filter is_others es) (filter is_others es))) [ true ↦ omega arith | false ↦ omega arith ]
        | Greater ↦ elim (is_others e) as (λ b. length (cond b (e ∷ filter is_others (put key_cmp k r es)) (filter is_others (put key_cmp k r es))) ≤ length (cond b (e ∷ filter is_others es) (filter is_others es))) [ true ↦ omega arith | false ↦ omega arith ]
      ]

  others_filed : (es : List Entry) → length (filter (λ e. not (is_from me e)) es) ≡ length (filter is_others (map filed es))
  others_filed es = sym (ap length (filter_map filed is_others es) ∙ length-map (filter (λ e. not (is_from me e)) es) filed)

  pub one_more : (old new : List Entry) (k : Key) (r : FileRecord) → map filed new ≡ put key_cmp k r (map filed old) → length (filter (λ e. not (is_from me e)) new) ≤ length (filter (λ e. not (is_from me e)) old) + 1
  one_more old new k r is =
      let a = others_filed old in
      let b = others_filed new ∙ ap (λ es. length (filter is_others es)) is in
      let c = put_others k r (map filed old) in
      omega arith

  pub no_more_own : (old new : List Entry) (k : Key) (r : FileRecord) → k.device ≡ me → map filed new ≡ put key_cmp k r (map filed old) → length (filter (λ e. not (is_from me e)) new) ≤ length (filter (λ e. not (is_from me e)) old)
  no_more_own old new k r own is =
      let a = others_filed old in
      let b = others_filed new ∙ ap (λ es. length (filter is_others es)) is in
      let c = put_own k r (map filed old) own in
      omega arith

fewer_pass : {A : Type 0} (p q : A → Bool) (xs : List A) → length (filter p (filter q xs)) ≤ length (filter p xs)
fewer_pass p q [] = omega arith
fewer_pass p q (x ∷ xs) =
    let rest = fewer_pass p q xs in
    elim (q x) as (λ b. length (filter p (cond b (x ∷ filter q xs) (filter q xs))) ≤ length (filter p (x ∷ xs))) [
      | true ↦ elim (p x) as (λ b. length (cond b (x ∷ filter p (filter q xs)) (filter p (filter q xs))) ≤ length (cond b (x ∷ filter p xs) (filter p xs))) [ true ↦ omega arith | false ↦ rest ]
      | false ↦ elim (p x) as (λ b. length (filter p (filter q xs)) ≤ length (cond b (x ∷ filter p xs) (filter p xs))) [ true ↦ omega arith | false ↦ rest ]
    ]

pub no_more : (me d : Identity) (es : List Entry) → length (filter (λ e. not (is_from me e)) (filter (λ e. not (is_from d e)) es)) ≤ length (filter (λ e. not (is_from me e)) es)
no_more me d es = fewer_pass (λ e. not (is_from me e)) (λ e. not (is_from d e)) es

-- each counts one at most
pub at_most_each : {A : Type 0} (f : A → ℕ) (xs : List A) → ((x : A) → In x xs → f x ≤ 1) → sum_by f xs ≤ length xs
at_most_each f [] each = omega arith
at_most_each f (x ∷ xs) each = let a = each x (inl refl) in let b = at_most_each f xs (λ y i. each y (inr i)) in let c = sum_by-cons f x xs in omega arith
