-- The merge of a device's records with a list of entries, from its end.
use Rattle.std.proofs.Common.{append-nil, ◌≡◌, ℕ, ◌+◌, ◌-◌, ◌<◌, ◌≤◌, Bool, true, false, drop, reverse, List, [], ◌∷◌, ◌++◌, get_or, length, take, refl, sym, ap, subst, ◌∙◌, arith}
use Rattle.std.specs.Prelude.{T, not, Option, None, Some, map, MatchOption}
use Rattle.std.specs.Bool.{passes}
use Rattle.std.specs.List.{AllByRecursion, AllWithin, slice_get}
use Rattle.std.specs.Option.{option_to_list}
use Rattle.std.specs.declared.cmp.Ordering.{Ordering}
use Rattle.std.specs.declared.cmp.Ordering.TheVariants.{Less, Equal, Greater}
use Rattle.std.specs.Ordering.{is_eq, is_gt, ordering_reverse, ordering_then}
use Rattle.std.specs.FinMap.{is_sorted, put}
use Rattle.std.specs.FinMap.Entries.{below_all, by_order}
use Rattle.std.proofs.lemmas.List.{append_assoc, reverse-append, take-append-drop, get_or_push, length_push, map_push, take_all, take_more}
use Rattle.std.proofs.lemmas.List.Sums.{fold-append}
use Rattle.std.proofs.Math.Seq.{take-append_seam}
use Rattle.std.proofs.lemmas.Option.{get_or_from_slice_get, slice_get-get_or, slice_get_past, slice_get_within}
use Rattle.std.proofs.lemmas.Bool.{and_parts, true≢false}
use Rattle.sync_record.specs.Devices.{Identity, bytes_cmp}
use Rattle.sync_record.specs.Records.{FileRecord}
use Rattle.folder_core.specs.declared.announcement.Announcement.{Announcement as Entry}
use Rattle.folder_core.specs.Announced.{KeyedRecord, Key, key, key_cmp}
use Rattle.folder_core.specs.Plain.{NamesRise, Rises, filed, filed_by, named, put_all}
use Rattle.folder_core.proofs.Orders.{keys_total, exact_keys, is_true}
use Rattle.folder_core.proofs.ListFilters.{join, less_is}
use Rattle.folder_core.proofs.ListTests.{inside, is_less, parts}

-- ---- lists that are before a key

abbrev pub AreBefore : Key → List KeyedRecord → Type 0
AreBefore k es = AllByRecursion (λ e. key_cmp e.0 k ≡ Less) es

are_before_push : (k : Key) (es : List KeyedRecord) (e : KeyedRecord) → AreBefore k es → key_cmp e.0 k ≡ Less → AreBefore k (es ++ e ∷ [])
are_before_push k [] e b less = (less, tt)
are_before_push k (x ∷ es) e b less = (b.0, are_before_push k es e b.1 less)

are_before_chain : (a b : Key) (es : List KeyedRecord) → key_cmp a b ≡ Less → AreBefore a es → AreBefore b es
are_before_chain a b [] less h = tt
are_before_chain a b (e ∷ es) less h = (keys_total.trans e.0 a b h.0 less, are_before_chain a b es less h.1)

-- of a list in order the front is in order, and before the last
module _ {K X : Type 0} (R : K → K → Ordering) where
  below_push : (k : K) (es : List (K × X)) (e : K × X) → T (below_all R k (es ++ e ∷ [])) → T (below_all R k es) × (R k e.0 ≡ Less)
  below_push k [] e b = (tt, is_less _ (parts _ _ b).0)
  below_push k (x ∷ es) e b =
      let rest = below_push k es e (parts _ _ b).1 in
      (join _ _ (parts _ _ b).0 rest.0, rest.1)

  sorted_push : (es : List (K × X)) (e : K × X) → T (is_sorted R (es ++ e ∷ [])) → T (is_sorted R es) × AllByRecursion (λ x. R x.0 e.0 ≡ Less) es
  sorted_push [] e h = (tt, tt)
  sorted_push (x ∷ es) e h =
      let rest = sorted_push es e (parts _ _ h).1 in
      let below = below_push x.0 es e (parts _ _ h).0 in
      (join _ _ below.0 rest.0, (below.1, rest.1))

-- ---- what is put before the last, after it, or in its place

put_before : (r e : KeyedRecord) (es : List KeyedRecord) → key_cmp r.0 e.0 ≡ Less → put key_cmp r.0 r.1 (es ++ e ∷ []) ≡ put key_cmp r.0 r.1 es ++ e ∷ []
put_before r e [] less = ap (λ o. by_order o (r ∷ e ∷ []) ((e.0, r.1) ∷ []) (e ∷ r ∷ [])) less
put_before r e (x ∷ es) less =
    elim (key_cmp r.0 x.0) as (λ o. by_order o (r ∷ x ∷ es ++ e ∷ []) ((x.0, r.1) ∷ es ++ e ∷ []) (x ∷ put key_cmp r.0 r.1 (es ++ e ∷ [])) ≡ by_order o (r ∷ x ∷ es) ((x.0, r.1) ∷ es) (x ∷ put key_cmp r.0 r.1 es) ++ e ∷ []) [
      | Less ↦ refl
      | Equal ↦ refl
      | Greater ↦ ap (λ ys. x ∷ ys) (put_before r e es less)
    ]

pub put_over : (x r : KeyedRecord) (es : List KeyedRecord) → key_cmp x.0 r.0 ≡ Less → put key_cmp r.0 r.1 (x ∷ es) ≡ x ∷ put key_cmp r.0 r.1 es
put_over x r es less =
    ap (λ o. by_order o (r ∷ x ∷ es) ((x.0, r.1) ∷ es) (x ∷ put key_cmp r.0 r.1 es)) (keys_total.antisymm r.0 x.0 ∙ ap ordering_reverse less)

put_after : (r : KeyedRecord) (es : List KeyedRecord) → AreBefore r.0 es → put key_cmp r.0 r.1 es ≡ es ++ r ∷ []
put_after r [] b = refl
put_after r (x ∷ es) b = put_over x r es b.0 ∙ ap (λ ys. x ∷ ys) (put_after r es b.1)

put_instead : (r e : KeyedRecord) (es : List KeyedRecord) → AreBefore r.0 es → key_cmp e.0 r.0 ≡ Equal → put key_cmp r.0 r.1 (es ++ e ∷ []) ≡ es ++ r ∷ []
put_instead r e [] b equal =
    ap (λ o. by_order o (r ∷ e ∷ []) ((e.0, r.1) ∷ []) (e ∷ r ∷ [])) (keys_total.antisymm r.0 e.0 ∙ ap ordering_reverse equal)
    ∙ ap (λ (k : Key). (k, r.1) ∷ []) (exact_keys e.0 r.0 equal)
put_instead r e (x ∷ es) b equal = put_over x r (es ++ e ∷ []) b.0 ∙ ap (λ ys. x ∷ ys) (put_instead r e es b.1 equal)

put_are_before : (k : Key) (r : KeyedRecord) (es : List KeyedRecord) → key_cmp r.0 k ≡ Less → AreBefore k es → AreBefore k (put key_cmp r.0 r.1 es)
put_are_before k r [] less b = (less, tt)
put_are_before k r (x ∷ es) less b =
    elim (key_cmp r.0 x.0) as (λ o. AreBefore k (by_order o (r ∷ x ∷ es) ((x.0, r.1) ∷ es) (x ∷ put key_cmp r.0 r.1 es))) [
      | Less ↦ (less, b)
      | Equal ↦ b
      | Greater ↦ (b.0, put_are_before k r es less b.1)
    ]

put_all_are_before : (k : Key) (rs es : List KeyedRecord) → AreBefore k rs → AreBefore k es → AreBefore k (put_all es rs)
put_all_are_before k [] es b c = c
put_all_are_before k (r ∷ rs) es b c = put_all_are_before k rs (put key_cmp r.0 r.1 es) b.1 (put_are_before k r es b.0 c)

put_all_before : (e : KeyedRecord) (rs es : List KeyedRecord) → AreBefore e.0 rs → put_all (es ++ e ∷ []) rs ≡ put_all es rs ++ e ∷ []
put_all_before e [] es b = refl
put_all_before e (r ∷ rs) es b =
    ap (λ ys. put_all ys rs) (put_before r e es b.0)
    ∙ put_all_before e rs (put key_cmp r.0 r.1 es) b.1

put_all_push : (es rs : List KeyedRecord) (r : KeyedRecord) → put_all es (rs ++ r ∷ []) ≡ put key_cmp r.0 r.1 (put_all es rs)
put_all_push es rs r = fold-append (λ es r. put key_cmp r.0 r.1 es) es rs (r ∷ [])

-- ---- records of a device, by their names

then_less : (r s : Ordering) → r ≡ Less → ordering_then r s ≡ Less
then_less r s e = ap (λ o. ordering_then o s) e

below_by : (d : Identity) (r : FileRecord) (rs : List FileRecord) → T (below_all bytes_cmp r.name (map named rs)) → T (below_all key_cmp (key r.name d) (map (filed_by d) rs))
below_by d r [] b = tt
below_by d r (q ∷ rs) b = join _ _ (less_is _ (then_less (bytes_cmp r.name q.name) (bytes_cmp d d) (is_less _ (parts _ _ b).0))) (below_by d r rs (parts _ _ b).1)

pub keys_rise : (d : Identity) (rs : List FileRecord) → NamesRise rs → T (is_sorted key_cmp (map (filed_by d) rs))
keys_rise d [] h = tt
keys_rise d (r ∷ rs) h = join _ _ (below_by d r rs (passes _ (and_parts _ _ h).0)) (keys_rise d rs (and_parts _ _ h).1)

-- ---- the last of a list, as `last` finds it and `pop` takes it

module _ {X : Type 0} where
  last_push : (xs : List X) (x : X) → slice_get (xs ++ x ∷ []) (length (xs ++ x ∷ []) - 1) ≡ Some x
  last_push xs x =
      let n = length_push xs x in
      slice_get-get_or (xs ++ x ∷ []) (length (xs ++ x ∷ []) - 1) x (omega (arith, n))
      ∙ ap Some (get_or_push xs x x _ (omega (arith, n)))

  pub last_popped : (xs ys : List X) (n m : ℕ) (o : Option X) → n ≡ length xs → xs ≡ ys ++ option_to_list o → MatchOption o ((n ≡ 0) × (m ≡ 0)) (λ x. m + 1 ≡ n) → slice_get xs (length xs - 1) ≡ o
  last_popped xs ys n m None count is empty = slice_get_past xs (length xs - 1) (omega (arith, count, empty.0))
  last_popped xs ys n m (Some x) count is some = ap (λ zs. slice_get zs (length zs - 1)) is ∙ last_push ys x

  pub same_last : (xs ys : List X) (x y : X) → xs ≡ ys ++ x ∷ [] → Some y ≡ slice_get xs (length xs - 1) → y ≡ x
  same_last xs ys x y is found = inside y x (found ∙ ap (λ zs. slice_get zs (length zs - 1)) is ∙ last_push ys x)

  split_last : (xs : List X) (x : X) → slice_get xs (length xs - 1) ≡ Some x → xs ≡ take (length xs - 1) xs ++ x ∷ []
  split_last xs x found =
      let short = slice_get_within xs (length xs - 1) x found in
      sym (take_all (length xs - 1 + 1) xs (omega arith))
      ∙ take_more xs (length xs - 1) x short
      ∙ ap (λ y. take (length xs - 1) xs ++ y ∷ []) (get_or_from_slice_get xs (length xs - 1) x x found)

-- ---- a step of the merge

entries_push : (es : List Entry) (e : Entry) → Rises (es ++ e ∷ []) → Rises es × AreBefore (filed e).0 (map filed es)
entries_push es e rises =
    let sorted = sorted_push key_cmp (map filed es) (filed e) (subst (λ xs. T (is_sorted key_cmp xs)) (map_push filed es e) (passes _ rises)) in
    (is_true _ sorted.0, sorted.1)

pub front_rises : (es es' : List Entry) (o : Option Entry) → es ≡ es' ++ option_to_list o → Rises es → Rises es'
front_rises es es' None is rises = subst Rises (is ∙ append-nil es') rises
front_rises es es' (Some e) is rises = (entries_push es' e (subst Rises is rises)).0

pub names_push : (rs : List FileRecord) (r : FileRecord) → NamesRise (rs ++ r ∷ []) → NamesRise rs
names_push rs r rise = is_true _ (sorted_push bytes_cmp (map named rs) (named r) (subst (λ xs. T (is_sorted bytes_cmp xs)) (map_push named rs r) (passes _ rise))).0

-- where the last is before a key, so are all
last_before : (k : Key) (es : List Entry) → Rises es → MatchOption (slice_get es (length es - 1)) (Less ≡ Less) (λ e. Less ≡ key_cmp (filed e).0 k) → AreBefore k (map filed es)
last_before k [] rises less = tt
last_before k (x ∷ xs) rises less =
    let es : List Entry = x ∷ xs in
    let e : Entry = get_or es (length es - 1) x in
    let front : List Entry = take (length es - 1) es in
    let found : slice_get es (length es - 1) ≡ Some e = slice_get-get_or es (length es - 1) x (omega arith) in
    let split : es ≡ front ++ e ∷ [] = split_last es e found in
    let here : Less ≡ key_cmp (filed e).0 k = subst (λ o. MatchOption o (Less ≡ Less) (λ e. Less ≡ key_cmp (filed e).0 k)) found less in
    subst (AreBefore k) (sym (ap (map filed) split ∙ map_push filed front e))
    (are_before_push k (map filed front) (filed e) (are_before_chain (filed e).0 k (map filed front) (sym here) (entries_push front e (subst Rises split rises)).1) (sym here))

module _ (d : Identity) where
  abbrev pub merged : List Entry → List FileRecord → List KeyedRecord
  merged es rs = put_all (map filed es) (map (filed_by d) rs)

  -- how an entry compares with a record: before it where there is none
  abbrev pub Compares : Option Entry → FileRecord → Ordering → Type 0
  Compares o r w = MatchOption o (w ≡ Less) (λ e. w ≡ key_cmp (filed e).0 (key r.name d))

  records_push : (rs : List FileRecord) (r : FileRecord) → NamesRise (rs ++ r ∷ []) → AreBefore (key r.name d) (map (filed_by d) rs)
  records_push rs r rise = (sorted_push key_cmp (map (filed_by d) rs) (filed_by d r) (subst (λ xs. T (is_sorted key_cmp xs)) (map_push (filed_by d) rs r) (keys_rise d (rs ++ r ∷ []) rise))).1

  merged_push : (es : List Entry) (rs : List FileRecord) (r : FileRecord) → merged es (rs ++ r ∷ []) ≡ put key_cmp (key r.name d) r (merged es rs)
  merged_push es rs r = ap (put_all (map filed es)) (map_push (filed_by d) rs r) ∙ put_all_push (map filed es) (map (filed_by d) rs) (filed_by d r)

  pub entry_step : (es es' : List Entry) (rs : List FileRecord) (o : Option Entry) (r : FileRecord) → NamesRise rs →
      es ≡ es' ++ option_to_list o → slice_get rs (length rs - 1) ≡ Some r → Compares o r Greater →
      MatchOption o ((rs ≡ []) × (es' ≡ es)) (λ e. merged es rs ≡ merged es' rs ++ filed e ∷ [])
  entry_step es es' rs None r rise is found greater = absurd (true≢false (ap is_gt greater))
  entry_step es es' rs (Some e) r rise is found greater =
      let front : List FileRecord = take (length rs - 1) rs in
      let split : rs ≡ front ++ r ∷ [] = split_last rs r found in
      let less : key_cmp (key r.name d) (filed e).0 ≡ Less = keys_total.antisymm (key r.name d) (filed e).0 ∙ ap ordering_reverse (sym greater) in
      let before : AreBefore (filed e).0 (map (filed_by d) rs) =
      subst (AreBefore (filed e).0) (sym (ap (map (filed_by d)) split ∙ map_push (filed_by d) front r))
      (are_before_push (filed e).0 (map (filed_by d) front) (filed_by d r)
      (are_before_chain (key r.name d) (filed e).0 (map (filed_by d) front) less (records_push front r (subst NamesRise split rise))) less) in
      ap (λ ys. put_all ys (map (filed_by d) rs)) (ap (map filed) is ∙ map_push filed es' e)
      ∙ put_all_before (filed e) (map (filed_by d) rs) (map filed es') before

  pub record_step : (es : List Entry) (rs rs' : List FileRecord) (r : FileRecord) → Rises es → NamesRise rs →
      rs ≡ rs' ++ r ∷ [] → Compares (slice_get es (length es - 1)) r Less → merged es rs ≡ merged es rs' ++ filed_by d r ∷ []
  record_step es rs rs' r rises rise is less =
      ap (merged es) is ∙ merged_push es rs' r
      ∙ put_after (filed_by d r) (merged es rs')
      (put_all_are_before (key r.name d) (map (filed_by d) rs') (map filed es) (records_push rs' r (subst NamesRise is rise)) (last_before (key r.name d) es rises less))

  pub replace_step : (es es' : List Entry) (rs rs' : List FileRecord) (o : Option Entry) (r : FileRecord) → Rises es → NamesRise rs →
      es ≡ es' ++ option_to_list o → rs ≡ rs' ++ r ∷ [] → Compares o r Equal → merged es rs ≡ merged es' rs' ++ filed_by d r ∷ []
  replace_step es es' rs rs' None r rises rise taken is equal = absurd (true≢false (ap is_eq equal))
  replace_step es es' rs rs' (Some e) r rises rise taken is equal =
      let same : (filed e).0 ≡ key r.name d = exact_keys (filed e).0 (key r.name d) (sym equal) in
      let records_before = records_push rs' r (subst NamesRise is rise) in
      let entries_before = (entries_push es' e (subst Rises taken rises)).1 in
      ap (merged es) is ∙ merged_push es rs' r
      ∙ ap (λ ys. put key_cmp (key r.name d) r (put_all ys (map (filed_by d) rs'))) (ap (map filed) taken ∙ map_push filed es' e)
      ∙ ap (put key_cmp (key r.name d) r) (put_all_before (filed e) (map (filed_by d) rs') (map filed es') (subst (λ k. AreBefore k (map (filed_by d) rs')) (sym same) records_before))
      ∙ put_instead (filed_by d r) (filed e) (merged es' rs')
      (put_all_are_before (key r.name d) (map (filed_by d) rs') (map filed es') records_before (subst (λ k. AreBefore k (map filed es')) same entries_before))
      (sym equal)

-- ---- what is after the last record

greater_of : (r : Ordering) → not (is_gt r) ≡ false → r ≡ Greater
greater_of Less e = absurd (true≢false e)
greater_of Equal e = absurd (true≢false e)
greater_of Greater e = refl

abbrev pub is_up_to_key : Key → Entry → Bool
is_up_to_key k e = not (is_gt (key_cmp (filed e).0 k))

pub up_to_key_down : (k : Key) (x y : Entry) → key_cmp (filed x).0 (filed y).0 ≡ Less → is_up_to_key k y ≡ true → is_up_to_key k x ≡ true
up_to_key_down k x y less t =
    elim (key_cmp (filed y).0 k) as (λ r. key_cmp (filed y).0 k ≡ r → not (is_gt r) ≡ true → is_up_to_key k x ≡ true) [
      | Less ↦ λ e u. ap (λ r. not (is_gt r)) (keys_total.trans (filed x).0 (filed y).0 k less e)
      | Equal ↦ λ e u. ap (λ r. not (is_gt r)) (ap (key_cmp (filed x).0) (sym (exact_keys (filed y).0 k e)) ∙ less)
      | Greater ↦ λ e u. absurd (true≢false (sym u))
    ] refl t

at_push : {A : Type 0} (xs : List A) (e : A) (rest : List A) → get_or ((xs ++ e ∷ []) ++ rest) (length xs) e ≡ e
at_push [] e rest = refl
at_push (x ∷ xs) e rest = at_push xs e rest

within_push : {A : Type 0} (xs : List A) (e : A) (rest : List A) → length xs < length ((xs ++ e ∷ []) ++ rest)
within_push [] e rest = omega arith
within_push (x ∷ xs) e rest = let s = within_push xs e rest in omega arith

-- the last of a front of a list of which all from some place on are after a key
module _ (k : Key) (old es es' : List Entry) (e : Entry) (kept n : ℕ) (front : es ≡ take n old) (split : es ≡ es' ++ e ∷ []) where
  whole : old ≡ (es' ++ e ∷ []) ++ drop n old
  whole = sym (take-append-drop n old) ∙ ap (λ xs. xs ++ drop n old) (sym front ∙ split)

  pub popped_greater : AllWithin (λ y. is_up_to_key k y ≡ false) old kept (length old) → kept ≤ length es' → Greater ≡ key_cmp (filed e).0 k
  popped_greater fails within =
      let later : AllWithin (λ y. is_up_to_key k y ≡ false) ((es' ++ e ∷ []) ++ drop n old) kept (length ((es' ++ e ∷ []) ++ drop n old)) =
      subst (λ (xs : List Entry). AllWithin (λ y. is_up_to_key k y ≡ false) xs kept (length xs)) whole fails in
      sym (greater_of _ (ap (is_up_to_key k) (sym (at_push es' e (drop n old))) ∙ later (length es') e within (within_push es' e (drop n old))))

  pub popped_front : es' ≡ take (length es') old
  popped_front = sym (ap (take (length es')) (whole ∙ append_assoc es' (e ∷ []) (drop n old)) ∙ take-append_seam es' (e ∷ drop n old))

-- what is moved from the end of one list to the end of the other
pub moved : (es' : List KeyedRecord) (room : List Entry) (e : Entry) → es' ++ map filed (reverse (room ++ e ∷ [])) ≡ (es' ++ filed e ∷ []) ++ map filed (reverse room)
moved es' room e =
    ap (λ xs. es' ++ map filed xs) (reverse-append room (e ∷ []))
    ∙ sym (append_assoc es' (filed e ∷ []) (map filed (reverse room)))
