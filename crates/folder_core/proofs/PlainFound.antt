-- What the plain folder finds as the best of a name is the best.
use Rattle.std.proofs.Common.{◌≡◌, ℕ, suc, Bool, true, false, List, [], ◌∷◌, ◌++◌, ◌+◌, ◌-◌, ◌<◌, ◌≤◌, length, take, drop, get_or, append-nil, refl, sym, ap, subst, ◌∙◌, inl, inr, arith}
use Rattle.std.specs.Prelude.{bytes_eq, ◌&&◌, ◌||◌, not, cond, T, Option, Some, None, filter, fold, map, option_map, slice_get}
use Rattle.std.specs.Bool.{passes}
use Rattle.std.specs.Cmp.{tied_itself}
use Rattle.std.specs.Cmp.Lexicographic.{nat_list_cmp_total}
use Rattle.std.specs.List.{find, prefix_len, reduce}
use Rattle.std.specs.List.Sorted.{IsPartitionedBy}
use Rattle.std.specs.Option.{option_to_list}
use Rattle.std.specs.Ordering.{is_lt, ordering_reverse, ordering_then}
use Rattle.std.specs.declared.cmp.Ordering.{Ordering}
use Rattle.std.specs.declared.cmp.Ordering.TheVariants.{Less, Equal, Greater}
use Rattle.std.specs.FinMap.{entries-from_sorted, from_sorted, is_sorted}
use Rattle.std.specs.FinMap.Entries.{is_sorted-where_key}
use Rattle.std.proofs.lemmas.Bool.{and_from, false_from_ne_true, true≢false}
use Rattle.std.proofs.lemmas.List.{append_assoc, length-drop, map-append, take-append-drop, take_more}
use Rattle.std.proofs.lemmas.List.Elements.{filter-append}
use Rattle.std.proofs.lemmas.Option.{none-some}
use Rattle.sync_record.specs.Contents.{same_content}
use Rattle.sync_record.specs.Devices.{Identity, bytes_cmp}
use Rattle.sync_record.specs.Records.{Name}
use Rattle.sync_record.specs.Validity.{is_valid}
use Rattle.sync_record.proofs.SameContent.{reflexive}
use Rattle.sync_version.proofs.Lemmas.{dominates_itself, same_version_tells}
use Rattle.sync_version.specs.Computed.{dominates, same_version}
use Rattle.folder_core.specs.declared.announcement.Announcement.{Announcement as Entry}
use Rattle.folder_core.specs.Announced.{KeyedRecord, key_cmp, is_best, is_of, best, bests, devices_of}
use Rattle.folder_core.proofs.BestList.{apart}
use Rattle.folder_core.proofs.PullNeed.{Rising, bests-rising}
use Rattle.folder_core.proofs.Orders.{exact_keys, is_true, keys_total}
use Rattle.folder_core.proofs.BestPreferred.{is_preferred}
use Rattle.folder_core.specs.Codes.{Pulls}
use Rattle.folder_core.specs.Reads.{best_with_devices, bests_after, is_after, with_devices}
use Rattle.folder_core.specs.Plain.{Rises, better, better_of, devices_with, filed, folder_of, group_best, is_undominated, listed_bests}
use Rattle.folder_core.proofs.ListFilters.{filter_in, filter_map, filter_swap, any_map, none_found}
use Rattle.folder_core.proofs.ListTests.{same_bytes, alike_bytes, below_in, in_map, inside, of_filter, parts, In}
use Rattle.folder_core.proofs.PlainBest.{undominated, higher, best_reduced, top}
use Rattle.folder_core.proofs.PlainGroup.{after_prefix, best_in_group, bests_in_part, devices_in_group, drop_rises, found_in_part, group, is_before, is_named, named_down, partitioned, prefix_passes}

undominated-filed : (es : List Entry) (e : Entry) → undominated (map filed es) (filed e) ≡ is_undominated es e
undominated-filed es e = ap (λ b. is_valid e.record && not b) (any_map filed (λ f. is_valid f.1 && dominates f.1.version e.record.version) es)

higher-filed : (e f : Entry) → higher (filed e) (filed f) ≡ filed (better e f)
higher-filed e f =
    elim (is_preferred (filed f) (filed e)) as (λ b. cond b (filed f) (filed e) ≡ filed (cond b f e)) [ true ↦ refl | false ↦ refl ]

fold-filed : (e : Entry) (es : List Entry) → fold higher (filed e) (map filed es) ≡ filed (fold better e es)
fold-filed e [] = refl
fold-filed e (f ∷ es) = ap (λ x. fold higher x (map filed es)) (higher-filed e f) ∙ fold-filed (better e f) es

reduce-filed : (es : List Entry) → reduce higher (map filed es) ≡ option_map filed (reduce better es)
reduce-filed [] = refl
reduce-filed (e ∷ es) = ap Some (fold-filed e es)

fold-push : (b : Entry) (es : List Entry) (e : Entry) → fold better b (es ++ e ∷ []) ≡ better (fold better b es) e
fold-push b [] e = refl
fold-push b (x ∷ es) e = fold-push (better b x) es e

-- one more entry
pub reduce-push : (es : List Entry) (e : Entry) → reduce better (es ++ e ∷ []) ≡ Some (better_of (reduce better es) e)
reduce-push [] e = refl
reduce-push (x ∷ es) e = ap Some (fold-push x es e)

-- a step of the loop over the entries
module _ (p : Entry → Bool) (es : List Entry) (i : ℕ) (e : Entry) (short : i < length es) (here : e ≡ get_or es i e) where
  front-more : filter p (take (i + 1) es) ≡ filter p (take i es) ++ cond (p e) (e ∷ []) []
  front-more =
      ap (filter p) (take_more es i e short ∙ ap (λ x. take i es ++ x ∷ []) (sym here))
      ∙ filter-append p (take i es) (e ∷ [])

  pub taken : p e ≡ true → reduce better (filter p (take (i + 1) es)) ≡ Some (better_of (reduce better (filter p (take i es))) e)
  taken t = ap (reduce better) (front-more ∙ ap (λ b. filter p (take i es) ++ cond b (e ∷ []) []) t) ∙ reduce-push (filter p (take i es)) e

  pub left : p e ≡ false → reduce better (filter p (take (i + 1) es)) ≡ reduce better (filter p (take i es))
  left t = ap (reduce better) (front-more ∙ ap (λ b. filter p (take i es) ++ cond b (e ∷ []) []) t ∙ append-nil (filter p (take i es)))

module _ (n : Name) (es : List Entry) (rises : Rises es) where
  abbrev pub named_entries : List Entry
  named_entries = filter (is_named n) es

  pub group_is : filter (is_of n) (map filed es) ≡ map filed named_entries
  group_is = filter_map filed (is_of n) es

  sorted : T (is_sorted key_cmp (map filed named_entries))
  sorted = subst (λ g. T (is_sorted key_cmp g)) group_is (is_sorted-where_key key_cmp (λ k. bytes_eq k.name n) (map filed es) (passes _ rises))

  named : (e : KeyedRecord) → In e (map filed named_entries) → e.0.name ≡ n
  named e i = same_bytes e.0.name n (of_filter (is_of n) (map filed es) e (subst (In e) (sym group_is) i)).1

  pub best_is : best (map filed es) n ≡ option_map filed (reduce better (filter (is_undominated named_entries) named_entries))
  best_is =
      sym (best_in_group n (map filed es))
      ∙ ap (λ g. best g n) group_is
      ∙ best_reduced n (map filed named_entries) named sorted
      ∙ ap (reduce higher) (filter_map filed (undominated (map filed named_entries)) named_entries
      ∙ ap (map filed) (filter_in _ _ named_entries (λ e i. undominated-filed named_entries e)))
      ∙ reduce-filed (filter (is_undominated named_entries) named_entries)

  map_map : (xs : List Entry) → map (λ e. e.0.device) (map filed xs) ≡ map (λ e. e.device) xs
  map_map [] = refl
  map_map (x ∷ xs) = ap (λ ys. x.device ∷ ys) (map_map xs)

  devices_is : (b : Entry) → b.record.name ≡ n → devices_of (map filed es) (filed b) ≡ devices_with named_entries b.record
  devices_is b here =
      devices_in_group n (map filed es) (filed b) here
      ∙ ap (λ g. devices_of g (filed b)) group_is
      ∙ ap (map (λ e. e.0.device)) (filter_map filed _ named_entries)
      ∙ map_map _
      ∙ ap (map (λ e. e.device)) (filter_in _ _ named_entries (λ e i.
      ap (λ t. t && is_valid e.record && same_version e.record.version b.record.version && same_content e.record b.record)
      (alike_bytes e.record.name b.record.name (same_bytes e.record.name n (of_filter (is_named n) es e i).1 ∙ sym here))))

  reduced_in : (xs : List Entry) (b : Entry) → reduce better xs ≡ Some b → In (filed b) (map filed xs)
  reduced_in [] b e = absurd (let x : None ≡ Some b = e in cc)
  reduced_in (x ∷ xs) b e =
      subst (λ y. In y (filed x ∷ map filed xs)) (fold-filed x xs ∙ ap filed (inside_some _ _ e)) (top (filed x) (map filed xs)).among
    where
      inside_some : (y z : Entry) → Some y ≡ Some z → y ≡ z
      inside_some y z e = cc

  unfiled : (xs : List Entry) (b : Entry) → In (filed b) (map filed xs) → In b xs
  unfiled [] b i = absurd i
  unfiled (x ∷ xs) b (inl s) = inl (λ i. record { device = (s i).0.device; «record» = (s i).1 })
  unfiled (x ∷ xs) b (inr i) = inr (unfiled xs b i)

  pub named_best : (b : Entry) → Some b ≡ reduce better (filter (is_undominated named_entries) named_entries) → b.record.name ≡ n
  named_best b some =
      let among = of_filter (is_undominated named_entries) named_entries b (unfiled _ b (reduced_in _ b (sym some))) in
      same_bytes b.record.name n (of_filter (is_named n) es b among.0).1

module _ (me : Identity) (n : Name) (es : List Entry) (last : ℕ) (pulls : Pulls) (rises : Rises es) where
  found_is : best_with_devices (folder_of me es last pulls) n ≡ option_map (λ b. (b.1, devices_of (map filed es) b)) (best (map filed es) n)
  found_is = ap (λ xs. option_map (λ b. (b.1, devices_of xs b)) (best xs n)) (entries-from_sorted key_cmp (map filed es) (passes _ rises))

  pub none_is_found : None ≡ reduce better (filter (is_undominated (filter (is_named n) es)) (filter (is_named n) es)) → None ≡ best_with_devices (folder_of me es last pulls) n
  none_is_found none = sym (found_is ∙ ap (option_map (λ b. (b.1, devices_of (map filed es) b))) (best_is n es rises ∙ ap (option_map filed) (sym none)))

  pub one_is_found : (b : Entry) → Some b ≡ reduce better (filter (is_undominated (filter (is_named n) es)) (filter (is_named n) es)) → Some (b.record, devices_with (filter (is_named n) es) b.record) ≡ best_with_devices (folder_of me es last pulls) n
  one_is_found b some =
      let here : b.record.name ≡ n = named_best n es rises b some in
      sym (found_is ∙ ap (option_map (λ b. (b.1, devices_of (map filed es) b))) (best_is n es rises ∙ ap (option_map filed) (sym some))
      ∙ ap (λ ds. Some (b.record, ds)) (devices_is n es rises b here))

  -- the best of the entries of a name is the folder's best of the name
  pub group_found : (o : Option Entry) → o ≡ reduce better (filter (is_undominated (filter (is_named n) es)) (filter (is_named n) es)) → option_map (λ b. (b.record, devices_with (filter (is_named n) es) b.record)) o ≡ best_with_devices (folder_of me es last pulls) n
  group_found None is = none_is_found is
  group_found (Some b) is = one_is_found b is

  pub best_is_found : group_best (filter (is_named n) es) ≡ best_with_devices (folder_of me es last pulls) n
  best_is_found = group_found _ refl

-- a valid entry alone is the best
pub alone_best : (e : Entry) → is_valid e.record ≡ true → Some (e.record, e.device ∷ []) ≡ group_best (e ∷ [])
alone_best e valid =
    let v = e.record.version in
    let free : is_undominated (e ∷ []) e ≡ true = (λ i. valid i && not ((valid i && dominates_itself v i) || false)) in
    let has : (is_valid e.record && same_version v v && same_content e.record e.record) ≡ true =
    and_from _ _ (and_from _ _ valid ((same_version_tells v v).1 refl)) (reflexive e.record) in
    (λ i. Some (e.record, map (λ (f : Entry). f.device) (cond (sym has i) (e ∷ []) [])))
    ∙ (λ i. option_map (λ (b : Entry). (b.record, devices_with (e ∷ []) b.record)) (reduce better (cond (sym free i) (e ∷ []) [])))

-- ---- the bests of a list, name by name

-- of rising names one at most is this one
pub only_of : (n : Name) (bs : List KeyedRecord) → Rising bs → filter (is_of n) bs ≡ option_to_list (find (is_of n) bs)
only_of n [] rise = refl
only_of n (b ∷ bs) rise =
    elim (is_of n b) as (λ t. is_of n b ≡ t → cond t (b ∷ filter (is_of n) bs) (filter (is_of n) bs) ≡ option_to_list (cond t (Some b) (find (is_of n) bs))) [
      | true ↦ λ t. ap (λ l. b ∷ l) (only_of n bs rise.1 ∙ ap option_to_list (none_found (is_of n) bs (λ f i.
          false_from_ne_true (is_of n f) (λ u. apart b.0.name f.0.name (rise.0 f i) (same_bytes b.0.name n t ∙ sym (same_bytes f.0.name n u))))))
      | false ↦ λ t. only_of n bs rise.1
    ] refl

module _ (es : List Entry) (rises : Rises es) where
  pub rising : Rising (bests (map filed es))
  rising = subst (λ xs. Rising (bests xs)) (entries-from_sorted key_cmp (map filed es) (passes _ rises)) (bests-rising (from_sorted (map filed es)))

  pub listed_group : (n : Name) → listed_bests (filter (is_named n) es) ≡ option_to_list (group_best (filter (is_named n) es))
  listed_group n =
      ap (λ xs. map (with_devices xs) (bests xs)) (sym (group_is n es rises))
      ∙ ap (map (with_devices (group n (map filed es)))) (bests_in_part (λ m. bytes_eq m n) (map filed es) ∙ only_of n (bests (map filed es)) rising ∙ ap option_to_list (best_is n es rises))
      ∙ shown _ refl
    where
      shown : (o : Option Entry) → o ≡ reduce better (filter (is_undominated (filter (is_named n) es)) (filter (is_named n) es)) →
          map (with_devices (group n (map filed es))) (option_to_list (option_map filed o)) ≡ option_to_list (option_map (λ b. (b.record, devices_with (filter (is_named n) es) b.record)) o)
      shown None is = refl
      shown (Some b) is =
          let here : b.record.name ≡ n = named_best n es rises b is in
          λ i. (b.record, (sym (devices_in_group n (map filed es) (filed b) here) ∙ devices_is n es rises b here) i) ∷ []

  -- the bests of the names that pass
  pub listed_part : (p : Name → Bool) → listed_bests (filter (λ e. p e.record.name) es) ≡ map (with_devices (map filed es)) (filter (λ b. p b.0.name) (bests (map filed es)))
  listed_part p =
      ap (λ xs. map (with_devices xs) (bests xs)) (sym (filter_map filed (λ e. p e.0.name) es))
      ∙ found_in_part p (map filed es)

  -- where all that pass are before the others
  pub bests_split : (p : Name → Bool) → es ≡ filter (λ e. p e.record.name) es ++ filter (λ e. not (p e.record.name)) es
      → bests (map filed es) ≡ filter (λ b. p b.0.name) (bests (map filed es)) ++ filter (λ b. not (p b.0.name)) (bests (map filed es))
  bests_split p split =
      let xs : List KeyedRecord = map filed es in
      let parts : xs ≡ filter (λ e. p e.0.name) xs ++ filter (λ e. not (p e.0.name)) xs =
      ap (map filed) split ∙ map-append filed (filter (λ e. p e.record.name) es) (filter (λ e. not (p e.record.name)) es)
      ∙ (λ i. sym (filter_map filed (λ e. p e.0.name) es) i ++ sym (filter_map filed (λ e. not (p e.0.name)) es) i) in
      ap (filter (is_best xs)) parts ∙ filter-append (is_best xs) (filter (λ e. p e.0.name) xs) (filter (λ e. not (p e.0.name)) xs)
      ∙ (λ i. filter_swap (is_best xs) (λ e. p e.0.name) xs i ++ filter_swap (is_best xs) (λ e. not (p e.0.name)) xs i)

  listed_split : (p : Name → Bool) → es ≡ filter (λ e. p e.record.name) es ++ filter (λ e. not (p e.record.name)) es →
      listed_bests es ≡ listed_bests (filter (λ e. p e.record.name) es) ++ listed_bests (filter (λ e. not (p e.record.name)) es)
  listed_split p split =
      let xs : List KeyedRecord = map filed es in
      ap (map (with_devices xs)) (bests_split p split) ∙ map-append (with_devices xs) (filter (λ e. p e.0.name) (bests xs)) (filter (λ e. not (p e.0.name)) (bests xs))
      ∙ (λ i. sym (listed_part p) i ++ sym (listed_part (λ m. not (p m))) i)

-- the bests after a name are those of the entries after it
pub listed_after : (me : Identity) (after : Option Name) (es : List Entry) (last : ℕ) (pulls : Pulls) → Rises es → listed_bests (filter (λ e. is_after after e.record.name) es) ≡ bests_after (folder_of me es last pulls) after
listed_after me after es last pulls rises =
    listed_part es rises (is_after after)
    ∙ ap (λ xs. map (with_devices xs) (filter (λ b. is_after after b.0.name) (bests xs))) (sym (entries-from_sorted key_cmp (map filed es) (passes _ rises)))

pub after_rises : (after : Option Name) (es : List Entry) → Rises es → Rises (filter (λ e. is_after after e.record.name) es)
after_rises after es rises =
    ap (is_sorted key_cmp) (sym (filter_map filed (λ e. is_after after e.0.name) es))
    ∙ is_true _ (is_sorted-where_key key_cmp (λ k. is_after after k.name) (map filed es) (passes _ rises))

-- ---- the first name of a list

module _ (e : Entry) (es : List Entry) (rises : Rises (e ∷ es)) where
  abbrev pub count : ℕ
  count = prefix_len (is_named e.record.name) (e ∷ es)

  not_before : (x : Entry) → In x (e ∷ es) → is_before e.record.name x ≡ false
  not_before x (inl s) = ap (λ (y : Entry). is_lt (bytes_cmp y.record.name e.record.name)) s ∙ ap is_lt (tied_itself nat_list_cmp_total e.record.name)
  not_before x (inr i) =
      late (bytes_cmp e.record.name x.record.name) refl (below_in keys_total exact_keys (filed e).0 (map filed es) (parts _ _ (passes _ rises)).0 (filed x) (in_map filed es x i))
    where
      late : (r : Ordering) → bytes_cmp e.record.name x.record.name ≡ r → ordering_then r (bytes_cmp e.device x.device) ≡ Less → is_lt (bytes_cmp x.record.name e.record.name) ≡ false
      late Less is l = ap is_lt (nat_list_cmp_total.antisymm x.record.name e.record.name ∙ ap ordering_reverse is)
      late Equal is l = ap is_lt (nat_list_cmp_total.antisymm x.record.name e.record.name ∙ ap ordering_reverse is)
      late Greater is l = absurd (true≢false (sym (ap is_lt l)))

  pub parted : IsPartitionedBy (is_named e.record.name) (e ∷ es)
  parted = partitioned (λ x. is_before e.record.name x ≡ false) (is_named e.record.name) (λ x y. named_down e.record.name x y) (e ∷ es) rises not_before

  pub group_front : take count (e ∷ es) ≡ filter (is_named e.record.name) (e ∷ es)
  group_front = prefix_passes (is_named e.record.name) (e ∷ es) parted

  pub others_after : drop count (e ∷ es) ≡ filter (λ x. not (is_named e.record.name x)) (e ∷ es)
  others_after = after_prefix (is_named e.record.name) (e ∷ es) parted

  pub first_listed : listed_bests (e ∷ es) ≡ option_to_list (group_best (take count (e ∷ es))) ++ listed_bests (drop count (e ∷ es))
  first_listed =
      listed_split (e ∷ es) rises (λ m. bytes_eq m e.record.name)
      (sym (take-append-drop count (e ∷ es)) ∙ (λ i. group_front i ++ others_after i))
      ∙ (λ i. (listed_group (e ∷ es) rises e.record.name ∙ ap (λ g. option_to_list (group_best g)) (sym group_front)) i ++ listed_bests (sym others_after i))

  pub count_positive : 1 ≤ count
  count_positive = subst (λ b. 1 ≤ cond b (1 + prefix_len (is_named e.record.name) es) 0) (sym (alike_bytes e.record.name e.record.name refl)) (omega arith)

-- what holds of a list that is cut after its first name holds of the two parts
pub at_cut : (P : List Entry → List Entry → Type 0) (rest front back : List Entry) (e : Entry) (n : Name) (k : ℕ)
    → n ≡ e.record.name → k ≡ prefix_len (is_named n) rest → front ≡ take k rest → back ≡ drop k rest
    → P (take (prefix_len (is_named e.record.name) rest) rest) (drop (prefix_len (is_named e.record.name) rest) rest) → P front back
at_cut P rest front back e n k named counted front_is back_is holds =
    let all : prefix_len (is_named e.record.name) rest ≡ k = sym (counted ∙ ap (λ m. prefix_len (is_named m) rest) named) in
    subst (λ f. P f back) (sym front_is) (subst (λ b. P (take k rest) b) (sym back_is) (subst (λ m. P (take m rest) (drop m rest)) all holds))

-- what the first name of a list has, whose entries are the front, and the list after it
pub record IsFirstStep (rest front back : List Entry) : Type 0 where
  pub listed : listed_bests rest ≡ option_to_list (group_best front) ++ listed_bests back
  pub rises : Rises back
  pub shorter : length back < length rest

pub first_at : (rest : List Entry) (e : Entry) → Rises rest → slice_get rest 0 ≡ Some e
    → IsFirstStep rest (take (prefix_len (is_named e.record.name) rest) rest) (drop (prefix_len (is_named e.record.name) rest) rest)
first_at [] e rises is = absurd (none-some e is)
first_at (x ∷ xs) e rises is =
    subst (λ (y : Entry). IsFirstStep (x ∷ xs) (take (prefix_len (is_named y.record.name) (x ∷ xs)) (x ∷ xs)) (drop (prefix_len (is_named y.record.name) (x ∷ xs)) (x ∷ xs))) (inside x e is) (record {
      listed = first_listed x xs rises;
      rises = drop_rises (count x xs rises) (x ∷ xs) rises;
      shorter = let p = count_positive x xs rises in omega (arith, length-drop (count x xs rises) (x ∷ xs));
    })

pub first_step : (rest front back : List Entry) (e : Entry) (n : Name) (k : ℕ) → Rises rest → Some e ≡ slice_get rest 0
    → n ≡ e.record.name → k ≡ prefix_len (is_named n) rest → front ≡ take k rest → back ≡ drop k rest → IsFirstStep rest front back
first_step rest front back e n k rises is named counted front_is back_is =
    at_cut (IsFirstStep rest) rest front back e n k named counted front_is back_is (first_at rest e rises (sym is))

-- ---- a page

module _ {A : Type 0} (front ys zs : List A) (n limit : ℕ) where
  -- nothing more of the first name
  pub page_same : ys ≡ zs → front ++ take (limit - n) ys ≡ front ++ take (limit - n) zs
  page_same e = ap (λ l. front ++ take (limit - n) l) e

  -- one more
  pub page_more : (y : A) → ys ≡ y ∷ zs → n < limit → front ++ take (limit - n) ys ≡ (front ++ y ∷ []) ++ take (limit - (n + 1)) zs
  page_more y e short =
      let one : limit - n ≡ suc (limit - (n + 1)) = omega arith in
      (λ i. front ++ take (one i) (e i))
      ∙ sym (append_assoc front (y ∷ []) (take (limit - (n + 1)) zs))

not_empty : {A : Type 0} (front : List A) (y : A) (more : List A) → (front ++ y ∷ []) ++ more ≡ [] → ⊥
not_empty [] y more e = cc
not_empty (x ∷ xs) y more e = cc

-- where the first name has a best, a page with room isn't empty
pub page_not_empty : {A : Type 0} (front ys zs : List A) (n limit : ℕ) (o : Option A) → ys ≡ option_to_list o ++ zs → n < limit → front ++ take (limit - n) ys ≡ [] → o ≡ None
page_not_empty front ys zs n limit None is short e = refl
page_not_empty front ys zs n limit (Some y) is short e = absurd (not_empty front y _ (sym (page_more front ys zs n limit y is short) ∙ e))
