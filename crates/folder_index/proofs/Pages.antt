-- The bests of all names, and the names that are needed, group by group.
use Rattle.std.proofs.Common.{◌≡◌, ℕ, zero, suc, ◌+◌, ◌-◌, ◌<◌, ◌≤◌, arith, get_or, drop, Bool, true, false, List, [], ◌∷◌, ◌++◌, append-nil, length, take, refl, sym, ap, subst, ◌∙◌, inl, inr}
use Rattle.std.specs.Prelude.{◌&&◌, IsTrue, cond, slice_get, filter, Option, Some, None, is_some, option_and_then, option_map}
use Rattle.std.specs.Map.{keys_of}
use Rattle.std.specs.Option.{option_to_list}
use Rattle.std.specs.List.{AllByRecursion, list_all, prefix_len, reduce}
use Rattle.std.specs.List.Sorted.{IsStrictlySortedBy}
use Rattle.std.specs.declared.cmp.Ordering.TheVariants.{Less}
use Rattle.std.proofs.lemmas.Map.Keys.{sorted_tail}
use Rattle.std.proofs.lemmas.Option.{none-some}
use Rattle.std.proofs.Math.Seq.{drop-cons}
use Rattle.std.proofs.lemmas.List.{append_assoc, length-append}
use Rattle.std.proofs.lemmas.List.Elements.{filter-append}
use Rattle.sync_record.specs.Devices.{Identity, bytes_cmp}
use Rattle.sync_record.specs.Records.{Name}
use Rattle.folder_core.specs.declared.announcement.Announcement.{Announcement as Entry}
use Rattle.folder_core.specs.Plain.{Rises, better, devices_with, group_best, is_undominated, listed_bests}
use Rattle.folder_core.specs.PlainPulls.{best_in}
use Rattle.folder_core.specs.PlainReads.{is_needed_over, needed_names, needed_of, record_from}
use Rattle.folder_core.proofs.ListTests.{In, inside, of_filter}
use Rattle.folder_core.proofs.PlainGroup.{is_named}
use Rattle.folder_core.proofs.PlainFound.{first_step, named_best}
use Rattle.folder_core.proofs.PlainNeed.{need_step}
use Rattle.std.proofs.lemmas.Grind.{flat_map-append}
use Rattle.folder_index.specs.declared.group.Group.{Group}
use Rattle.folder_index.specs.Chunks.{Chunk}
use Rattle.folder_index.specs.Groups.{IsGroup, best_of_group, bests_listed, entries_in, listed, name_in, needed_listed}
use Rattle.folder_index.proofs.Lists.{back_of, front_of, keeps_all, keeps_none, prefix_is}
use Rattle.folder_index.proofs.Listed.{Groups, Sorted, Each, each_tail, first_name, others_named, rises}

abbrev entry_name : Entry → Name
entry_name e = e.record.name

module _ (me : Identity) where
  -- the best that is needed is of the group's name
  needed_name : (n : Name) (g : Group) → IsGroup me n g → option_to_list (option_map entry_name (needed_of me (entries_in g))) ≡ cond g.is_needed (n ∷ []) []
  needed_name n g group = by (best_in (entries_in g)) refl ∙ ap (λ b. cond b (n ∷ []) []) (sym group.needed)
    where
      all : filter (is_named n) (entries_in g) ≡ (entries_in g)
      all = keeps_all (is_named n) (entries_in g) group.named

      own : Entry → Bool
      own b = is_needed_over (record_from me (entries_in g)) b.record

      by : (o : Option Entry) → o ≡ best_in (entries_in g) →
          option_to_list (option_map entry_name (option_and_then (λ (b : Entry). cond (is_needed_over (record_from me (entries_in g)) b.record) (Some b) None) o))
          ≡ cond (is_some (option_and_then (λ (b : Entry). cond (is_needed_over (record_from me (entries_in g)) b.record) (Some b) None) o)) (n ∷ []) []
      by None is = refl
      by (Some b) is =
          let named : b.record.name ≡ n = named_best n (entries_in g) group.rises b (subst (λ es. Some b ≡ reduce better (filter (is_undominated es) es)) (sym all) is) in
          elim (is_needed_over (record_from me (entries_in g)) b.record) as (λ t. option_to_list (option_map entry_name (cond t (Some b) None)) ≡ cond (is_some (cond t (Some b) None)) (n ∷ []) []) [
            | true ↦ ap (λ m. m ∷ []) named
            | false ↦ refl
          ]

  module _ (h : Name × Group) (gs : Groups) (s : Sorted (h ∷ gs)) (each : Each me (h ∷ gs)) where
    first_all : (e : Entry) → e.record.name ≡ h.0 → prefix_len (is_named e.record.name) ((entries_in h.1) ++ listed gs) ≡ length (entries_in h.1)
    first_all e named =
        ap (λ m. prefix_len (is_named m) ((entries_in h.1) ++ listed gs)) named
        ∙ prefix_is (is_named h.0) (entries_in h.1) (listed gs) (each h.0 h.1 (inl refl)).named (others_named me h gs s each)

  needed_step : (n : Name) (g : Group) (gs : Groups) → Sorted ((n, g) ∷ gs) → Each me ((n, g) ∷ gs) → (es : List Entry) → es ≡ (entries_in g) →
      needed_names me (es ++ listed gs) ≡ option_to_list (option_map entry_name (needed_of me es)) ++ needed_names me (listed gs)
  needed_step n g gs s each [] is = refl
  needed_step n g gs s each (e ∷ es) is =
      let all : prefix_len (is_named e.record.name) ((e ∷ es) ++ listed gs) ≡ length (e ∷ es) =
      subst (λ xs. prefix_len (is_named e.record.name) (xs ++ listed gs) ≡ length xs) (sym is) (first_all (n, g) gs s each e (first_name me (n, g) gs s each e (subst (In e) is (inl refl)))) in
      let up : Rises ((e ∷ es) ++ listed gs) = subst (λ xs. Rises (xs ++ listed gs)) (sym is) (rises me ((n, g) ∷ gs) s each) in
      (need_step me ((e ∷ es) ++ listed gs) (e ∷ es) (listed gs) e e.record.name (length (e ∷ es)) up refl refl (sym all) (sym (front_of (e ∷ es) (listed gs))) (sym (back_of (e ∷ es) (listed gs)))).listed

  pub needed_are_listed : (gs : Groups) → Sorted gs → Each me gs → needed_names me (listed gs) ≡ needed_listed gs
  needed_are_listed [] s each = refl
  needed_are_listed (h ∷ gs) s each =
      needed_step h.0 h.1 gs s each (entries_in h.1) refl
      ∙ (λ i. needed_name h.0 h.1 (each h.0 h.1 (inl refl)) i ++ needed_are_listed gs (sorted_tail bytes_cmp h.0 (keys_of gs) s) (each_tail me h gs each) i)

  best_step : (n : Name) (g : Group) (gs : Groups) → Sorted ((n, g) ∷ gs) → Each me ((n, g) ∷ gs) → (es : List Entry) → es ≡ (entries_in g) →
      listed_bests (es ++ listed gs) ≡ option_to_list (group_best es) ++ listed_bests (listed gs)
  best_step n g gs s each [] is = refl
  best_step n g gs s each (e ∷ es) is =
      let all : prefix_len (is_named e.record.name) ((e ∷ es) ++ listed gs) ≡ length (e ∷ es) =
      subst (λ xs. prefix_len (is_named e.record.name) (xs ++ listed gs) ≡ length xs) (sym is) (first_all (n, g) gs s each e (first_name me (n, g) gs s each e (subst (In e) is (inl refl)))) in
      let up : Rises ((e ∷ es) ++ listed gs) = subst (λ xs. Rises (xs ++ listed gs)) (sym is) (rises me ((n, g) ∷ gs) s each) in
      (first_step ((e ∷ es) ++ listed gs) (e ∷ es) (listed gs) e e.record.name (length (e ∷ es)) up refl refl (sym all) (sym (front_of (e ∷ es) (listed gs))) (sym (back_of (e ∷ es) (listed gs)))).listed

  pub bests_are_listed : (gs : Groups) → Sorted gs → Each me gs → listed_bests (listed gs) ≡ bests_listed gs
  bests_are_listed [] s each = refl
  bests_are_listed (h ∷ gs) s each =
      best_step h.0 h.1 gs s each (entries_in h.1) refl
      ∙ (λ i. option_to_list (option_map (λ b. (b.record, devices_with (entries_in h.1) b.record)) (sym (each h.0 h.1 (inl refl)).best i))
      ++ bests_are_listed gs (sorted_tail bytes_cmp h.0 (keys_of gs) s) (each_tail me h gs each) i)

-- ---- the groups of some names

module _ (p : Name → Bool) where
  abbrev pub part_of : Groups → Groups
  part_of gs = filter (λ h. p h.0) gs

  in_part : (gs : Groups) (n : Name) (g : Group) → In (n, g) (part_of gs) → In (n, g) gs
  in_part gs n g i = (of_filter (λ (h : Name × Group). p h.0) gs (n, g) i).0

  pub part_each : (me : Identity) (gs : Groups) → Each me gs → Each me (part_of gs)
  part_each me gs each n g i = each n g (in_part gs n g i)

  fewer : (n : Name) (gs : Groups) → AllByRecursion (λ m. bytes_cmp n m ≡ Less) (keys_of gs) → AllByRecursion (λ m. bytes_cmp n m ≡ Less) (keys_of (part_of gs))
  fewer n [] all = tt
  fewer n (h ∷ gs) all =
      elim (p h.0) as (λ b. AllByRecursion (λ m. bytes_cmp n m ≡ Less) (keys_of (cond b (h ∷ part_of gs) (part_of gs)))) [
        | true ↦ (all.0, fewer n gs all.1)
        | false ↦ fewer n gs all.1
      ]

  pub part_sorted : (gs : Groups) → Sorted gs → Sorted (part_of gs)
  unfolding IsStrictlySortedBy
  part_sorted [] s = tt
  part_sorted (h ∷ gs) s =
      elim (p h.0) as (λ b. Sorted (cond b (h ∷ part_of gs) (part_of gs))) [
        | true ↦ (fewer h.0 gs s.0, part_sorted gs s.1)
        | false ↦ part_sorted gs s.1
      ]

  pub part_listed : (me : Identity) (gs : Groups) → Sorted gs → Each me gs → listed (part_of gs) ≡ filter (λ e. p e.record.name) (listed gs)
  part_listed me [] s each = refl
  part_listed me (h ∷ gs) s each =
      let rest : listed (part_of gs) ≡ filter (λ e. p e.record.name) (listed gs) = part_listed me gs (sorted_tail bytes_cmp h.0 (keys_of gs) s) (each_tail me h gs each) in
      elim (p h.0) as (λ b. p h.0 ≡ b → listed (cond b (h ∷ part_of gs) (part_of gs)) ≡ filter (λ e. p e.record.name) (entries_in h.1) ++ filter (λ e. p e.record.name) (listed gs)) [
        | true ↦ λ t. λ i. sym (keeps_all (λ (e : Entry). p e.record.name) (entries_in h.1) (all_pass (entries_in h.1) (λ e j. ap p (first_name me h gs s each e j) ∙ t))) i ++ rest i
        | false ↦ λ f. rest ∙ (λ i. sym (keeps_none (λ (e : Entry). p e.record.name) (entries_in h.1) (λ e j. ap p (first_name me h gs s each e j) ∙ f)) i ++ filter (λ e. p e.record.name) (listed gs))
      ] refl
      ∙ sym (filter-append (λ (e : Entry). p e.record.name) (entries_in h.1) (listed gs))
    where
      all_pass : (es : List Entry) → ((e : Entry) → In e es → p e.record.name ≡ true) → list_all (λ e. p e.record.name) es ≡ true
      all_pass [] pass = refl
      all_pass (e ∷ es) pass = ap (λ b. b && list_all (λ e. p e.record.name) es) (pass e (inl refl)) ∙ all_pass es (λ f i. pass f (inr i))

-- ---- a page as it is made

pub needed_next : (gs : Groups) (n : Name) (g : Group) (rest : Groups) → gs ≡ (n, g) ∷ rest → g.is_needed ≡ true → needed_listed gs ≡ n ∷ needed_listed rest
needed_next gs n g rest is t = ap needed_listed is ∙ ap (λ b. cond b (n ∷ []) [] ++ needed_listed rest) t

none_of_none : {A : Type 0} (k : ℕ) → take {A = A} k [] ≡ []
none_of_none zero = refl
none_of_none (suc k) = refl

module _ {A : Type 0} (front ys : List A) where
  pub whole_page : (n limit : ℕ) → front ≡ [] → n ≡ 0 → front ++ take (limit - n) ys ≡ take limit ys
  whole_page n limit none start = let k : limit - n ≡ limit = omega arith in λ i. none i ++ take (k i) ys

  pub last_page : (k : ℕ) → ys ≡ [] → front ≡ front ++ take k ys
  last_page k none = sym (ap (λ l. front ++ l) (ap (take k) none ∙ none_of_none k) ∙ append-nil front)

  pub full_page : (n limit : ℕ) → n ≡ limit → front ≡ front ++ take (limit - n) ys
  full_page n limit full = let k : limit - n ≡ 0 = omega arith in sym (ap (λ k. front ++ take k ys) k ∙ ap (λ l. front ++ l) (none_taken ys) ∙ append-nil front)
    where
      none_taken : (ys : List A) → take 0 ys ≡ []
      none_taken [] = refl
      none_taken (y ∷ ys) = refl

-- ---- a page that is made of several lists

take_parts : {A : Type 0} (k : ℕ) (xs ys : List A) → take k (xs ++ ys) ≡ take k xs ++ take (k - length (take k xs)) ys
take_parts zero xs ys = refl
take_parts (suc k) [] ys = (let all : suc k ≡ suc k - 0 = omega arith in λ i. take (all i) ys)
take_parts (suc k) (x ∷ xs) ys =
    ap (λ l. x ∷ l) (take_parts k xs ys)
    ∙ (let less : k - length (take k xs) ≡ suc k - length (x ∷ take k xs) = omega arith in λ i. (x ∷ take k xs) ++ take (less i) ys)

pub page_step : {A : Type 0} (front xs ys : List A) (n next limit : ℕ) → next ≡ n + length (take (limit - n) xs) → (front ++ take (limit - n) xs) ++ take (limit - next) ys ≡ front ++ take (limit - n) (xs ++ ys)
page_step front xs ys n next limit is =
    append_assoc front (take (limit - n) xs) (take (limit - next) ys)
    ∙ (let left : limit - next ≡ limit - n - length (take (limit - n) xs) = omega arith in λ i. front ++ (take (limit - n) xs ++ take (left i) ys))
    ∙ ap (λ l. front ++ l) (sym (take_parts (limit - n) xs ys))

-- nothing is left where all is there already
pub nothing_left : {A : Type 0} (xs ys zs : List A) → xs ++ ys ≡ zs → length zs ≤ length xs → ys ≡ []
nothing_left xs [] zs e le = refl
nothing_left xs (y ∷ ys) zs e le = (let len = ap (λ (l : List _). length l) e in let all = length-append xs (y ∷ ys) in absurd (omega arith))

pub left_empty : {A : Type 0} (page rest old all : List A) → page ++ rest ≡ old ++ all → all ≡ [] → length old ≤ length page → rest ≡ []
left_empty page rest old all e none le = nothing_left page rest old (e ∙ ap (λ l. old ++ l) none ∙ append-nil old) le

-- nothing of a first part where nothing of all
pub first_empty : {A : Type 0} (k : ℕ) (xs ys : List A) → take k (xs ++ ys) ≡ [] → take k xs ≡ []
first_empty zero xs ys e = refl
first_empty (suc k) [] ys e = refl
first_empty (suc k) (x ∷ xs) ys e = cc

pub second_empty : {A : Type 0} (xs ys : List A) → xs ++ ys ≡ [] → ys ≡ []
second_empty [] ys e = e
second_empty (x ∷ xs) ys e = cc

-- the next of a list of groups
pub next_groups : (gs : List Group) (i : ℕ) (g : Group) → i < length gs → g ≡ get_or gs i g → drop i gs ≡ g ∷ drop (i + 1) gs
next_groups gs i g short is = drop-cons gs i g short ∙ (let next : suc i ≡ i + 1 = omega arith in λ j. sym is j ∷ drop (next j) gs)

pub none_before : {A : Type 0} (xs : List A) → drop 0 xs ≡ xs
none_before [] = refl
none_before (x ∷ xs) = refl

pub none_past : {A : Type 0} (xs : List A) (k : ℕ) → length xs ≤ k → drop k xs ≡ []
none_past [] zero le = refl
none_past [] (suc k) le = refl
none_past (x ∷ xs) zero le = absurd (omega arith)
none_past (x ∷ xs) (suc k) le = none_past xs k (omega arith)

-- the name of the first record of a group that is needed
module _ (g : Group) (has : IsTrue g.is_needed → (e : Entry) × (slice_get (entries_in g) 0 ≡ Some e) × (e.record.name ≡ name_in g)) where
  pub needed_some : (first : Entry) → Some first ≡ cond g.is_needed (slice_get (entries_in g) 0) None → (g.is_needed ≡ true) × (first.record.name ≡ name_in g)
  needed_some first is = by g.is_needed refl
    where
      by : (b : Bool) → g.is_needed ≡ b → (g.is_needed ≡ true) × (first.record.name ≡ name_in g)
      by true t =
          let e = has t in
          (t, ap (λ (x : Entry). x.record.name) (inside first e.0 (is ∙ ap (λ b. cond b (slice_get (entries_in g) 0) None) t ∙ e.1)) ∙ e.2)
      by false f = absurd (none-some first (sym (is ∙ ap (λ b. cond b (slice_get (entries_in g) 0) None) f)))

  pub needed_none : None ≡ cond g.is_needed (slice_get (entries_in g) 0) None → g.is_needed ≡ false
  needed_none is = by g.is_needed refl
    where
      by : (b : Bool) → g.is_needed ≡ b → g.is_needed ≡ false
      by true t = let e = has t in absurd (none-some e.0 (is ∙ ap (λ b. cond b (slice_get (entries_in g) 0) None) t ∙ e.1))
      by false f = f

-- a list more of a page
pub page_put : {A : Type 0} (old new xs ys : List A) (n next limit : ℕ) → new ≡ old ++ take (limit - n) xs → n ≡ length old → next ≡ length new → new ++ take (limit - next) ys ≡ old ++ take (limit - n) (xs ++ ys)
page_put old new xs ys n next limit put len len_new =
    ap (λ l. l ++ take (limit - next) ys) put
    ∙ page_step old xs ys n next limit (let all = ap (λ (l : List _). length l) put in let parts = length-append old (take (limit - n) xs) in omega arith)

-- nothing more of a page that stays empty
pub none_put : {A : Type 0} (old xs ys page : List A) (k : ℕ) → old ++ take k (xs ++ ys) ≡ page → page ≡ [] → take k xs ≡ []
none_put old xs ys page k is none = first_empty k xs ys (second_empty old (take k (xs ++ ys)) (is ∙ none))

pub next_chunks : (vs : List Chunk) (i : ℕ) (v : Chunk) → i < length vs → v ≡ get_or vs i v → drop i vs ≡ v ∷ drop (i + 1) vs
next_chunks vs i v short is = drop-cons vs i v short ∙ (let next : suc i ≡ i + 1 = omega arith in λ j. sym is j ∷ drop (next j) vs)

pub bests_listed_append : (xs ys : Groups) → bests_listed (xs ++ ys) ≡ bests_listed xs ++ bests_listed ys
bests_listed_append xs ys = flat_map-append (λ (h : Name × Group). option_to_list (best_of_group h.1)) xs ys

pub needed_listed_append : (xs ys : Groups) → needed_listed (xs ++ ys) ≡ needed_listed xs ++ needed_listed ys
needed_listed_append xs ys = flat_map-append (λ (h : Name × Group). cond h.1.is_needed (h.0 ∷ []) []) xs ys
