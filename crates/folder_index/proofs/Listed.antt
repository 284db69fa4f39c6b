-- The groups of names, listed as the entries of a folder.
use Rattle.std.proofs.Common.{◌≡◌, ◌≢◌, Bool, true, false, List, [], ◌∷◌, ◌++◌, append-nil, refl, sym, ap, subst, ◌∙◌, ◌⊎◌, inl, inr}
use Rattle.std.specs.Prelude.{bytes_eq, ◌&&◌, cond, T, filter, map, Some}
use Rattle.std.specs.Bool.{passes}
use Rattle.std.specs.BTreeMap.{is_at}
use Rattle.std.specs.Map.{keys_of, lookup}
use Rattle.std.specs.Option.{option_map_or}
use Rattle.std.specs.Ordering.{is_eq, ordering_then}
use Rattle.std.specs.Cmp.{Equal-is, tied_itself}
use Rattle.std.specs.List.{list_all}
use Rattle.std.specs.List.Sorted.{IsStrictlySortedBy}
use Rattle.std.specs.declared.cmp.Ordering.TheVariants.{Less}
use Rattle.std.specs.FinMap.{find, is_sorted, from_sorted, get-from_sorted}
use Rattle.std.specs.FinMap as map
use Rattle.std.proofs.lemmas.Bool.{true≢false, false_from_ne_true}
use Rattle.std.proofs.lemmas.Map.Keys.{sorted_head, sorted_tail}
use Rattle.std.proofs.lemmas.Map.Lookups.{exact_bytes}
use Rattle.std.proofs.lemmas.List.Elements.{filter-append}
use Rattle.std.proofs.lemmas.List.{map-append}
use Rattle.sync_record.specs.Devices.{Identity, bytes_cmp}
use Rattle.sync_record.specs.Records.{Name}
use Rattle.folder_core.specs.declared.announcement.Announcement.{Announcement as Entry}
use Rattle.folder_core.specs.Announced.{Announced, Key, key_cmp}
use Rattle.folder_core.specs.Plain.{Rises, filed}
use Rattle.folder_core.specs.PlainReads.{record_from}
use Rattle.folder_core.proofs.BestList.{apart}
use Rattle.folder_core.proofs.ListTests.{In, all_in, same_bytes, in_map, of_map}
use Rattle.folder_core.proofs.ListFilters.{filter_filter}
use Rattle.folder_core.proofs.Orders.{bytes_total, is_true}
use Rattle.folder_core.proofs.PlainGroup.{is_named}
use Rattle.folder_core.proofs.PlainOwn.{find_key}
use Rattle.folder_index.specs.declared.group.Group.{Group}
use Rattle.folder_index.specs.Groups.{IsGroup, entries_in, listed}
use Rattle.folder_index.proofs.Lists.{in_parts, all_at, keeps_all, keeps_none, sorted_append}

abbrev pub Groups : Type 0
Groups = List (Name × Group)

abbrev pub Sorted : Groups → Type 0
Sorted gs = IsStrictlySortedBy bytes_cmp (keys_of gs)

abbrev pub Each : Identity → Groups → Type 0
Each me gs = (n : Name) (g : Group) → In (n, g) gs → IsGroup me n g

-- the entries of a name
abbrev pub entries_at : Name → Groups → List Entry
entries_at n gs = option_map_or (λ g. entries_in g) (lookup (is_at (bytes_cmp n)) gs) []

abbrev pub announced_of : Groups → Announced
announced_of gs = from_sorted (map filed (listed gs))

pub at_itself : (n : Name) → is_at (bytes_cmp n) n ≡ true
at_itself n = ap is_eq (tied_itself bytes_total n)

pub at_same : (m n : Name) → is_at (bytes_cmp m) n ≡ true → m ≡ n
at_same m n t = exact_bytes m n ((Equal-is (bytes_cmp m n)).0 t)

pub at_other : (m n : Name) → m ≢ n → is_at (bytes_cmp m) n ≡ false
at_other m n other = false_from_ne_true _ (λ t. other (at_same m n t))

-- what is in the list is what a look-up finds
pub in_lookup : (gs : Groups) → Sorted gs → (n : Name) (g : Group) → In (n, g) gs → lookup (is_at (bytes_cmp n)) gs ≡ Some g
in_lookup [] s n g i = absurd i
in_lookup (h ∷ gs) s n g (inl e) =
    (λ i. cond (is_at (bytes_cmp (e i).0) h.0) (Some h.1) (lookup (is_at (bytes_cmp (e i).0)) gs))
    ∙ ap (λ b. cond b (Some h.1) (lookup (is_at (bytes_cmp h.0)) gs)) (at_itself h.0)
    ∙ ap (λ (x : Name × Group). Some x.1) (sym e)
in_lookup (h ∷ gs) s n g (inr i) =
    let less : bytes_cmp h.0 n ≡ Less = all_at (λ m. bytes_cmp h.0 m ≡ Less) (keys_of gs) (sorted_head bytes_cmp h.0 (keys_of gs) s) n (in_map (λ (e : Name × Group). e.0) gs (n, g) i) in
    ap (λ b. cond b (Some h.1) (lookup (is_at (bytes_cmp n)) gs)) (at_other n h.0 (λ e. apart h.0 n less (sym e)))
    ∙ in_lookup gs (sorted_tail bytes_cmp h.0 (keys_of gs) s) n g i

in_listed : (gs : Groups) (e : Entry) → In e (listed gs) → (h : Name × Group) × In h gs × In e (entries_in h.1)
in_listed [] e i = absurd i
in_listed (h ∷ gs) e i = by (in_listed gs e) (in_parts (entries_in h.1) (listed gs) e i)
  where
    by : (In e (listed gs) → (k : Name × Group) × In k gs × In e (entries_in k.1)) → In e (entries_in h.1) ⊎ In e (listed gs) → (k : Name × Group) × ((k ≡ h) ⊎ In k gs) × In e (entries_in k.1)
    by rest (inl j) = (h, inl refl, j)
    by rest (inr j) = let r = rest j in (r.0, inr r.1, r.2)

module _ (me : Identity) where
  pub each_tail : (h : Name × Group) (gs : Groups) → Each me (h ∷ gs) → Each me gs
  each_tail h gs each n g i = each n g (inr i)

  -- an entry of a group is of its name
  pub is_of_group : (n : Name) (g : Group) → IsGroup me n g → (e : Entry) → In e (entries_in g) → e.record.name ≡ n
  is_of_group n g group e i = same_bytes e.record.name n (all_in (λ (e : Entry). bytes_eq e.record.name n) (entries_in g) group.named e i)

  module _ (h : Name × Group) (gs : Groups) (s : Sorted (h ∷ gs)) (each : Each me (h ∷ gs)) where
    -- the names after the first are greater
    pub later_name : (e : Entry) → In e (listed gs) → bytes_cmp h.0 e.record.name ≡ Less
    later_name e i =
        let r = in_listed gs e i in
        let named : e.record.name ≡ r.0.0 = is_of_group r.0.0 r.0.1 (each r.0.0 r.0.1 (inr r.1)) e r.2 in
        ap (bytes_cmp h.0) named
        ∙ all_at (λ m. bytes_cmp h.0 m ≡ Less) (keys_of gs) (sorted_head bytes_cmp h.0 (keys_of gs) s) r.0.0 (in_map (λ (e : Name × Group). e.0) gs r.0 r.1)

    pub first_name : (e : Entry) → In e (entries_in h.1) → e.record.name ≡ h.0
    first_name e i = is_of_group h.0 h.1 (each h.0 h.1 (inl refl)) e i

    pub others_named : (e : Entry) → In e (listed gs) → is_named h.0 e ≡ false
    others_named e i = false_from_ne_true _ (λ t. apart h.0 e.record.name (later_name e i) (sym (same_bytes e.record.name h.0 t)))

  pub at_is : (gs : Groups) → Sorted gs → Each me gs → (n : Name) → filter (is_named n) (listed gs) ≡ entries_at n gs
  at_is [] s each n = refl
  at_is (h ∷ gs) s each n =
      filter-append (is_named n) (entries_in h.1) (listed gs)
      ∙ elim (is_at (bytes_cmp n) h.0) as (λ b. is_at (bytes_cmp n) h.0 ≡ b → filter (is_named n) (entries_in h.1) ++ filter (is_named n) (listed gs) ≡ option_map_or (λ (g : Group). entries_in g) (cond b (Some h.1) (lookup (is_at (bytes_cmp n)) gs)) []) [
        | true ↦ λ t.
            let same : h.0 ≡ n = sym (at_same n h.0 t) in
            let all : filter (is_named n) (entries_in h.1) ≡ (entries_in h.1) = keeps_all (is_named n) (entries_in h.1) (ap (λ m. list_all (is_named m) (entries_in h.1)) (sym same) ∙ (each h.0 h.1 (inl refl)).named) in
            let none : filter (is_named n) (listed gs) ≡ [] = keeps_none (is_named n) (listed gs) (λ e i. ap (λ m. is_named m e) (sym same) ∙ others_named h gs s each e i) in
            (λ i. all i ++ none i) ∙ append-nil (entries_in h.1)
        | false ↦ λ f.
            let none : filter (is_named n) (entries_in h.1) ≡ [] = keeps_none (is_named n) (entries_in h.1) (λ e i.
            false_from_ne_true _ (λ t. true≢false (sym (at_itself n) ∙ ap (is_at (bytes_cmp n)) (sym (same_bytes e.record.name n t) ∙ first_name h gs s each e i) ∙ f))) in
            (λ i. none i ++ at_is gs (sorted_tail bytes_cmp h.0 (keys_of gs) s) (each_tail h gs each) n i)
      ] refl

  pub rises : (gs : Groups) → Sorted gs → Each me gs → Rises (listed gs)
  rises [] s each = refl
  rises (h ∷ gs) s each =
      is_true _ (subst (λ l. T (is_sorted key_cmp l)) (sym (map-append filed (entries_in h.1) (listed gs)))
      (sorted_append key_cmp (map filed (entries_in h.1)) (map filed (listed gs))
      (passes _ (each h.0 h.1 (inl refl)).rises)
      (passes _ (rises gs (sorted_tail bytes_cmp h.0 (keys_of gs) s) (each_tail h gs each)))
      (λ x y i j.
      let a = of_map filed (entries_in h.1) x i in
      let b = of_map filed (listed gs) y j in
      let less : bytes_cmp a.0.record.name b.0.record.name ≡ Less = ap (λ m. bytes_cmp m b.0.record.name) (first_name h gs s each a.0 a.1) ∙ later_name h gs s each b.0 b.1 in
      (λ k. key_cmp (sym a.2 k).0 (sym b.2 k).0) ∙ ap (λ o. ordering_then o (bytes_cmp a.0.device b.0.device)) less)))

  -- ---- what is announced

  twice : (b : Bool) → b ≡ (b && b)
  twice true = refl
  twice false = refl

  pub get_is : (gs : Groups) → Sorted gs → Each me gs → (q : Key) → map.get (announced_of gs) q ≡ find key_cmp q (map filed (entries_at q.name gs))
  get_is gs s each q =
      get-from_sorted key_cmp (map filed (listed gs)) q (passes _ (rises gs s each))
      ∙ find_key q.name q.device (listed gs)
      ∙ ap (record_from q.device) (sym (filter_filter (is_named q.name) (is_named q.name) (is_named q.name) (listed gs) (λ e. twice (is_named q.name e))))
      ∙ sym (find_key q.name q.device (filter (is_named q.name) (listed gs)))
      ∙ ap (λ es. find key_cmp q (map filed es)) (at_is gs s each q.name)
