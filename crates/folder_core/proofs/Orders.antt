-- The orders of names, devices and keys, and entries under a test of their keys.
use Rattle.folder_core.specs.Announced.{key_cmp}
use Rattle.std.proofs.Common.{◌≡◌, ℕ, Bool, true, false, List, refl, sym, ap, ◌∙◌}
use Rattle.std.proofs.lemmas.Map.Lookups.{exact_pairs, exact_bytes}
use Rattle.std.specs.Bool.{passes}
use Rattle.std.specs.Cmp.{IsTotalOrder, IsEquivalence, eq_by_cmp_equiv, on_total, then_total}
use Rattle.std.specs.Cmp.Lexicographic.{nat_list_cmp_total}
use Rattle.std.specs.FinMap.{FinMap, IsAntisymmetric, get, insert, remove, find, put, entries-insert, get-remove, entries, entries_sorted, retain_keys, from_sorted, get-entries, get-retain_keys, get-from_sorted, entries-from_sorted, same_map, is_sorted}
use Rattle.std.specs.FinMap.Entries.{where_key, is_sorted-where_key, find-where_key}
use Rattle.std.specs.Ordering.{eq_by_cmp}
use Rattle.std.specs.Prelude.{T, cond, None, not}
use Rattle.std.specs.declared.cmp.Ordering.{Ordering}
use Rattle.std.specs.declared.cmp.Ordering.TheVariants.{Equal}
use Rattle.sync_record.specs.Devices.{bytes_cmp}

pub bytes_total : IsTotalOrder bytes_cmp
bytes_total = nat_list_cmp_total

pub keys_total : IsTotalOrder key_cmp
keys_total = then_total (on_total (λ k. k.name) nat_list_cmp_total) (on_total (λ k. k.device) nat_list_cmp_total)

-- keys that compare alike are one
pub exact_keys : IsAntisymmetric key_cmp
exact_keys a b h =
    ap (λ (p : List ℕ × List ℕ). record { name = p.0; device = p.1 })
    (exact_pairs bytes_cmp bytes_cmp exact_bytes exact_bytes (a.name, a.device) (b.name, b.device) h)

-- what is retained of a map, as a list
pub entries-retain_keys : {K X : Type 0} {R : K → K → Ordering} → IsTotalOrder R → IsAntisymmetric R → (m : FinMap R X) (p : K → Bool) → entries (retain_keys m p) ≡ where_key R p (entries m)
entries-retain_keys {K} {X} {R} o same m p =
    let kept : T (is_sorted R (where_key R p (entries m))) = is_sorted-where_key R p (entries m) (entries_sorted m) in
    let alike : (q x : K) → R q x ≡ Equal → p x ≡ p q = λ q x e. ap p (sym (same q x e)) in
    ap entries (same_map o same (retain_keys m p) (from_sorted (where_key R p (entries m))) (λ q.
    get-retain_keys m p q (alike q) ∙ ap (λ o. cond (p q) o None) (get-entries m q)
    ∙ sym (get-from_sorted R (where_key R p (entries m)) q kept ∙ find-where_key R p q (alike q) (entries m))))
    ∙ entries-from_sorted R (where_key R p (entries m)) kept

turned : {A : Type 0} (b : Bool) (x y : A) → cond (not b) x y ≡ cond b y x
turned true x y = refl
turned false x y = refl

-- Maps that are written out as lists: what they have, and what changes make of them. The premises compute.
module _ {K X : Type 0} (R : K → K → Ordering) where
  pub entries_listed : (es : List (K × X)) → is_sorted R es ≡ true → entries (from_sorted {R = R} es) ≡ es
  entries_listed es e = entries-from_sorted R es (passes (is_sorted R es) e)

  pub get_listed : (es : List (K × X)) (q : K) → is_sorted R es ≡ true → get (from_sorted {R = R} es) q ≡ find R q es
  get_listed es q e = get-from_sorted R es q (passes (is_sorted R es) e)

module _ {K X : Type 0} {R : K → K → Ordering} (o : IsTotalOrder R) (same : IsAntisymmetric R) where
  -- a map is the one that its entries make
  pub listed : (m : FinMap R X) → m ≡ from_sorted (entries m)
  listed m = same_map o same m (from_sorted (entries m)) (λ q.
      get-entries m q ∙ sym (get-from_sorted R (entries m) q (entries_sorted m)))

  pub insert_listed : (es : List (K × X)) (k : K) (v : X) → is_sorted R es ≡ true → insert (from_sorted {R = R} es) k v ≡ from_sorted (put R k v es)
  insert_listed es k v e =
      listed (insert (from_sorted es) k v)
      ∙ ap from_sorted (entries-insert o (from_sorted es) k v ∙ ap (put R k v) (entries_listed R es e))

  pub retain_listed : (es : List (K × X)) (p : K → Bool) → is_sorted R es ≡ true → retain_keys (from_sorted {R = R} es) p ≡ from_sorted (where_key R p es)
  retain_listed es p e =
      listed (retain_keys (from_sorted es) p)
      ∙ ap from_sorted (entries-retain_keys o same (from_sorted es) p ∙ ap (where_key R p) (entries_listed R es e))

  pub remove_listed : (es : List (K × X)) (k : K) → is_sorted R es ≡ true → remove (from_sorted {R = R} es) k ≡ from_sorted (where_key R (λ x. not (eq_by_cmp R k x)) es)
  remove_listed es k e =
      let kept : K → Bool = λ x. not (eq_by_cmp R k x) in
      let sorted : T (is_sorted R es) = passes (is_sorted R es) e in
      same_map o same (remove (from_sorted es) k) (from_sorted (where_key R kept es)) (λ q.
      get-remove o (from_sorted es) k q
      ∙ (λ i. cond (symmetric.symm q k i) None (get-from_sorted R es q sorted i))
      ∙ sym (get-from_sorted R (where_key R kept es) q (is_sorted-where_key R kept es sorted)
      ∙ find-where_key R kept q (λ x t. ap kept (sym (same q x t))) es
      ∙ turned (eq_by_cmp R k q) (find R q es) None))
    where
      symmetric : IsEquivalence (eq_by_cmp R)
      symmetric = eq_by_cmp_equiv o

pub exact_names : IsAntisymmetric bytes_cmp
exact_names = exact_bytes

pub is_true : (b : Bool) → T b → b ≡ true
is_true true h = refl
is_true false h = absurd h

pub entries-remove : {K X : Type 0} {R : K → K → Ordering} → IsTotalOrder R → IsAntisymmetric R → (m : FinMap R X) (k : K) → entries (remove m k) ≡ where_key R (λ x. not (eq_by_cmp R k x)) (entries m)
entries-remove {R = R} o same m k =
    let sorted : is_sorted R (entries m) ≡ true = is_true _ (entries_sorted m) in
    ap (λ n. entries (remove n k)) (listed o same m)
    ∙ ap entries (remove_listed o same (entries m) k sorted)
    ∙ entries-from_sorted R _ (is_sorted-where_key R (λ x. not (eq_by_cmp R k x)) (entries m) (entries_sorted m))
