-- Whether there is a record of a name among records whose names rise.
use Rattle.std.proofs.Common.{◌≡◌, ℕ, zero, suc, ◌+◌, ◌<◌, ◌≤◌, Bool, Bor, true, false, List, [], ◌∷◌, get_or, length, refl, sym, ap, ◌∙◌, arith}
use Rattle.std.specs.Prelude.{bytes_eq, cond, IfSome, is_some, map, nat_lt, option_and_then, option_copied, slice_get, slice_index_or, T, Option, Some, None}
use Rattle.std.specs.Bool.{passes}
use Rattle.std.specs.FinMap.Entries.{below_all, is_some-find}
use Rattle.std.specs.List.{AllWithin, list_any, prefix_len}
use Rattle.std.specs.List.Sorted.{IsPartitionedBy, IsPartitionPoint}
use Rattle.std.specs.Option.{option_map_or}
use Rattle.std.specs.Ordering.{eq_by_cmp, is_lt}
use Rattle.std.specs.declared.cmp.Ordering.{Ordering}
use Rattle.std.specs.declared.cmp.Ordering.TheVariants.{Less, Equal, Greater}
use Rattle.std.proofs.lemmas.Bool.{and_parts, ltb-false, ltb-true, true≢false}
use Rattle.std.proofs.lemmas.Option.{slice_get-get_or, slice_get_past}
use Rattle.sync_record.specs.Devices.{bytes_cmp}
use Rattle.sync_record.specs.Records.{Name, FileRecord}
use Rattle.folder_core.specs.Plain.{NamesRise, named}
use Rattle.folder_core.proofs.ListTests.{is_less, parts}
use Rattle.folder_core.proofs.Orders.{bytes_total, exact_names}
use Rattle.folder_core.proofs.PlainOpen.{find-there}
use Rattle.folder_db.proofs.Messages.{has-name, tied-name}

abbrev pub is_before : Name → FileRecord → Bool
is_before n r = is_lt (bytes_cmp r.name n)

lt-less : (r : Ordering) → is_lt r ≡ true → r ≡ Less
lt-less Less e = refl
lt-less Equal e = absurd (true≢false (sym e))
lt-less Greater e = absurd (true≢false (sym e))

below-at : (m : Name) (rs : List FileRecord) → T (below_all bytes_cmp m (map named rs)) → (j : ℕ) (d : FileRecord) → j < length rs → bytes_cmp m (slice_index_or rs j d).name ≡ Less
below-at m [] b j d short = absurd (omega arith)
below-at m (r ∷ rs) b zero d short = is_less _ (parts _ _ b).0
below-at m (r ∷ rs) b (suc j) d short = below-at m rs (parts _ _ b).1 j d (omega arith)

pub names-partitioned : (n : Name) (rs : List FileRecord) → NamesRise rs → IsPartitionedBy (is_before n) rs
names-partitioned n [] h i j d le short t = absurd (omega arith)
names-partitioned n (r ∷ rs) h zero zero d le short t = t
names-partitioned n (r ∷ rs) h zero (suc j) d le short t =
    ap is_lt (bytes_total.trans r.name (slice_index_or rs j d).name n (below-at r.name rs (passes _ (and_parts _ _ h).0) j d (omega arith)) (lt-less _ t))
names-partitioned n (r ∷ rs) h (suc i) zero d le short t = absurd (omega arith)
names-partitioned n (r ∷ rs) h (suc i) (suc j) d le short t = names-partitioned n rs (and_parts _ _ h).1 i j d (omega arith) (omega arith) t

prefix-is : {A : Type 0} (p : A → Bool) (xs : List A) (i : ℕ) → i ≤ length xs → AllWithin (λ y. p y ≡ true) xs 0 i → AllWithin (λ y. p y ≡ false) xs i (length xs) → prefix_len p xs ≡ i
prefix-is p [] zero le pass fail = refl
prefix-is p [] (suc i) le pass fail = absurd (omega arith)
prefix-is p (x ∷ xs) zero le pass fail = ap (λ b. cond b (1 + prefix_len p xs) 0) (fail 0 x (omega arith) (omega arith))
prefix-is p (x ∷ xs) (suc i) le pass fail =
    let rest = prefix-is p xs i (omega arith) (λ k d l s. pass (suc k) d (omega arith) (omega arith)) (λ k d l s. fail (suc k) d (omega arith) (omega arith)) in
    ap (λ b. cond b (1 + prefix_len p xs) 0) (pass 0 x (omega arith) (omega arith)) ∙ omega arith

firsts : (rs : List FileRecord) → map (λ e. e.0) (map named rs) ≡ map (λ r. r.name) rs
firsts [] = refl
firsts (r ∷ rs) = ap (λ ns. r.name ∷ ns) (firsts rs)

-- what is at the place of a name tells whether there is one
pub named-at : (n : Name) (rs : List FileRecord) → NamesRise rs → (place : ℕ) → place ≤ length rs → IsPartitionPoint (λ y. is_before n y ≡ true) (λ y. is_before n y ≡ false) rs place
    → (o : Option FileRecord) → o ≡ slice_get rs place → option_map_or (λ r. bytes_eq r.name n) o false ≡ list_any (λ r. bytes_eq r.name n) rs
named-at n rs h place le at o is =
    ap (λ x. option_map_or (λ r. bytes_eq r.name n) x false) (is ∙ ap (slice_get rs) (sym (prefix-is (is_before n) rs place le at.0 at.1)))
    ∙ by (slice_get rs (prefix_len (is_before n) rs))
    ∙ ap is_some (sym (find-there bytes_total exact_names named n rs (passes _ h)))
    ∙ is_some-find bytes_cmp n (map named rs)
    ∙ ap (list_any (eq_by_cmp bytes_cmp n)) (firsts rs)
    ∙ has-name n rs
  where
    here : (b : Bool) (x : FileRecord) → b ≡ is_some (cond b (Some x) None)
    here true x = refl
    here false x = refl

    by : (o : Option FileRecord) → option_map_or (λ r. bytes_eq r.name n) o false ≡ is_some (option_and_then (λ x. cond (eq_by_cmp bytes_cmp n x.name) (Some x) None) o)
    by None = refl
    by (Some x) = sym (tied-name n x.name) ∙ here (eq_by_cmp bytes_cmp n x.name) x

-- what `get` finds
pub records-got : (xs : List FileRecord) (i : ℕ) (r : Option (Bor FileRecord)) → (is_some r ≡ nat_lt i (length xs)) × IfSome r (λ x. x.now ≡ get_or xs i x.now) → option_copied r ≡ slice_get xs i
records-got xs i None h = sym (slice_get_past xs i (ltb-false i (length xs) (sym h.0)))
records-got xs i (Some x) h = sym (slice_get-get_or xs i x.now (ltb-true i (length xs) (sym h.0)) ∙ ap Some (sym h.1))
