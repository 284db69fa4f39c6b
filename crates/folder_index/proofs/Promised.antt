-- The names with room that is promised, as groups change.
use Rattle.std.proofs.Common.{◌≡◌, Bool, true, false, [], ◌∷◌, refl, sym, ap, subst, ◌∙◌}
use Rattle.std.specs.Prelude.{◌&&◌, ◌||◌, cond, not, Option, Some, None}
use Rattle.std.specs.BTreeMap.{is_at}
use Rattle.std.specs.Cmp.{Equal-is, eq_by_cmp_equiv}
use Rattle.std.specs.FinSet.{contains, contains-empty, contains-insert, contains-remove, insert, remove, same_set}
use Rattle.std.specs.List.{AllByRecursion}
use Rattle.std.specs.Map.{keys_of, lookup}
use Rattle.std.specs.Option.{option_map_or}
use Rattle.std.specs.Ordering.{eq_by_cmp, is_eq}
use Rattle.std.specs.declared.cmp.Ordering.TheVariants.{Less}
use Rattle.std.proofs.lemmas.Map.Keys.{sorted_head, sorted_tail}
use Rattle.sync_record.specs.Devices.{bytes_cmp}
use Rattle.sync_record.specs.Records.{Name}
use Rattle.folder_core.proofs.Orders.{bytes_total, exact_names}
use Rattle.folder_index.specs.declared.group.Group.{Group}
use Rattle.folder_index.specs.Groups.{promised_in}
use Rattle.folder_index.proofs.Listed.{Groups, Sorted, at_same}
use Rattle.folder_index.proofs.Written.{HasAt}

abbrev pub is_promised : Group → Bool
is_promised g = g.is_promised

abbrev pub promise_of : Option Group → Bool
promise_of o = option_map_or is_promised o false

abbrev pub promised_at_name : Name → Groups → Bool
promised_at_name n gs = promise_of (lookup (is_at (bytes_cmp n)) gs)

-- a name before all others is none of theirs
none_below : (n : Name) (gs : Groups) → AllByRecursion (λ m. bytes_cmp n m ≡ Less) (keys_of gs) → lookup (is_at (bytes_cmp n)) gs ≡ None
none_below n [] all = refl
none_below n (h ∷ gs) all = ap (λ r. cond (is_eq r) (Some h.1) (lookup (is_at (bytes_cmp n)) gs)) all.0 ∙ none_below n gs all.1

one_more : (h : Name × Group) (gs : Groups) (n : Name) → Sorted (h ∷ gs) → contains (promised_in gs) n ≡ promised_at_name n gs → contains (promised_in (h ∷ gs)) n ≡ promised_at_name n (h ∷ gs)
one_more h gs n s rest =
    put h.1.is_promised
    ∙ elim (is_at (bytes_cmp n) h.0) as (λ t. is_at (bytes_cmp n) h.0 ≡ t → cond h.1.is_promised (t || contains (promised_in gs) n) (contains (promised_in gs) n) ≡ promise_of (cond t (Some h.1) (lookup (is_at (bytes_cmp n)) gs))) [
      | true ↦ λ t. here h.1.is_promised (rest ∙ ap promise_of (none_below n gs (subst (λ k. AllByRecursion (λ m. bytes_cmp k m ≡ Less) (keys_of gs)) (sym (at_same n h.0 t)) (sorted_head bytes_cmp h.0 (keys_of gs) s))))
      | false ↦ λ t. there h.1.is_promised ∙ rest
    ] refl
  where
    put : (b : Bool) → contains (cond b (insert (promised_in gs) h.0) (promised_in gs)) n ≡ cond b (eq_by_cmp bytes_cmp n h.0 || contains (promised_in gs) n) (contains (promised_in gs) n)
    put true = contains-insert bytes_total (promised_in gs) h.0 n
    put false = refl

    here : (b : Bool) → contains (promised_in gs) n ≡ false → cond b true (contains (promised_in gs) n) ≡ b
    here true none = refl
    here false none = none

    there : (b : Bool) → cond b (contains (promised_in gs) n) (contains (promised_in gs) n) ≡ contains (promised_in gs) n
    there true = refl
    there false = refl

pub promised_at : (gs : Groups) → Sorted gs → (n : Name) → contains (promised_in gs) n ≡ promised_at_name n gs
promised_at [] s n = contains-empty bytes_cmp n
promised_at (h ∷ gs) s n = one_more h gs n s (promised_at gs (sorted_tail bytes_cmp h.0 (keys_of gs) s) n)

-- a name that isn't promised
pub none_taken : (gs : Groups) → Sorted gs → (n : Name) → promised_at_name n gs ≡ false → promised_in gs ≡ remove (promised_in gs) n
none_taken gs s n none = same_set bytes_total exact_names (promised_in gs) (remove (promised_in gs) n) (λ m.
    by m (eq_by_cmp bytes_cmp m n) refl ∙ sym (contains-remove bytes_total (promised_in gs) n m))
  where
    by : (m : Name) (b : Bool) → eq_by_cmp bytes_cmp m n ≡ b → contains (promised_in gs) m ≡ (not b && contains (promised_in gs) m)
    by m true e = ap (contains (promised_in gs)) (exact_names m n ((Equal-is (bytes_cmp m n)).0 e)) ∙ promised_at gs s n ∙ none
    by m false e = refl

module _ (gs new : Groups) (s : Sorted gs) (t : Sorted new) (n : Name) (o : Option Group) (at : HasAt n o gs new) where
  moved_at : (b : Bool) (x y : Option Group) → promise_of (cond b x y) ≡ cond b (promise_of x) (promise_of y)
  moved_at true x y = refl
  moved_at false x y = refl

  at_name : (m : Name) → contains (promised_in new) m ≡ cond (is_at (bytes_cmp n) m) (promise_of o) (contains (promised_in gs) m)
  at_name m =
      promised_at new t m ∙ ap promise_of (at m) ∙ moved_at (is_at (bytes_cmp n) m) o (lookup (is_at (bytes_cmp m)) gs)
      ∙ ap (cond (is_at (bytes_cmp n) m) (promise_of o)) (sym (promised_at gs s m))

  turned : (m : Name) → is_at (bytes_cmp n) m ≡ eq_by_cmp bytes_cmp m n
  turned m = (eq_by_cmp_equiv bytes_total).symm n m

  as_before : (m : Name) (b : Bool) → is_at (bytes_cmp n) m ≡ b → promise_of o ≡ promised_at_name n gs → cond b (promise_of o) (contains (promised_in gs) m) ≡ contains (promised_in gs) m
  as_before m true e same = same ∙ sym (promised_at gs s n) ∙ ap (contains (promised_in gs)) (at_same n m e)
  as_before m false e same = refl

  -- the promises stay where the name's does
  pub promises_kept : promise_of o ≡ promised_at_name n gs → promised_in new ≡ promised_in gs
  promises_kept same = same_set bytes_total exact_names (promised_in new) (promised_in gs) (λ m. at_name m ∙ as_before m (is_at (bytes_cmp n) m) refl same)

  put_one : (b c : Bool) → cond b true c ≡ (b || c)
  put_one true c = refl
  put_one false c = refl

  -- one more
  pub promise_put : promise_of o ≡ true → promised_in new ≡ insert (promised_in gs) n
  promise_put made = same_set bytes_total exact_names (promised_in new) (insert (promised_in gs) n) (λ m.
      at_name m ∙ ap (λ p. cond (is_at (bytes_cmp n) m) p (contains (promised_in gs) m)) made ∙ put_one (is_at (bytes_cmp n) m) (contains (promised_in gs) m)
      ∙ ap (λ b. b || contains (promised_in gs) m) (turned m) ∙ sym (contains-insert bytes_total (promised_in gs) n m))

  take_one : (b c : Bool) → cond b false c ≡ (not b && c)
  take_one true c = refl
  take_one false c = refl

  -- one fewer
  pub promise_taken : promise_of o ≡ false → promised_in new ≡ remove (promised_in gs) n
  promise_taken none = same_set bytes_total exact_names (promised_in new) (remove (promised_in gs) n) (λ m.
      at_name m ∙ ap (λ p. cond (is_at (bytes_cmp n) m) p (contains (promised_in gs) m)) none ∙ take_one (is_at (bytes_cmp n) m) (contains (promised_in gs) m)
      ∙ ap (λ b. not b && contains (promised_in gs) m) (turned m) ∙ sym (contains-remove bytes_total (promised_in gs) n m))

  -- after a record is put
  pub promises_set : (was is : Group) (own : Bool) → lookup (is_at (bytes_cmp n)) gs ≡ Some was → o ≡ Some is → is.is_promised ≡ (was.is_promised && not own) → promised_in new ≡ cond own (remove (promised_in gs) n) (promised_in gs)
  promises_set was is true found put made = promise_taken (ap promise_of put ∙ made ∙ none_left was.is_promised)
    where
      none_left : (b : Bool) → (b && false) ≡ false
      none_left true = refl
      none_left false = refl
  promises_set was is false found put made = promises_kept (ap promise_of put ∙ made ∙ all_left was.is_promised ∙ sym (ap promise_of found))
    where
      all_left : (b : Bool) → (b && true) ≡ b
      all_left true = refl
      all_left false = refl
