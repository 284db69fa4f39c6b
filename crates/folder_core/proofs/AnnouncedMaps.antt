-- What a map has after an insert, and after a removal.
use Rattle.std.proofs.Common.{◌≡◌, ◌≢◌, Bool, true, false, refl, sym, ap, ◌∙◌, ◌⊎◌, inl, inr}
use Rattle.std.specs.Prelude.{cond, Some, None}
use Rattle.std.specs.Cmp.{IsTotalOrder, Equal-is, tied_itself}
use Rattle.std.specs.declared.cmp.Ordering.{Ordering}
use Rattle.std.specs.FinMap.{FinMap, IsAntisymmetric, get, insert, remove, get-insert, get-remove, same_map}
use Rattle.std.specs.Ordering.{eq_by_cmp, is_eq}
use Rattle.std.proofs.lemmas.Bool.{true≢false, false_from_ne_true}
use Rattle.folder_core.proofs.ListTests.{inside}

module _ {K X : Type 0} {R : K → K → Ordering} (o : IsTotalOrder R) (same : IsAntisymmetric R) where
  insert_by : (m : FinMap R X) (k q : K) (v w : X) (b : Bool) → eq_by_cmp R q k ≡ b → cond b (Some v) (get m q) ≡ Some w → ((q ≡ k) × (v ≡ w)) ⊎ (get m q ≡ Some w)
  insert_by m k q v w true t e = inl (same q k ((Equal-is (R q k)).0 t), inside v w e)
  insert_by m k q v w false t e = inr e

  pub insert_split : (m : FinMap R X) (k q : K) (v w : X) → get (insert m k v) q ≡ Some w → ((q ≡ k) × (v ≡ w)) ⊎ (get m q ≡ Some w)
  insert_split m k q v w e = insert_by m k q v w (eq_by_cmp R q k) refl (sym (get-insert o m k v q) ∙ e)

  apart_by : (m : FinMap R X) (k q : K) (v w : X) (b : Bool) → eq_by_cmp R q k ≡ b → cond b (Some v) (get m q) ≡ Some w → ((q ≡ k) × (v ≡ w)) ⊎ ((q ≢ k) × (get m q ≡ Some w))
  apart_by m k q v w true t e = inl (same q k ((Equal-is (R q k)).0 t), inside v w e)
  apart_by m k q v w false t e = inr (λ s. true≢false (sym (ap is_eq (tied_itself o k)) ∙ ap (λ x. eq_by_cmp R x k) (sym s) ∙ t), e)

  pub insert_apart : (m : FinMap R X) (k q : K) (v w : X) → get (insert m k v) q ≡ Some w → ((q ≡ k) × (v ≡ w)) ⊎ ((q ≢ k) × (get m q ≡ Some w))
  insert_apart m k q v w e = apart_by m k q v w (eq_by_cmp R q k) refl (sym (get-insert o m k v q) ∙ e)

  pub insert_other : (m : FinMap R X) (k q : K) (v : X) → q ≢ k → get (insert m k v) q ≡ get m q
  insert_other m k q v other =
      get-insert o m k v q ∙ ap (λ b. cond b (Some v) (get m q)) (false_from_ne_true (eq_by_cmp R q k) (λ t. other (same q k ((Equal-is (R q k)).0 t))))

  pub insert_here : (m : FinMap R X) (k : K) (v : X) → get (insert m k v) k ≡ Some v
  insert_here m k v = get-insert o m k v k ∙ ap (λ r. cond (is_eq r) (Some v) (get m k)) (tied_itself o k)

  remove_by : (m : FinMap R X) (k q : K) (w : X) (b : Bool) → eq_by_cmp R q k ≡ b → cond b None (get m q) ≡ Some w → (q ≢ k) × (get m q ≡ Some w)
  remove_by m k q w true t e = absurd (let f : None ≡ Some w = e in cc)
  remove_by m k q w false t e = (λ s. true≢false (sym (ap is_eq (tied_itself o k)) ∙ ap (λ x. eq_by_cmp R x k) (sym s) ∙ t), e)

  pub remove_split : (m : FinMap R X) (k q : K) (w : X) → get (remove m k) q ≡ Some w → (q ≢ k) × (get m q ≡ Some w)
  remove_split m k q w e = remove_by m k q w (eq_by_cmp R q k) refl (sym (get-remove o m k q) ∙ e)

  pub remove_other : (m : FinMap R X) (k q : K) → q ≢ k → get (remove m k) q ≡ get m q
  remove_other m k q other =
      get-remove o m k q ∙ ap (λ b. cond b None (get m q)) (false_from_ne_true (eq_by_cmp R q k) (λ t. other (same q k ((Equal-is (R q k)).0 t))))

  pub remove_here : (m : FinMap R X) (k : K) → get (remove m k) k ≡ None
  remove_here m k = get-remove o m k k ∙ ap (λ r. cond (is_eq r) None (get m k)) (tied_itself o k)

  removed_by : (m : FinMap R X) (k q : K) (v : X) (b : Bool) → get m k ≡ None → eq_by_cmp R q k ≡ b → cond b None (get (insert m k v) q) ≡ get m q
  removed_by m k q v true free t = sym (ap (get m) (same q k ((Equal-is (R q k)).0 t)) ∙ free)
  removed_by m k q v false free t = get-insert o m k v q ∙ ap (λ b. cond b (Some v) (get m q)) t

  -- what was put where nothing was is taken out again
  pub remove_inserted : (m : FinMap R X) (k : K) (v : X) → get m k ≡ None → remove (insert m k v) k ≡ m
  remove_inserted m k v free =
      same_map o same (remove (insert m k v) k) m (λ q. get-remove o (insert m k v) k q ∙ removed_by m k q v (eq_by_cmp R q k) free refl)
