-- What stands ready of the open pulls, as the list of these changes.
use Rattle.std.proofs.Common.{◌≡◌, ℕ, zero, suc, false, List, [], ◌∷◌, refl, sym, ap, ◌∙◌}
use Rattle.std.specs.Prelude.{Option, None, Result, Ok, Err, cond, is_err, is_ok, map, slice_set}
use Rattle.std.specs.List.{insert, remove}
use Rattle.std.proofs.lemmas.Bool.{true≢false}
use Rattle.sync_record.specs.Records.{FileRecord}
use Rattle.folder_core.specs.declared.plain.pull.OpenPull.{OpenPull}
use Rattle.folder_db.specs.Indexed.{ready_of}

module _ {A B : Type 0} (f : A → B) where
  pub map-insert : (xs : List A) (i : ℕ) (x : A) → map f (insert xs i x) ≡ insert (map f xs) i (f x)
  map-insert [] zero x = refl
  map-insert [] (suc i) x = refl
  map-insert (y ∷ xs) zero x = refl
  map-insert (y ∷ xs) (suc i) x = ap (λ ys. f y ∷ ys) (map-insert xs i x)

  pub map-remove : (xs : List A) (i : ℕ) → map f (remove xs i) ≡ remove (map f xs) i
  map-remove [] zero = refl
  map-remove [] (suc i) = refl
  map-remove (y ∷ xs) zero = refl
  map-remove (y ∷ xs) (suc i) = ap (λ ys. f y ∷ ys) (map-remove xs i)

  pub map-slice_set : (xs : List A) (i : ℕ) (x : A) → map f (slice_set xs i x) ≡ slice_set (map f xs) i (f x)
  map-slice_set [] zero x = refl
  map-slice_set [] (suc i) x = refl
  map-slice_set (y ∷ xs) zero x = refl
  map-slice_set (y ∷ xs) (suc i) x = ap (λ ys. f y ∷ ys) (map-slice_set xs i x)

-- one more pull, of which nothing stands ready
pub more-copies : (i : ℕ) (p : OpenPull) (ps new : List OpenPull) (copies copied : List (Option FileRecord)) (place : ℕ) → new ≡ insert ps i p → p.ready ≡ None → copies ≡ ready_of ps → place ≡ i → copied ≡ insert copies place None → copied ≡ ready_of new
more-copies i p ps new copies copied place put none are at is =
    is ∙ (λ k. insert (are k) (at k) (sym none k)) ∙ sym (map-insert (λ (q : OpenPull). q.ready) ps i p) ∙ ap ready_of (sym put)

-- what a vector has after an insert that did not fail
pub inserted : {A E X : Type 0} (r : Result A E) (xs ys zs : List X) → is_err r ≡ false → zs ≡ cond (is_ok r) xs ys → zs ≡ xs
inserted (Ok x) xs ys zs e is = is
inserted (Err x) xs ys zs e is = absurd (true≢false e)
