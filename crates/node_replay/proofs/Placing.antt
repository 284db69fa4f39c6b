-- Where the last record of each name is, after one more.
use Rattle.std.proofs.Common.{◌≡◌, ℕ, zero, suc, Bool, true, false, List, [], ◌∷◌, ◌++◌, length, refl, sym, ap, ◌∙◌}
use Rattle.std.specs.Prelude.{bytes_eq, cond, find, Option, Some, None, option_map}
use Rattle.std.specs.BTreeMap.{BTreeMap, Updates}
use Rattle.std.specs.List.{slice_get}
use Rattle.std.proofs.lemmas.List.{reverse-append}
use Rattle.std.proofs.lemmas.Map.Text.{is_eq-slice_cmp}
use Rattle.folder_core.specs.Announced.{last_of}
use Rattle.folder_core.proofs.ListTests.{inside}
use Rattle.sync_record.specs.Devices.{bytes_cmp}
use Rattle.sync_record.specs.Records.{Name, FileRecord}
use Rattle.node_replay.specs.Places.{ArePlaces, place_at}

last-push : (n : Name) (rs : List FileRecord) (r : FileRecord) → last_of n (rs ++ r ∷ []) ≡ cond (bytes_eq r.name n) (Some r) (last_of n rs)
last-push n rs r = ap (find (λ (x : FileRecord). bytes_eq x.name n)) (reverse-append rs (r ∷ []))

here : {A : Type 0} (xs : List A) (x : A) → slice_get (xs ++ x ∷ []) (length xs) ≡ Some x
here [] x = refl
here (y ∷ ys) x = here ys x

there : {A : Type 0} (xs ys : List A) (i : ℕ) (x : A) → slice_get xs i ≡ Some x → slice_get (xs ++ ys) i ≡ Some x
there [] ys i x e = absurd (let f : None ≡ Some x = e in cc)
there (z ∷ zs) ys zero x e = e
there (z ∷ zs) ys (suc i) x e = there zs ys i x e

-- what is at a place stays there
stays : (rs : List FileRecord) (r : FileRecord) (o : Option ℕ) (l : Option FileRecord) → option_map (slice_get rs) o ≡ option_map Some l → option_map (slice_get (rs ++ r ∷ [])) o ≡ option_map Some l
stays rs r None l e = e
stays rs r (Some i) None e = absurd (let f : Some (slice_get rs i) ≡ None = e in cc)
stays rs r (Some i) (Some x) e = ap Some (there rs (r ∷ []) i x (inside (slice_get rs i) (Some x) e))

module _ (rs : List FileRecord) (old new : BTreeMap Name ℕ) (r : FileRecord) (name : Name) (place : ℕ) (is : name ≡ r.name) (at : place ≡ length rs) where
  at-name : (n : Name) (b : Bool) → bytes_eq r.name n ≡ b → option_map (slice_get rs) (place_at old n) ≡ option_map Some (last_of n rs)
      → option_map (slice_get (rs ++ r ∷ [])) (cond b (Some place) (place_at old n)) ≡ option_map Some (cond b (Some r) (last_of n rs))
  at-name n true e h = ap (λ i. Some (slice_get (rs ++ r ∷ []) i)) at ∙ ap Some (here rs r)
  at-name n false e h = stays rs r (place_at old n) (last_of n rs) h

  pub places-push : Updates bytes_cmp old new name (Some place) → ArePlaces rs (place_at old) → ArePlaces (rs ++ r ∷ []) (place_at new)
  places-push updates places n =
      ap (option_map (slice_get (rs ++ r ∷ []))) (updates.0 n ∙ ap (λ b. cond b (Some place) (place_at old n)) (is_eq-slice_cmp name n ∙ ap (λ m. bytes_eq m n) is))
      ∙ at-name n (bytes_eq r.name n) refl (places n)
      ∙ ap (option_map Some) (sym (last-push n rs r))

-- nothing is of a name without a place
pub no-place : (rs : List FileRecord) (at : Name → Option ℕ) (n : Name) → ArePlaces rs at → at n ≡ None → last_of n rs ≡ None
no-place rs at n places e = none (last_of n rs) (sym (places n) ∙ ap (option_map (slice_get rs)) e)
  where
    none : (o : Option FileRecord) → option_map Some o ≡ None → o ≡ None
    none None f = refl
    none (Some x) f = absurd (cc)

pub at-place : (rs : List FileRecord) (at : Name → Option ℕ) (n : Name) (i : ℕ) → ArePlaces rs at → at n ≡ Some i → slice_get rs i ≡ last_of n rs
at-place rs at n i places e = found (last_of n rs) (sym (ap (option_map (slice_get rs)) e) ∙ places n)
  where
    found : (o : Option FileRecord) → Some (slice_get rs i) ≡ option_map Some o → slice_get rs i ≡ o
    found None f = absurd (cc)
    found (Some x) f = inside (slice_get rs i) (Some x) f
