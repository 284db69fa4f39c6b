-- A list whose elements are written one after another.
use Rattle.std.proofs.Common.{◌≡◌, ◌≢◌, ◌⊎◌, inl, inr, subst, ◌<◌, ◌≤◌, ◌+◌, ◌∷◌, ◌∙◌, ℕ, zero, suc, List, [], Option, Some, None, arith, length, refl, set, sym, ap}
use Rattle.std.specs.List.{slice_get}
use Rattle.std.specs.Option.{option_map_or}
use Rattle.peer_link.specs.Told.{without_number}
use Rattle.peer_link.specs.declared.told.ToldFolder.{ToldFolder}
use Rattle.peer_reader.specs.declared.folder.ReaderFolder.{ReaderFolder}
use Rattle.std.proofs.lemmas.List.{length-set}
use Rattle.std.proofs.lemmas.Option.{same_Some}
use Rattle.std.proofs.lemmas.Bool.{cases_eq}

-- those below a place are written, the others are as they were
pub record IsSoFar {X : Type 0} (f : ℕ → X → X) (i : ℕ) (olds news : List X) : Type 0 where
  pub long : length news ≡ length olds
  pub written : (k : ℕ) (x : X) → k < i → slice_get olds k ≡ Some x → slice_get news k ≡ Some (f k x)
  pub left : (k : ℕ) → i ≤ k → slice_get news k ≡ slice_get olds k

pub set_other : {X : Type 0} (xs : List X) (i k : ℕ) (y : X) → k ≢ i → slice_get (set xs i y) k ≡ slice_get xs k
set_other [] i k y ne = refl
set_other (x ∷ xs) zero zero y ne = absurd (ne refl)
set_other (x ∷ xs) zero (suc k) y ne = refl
set_other (x ∷ xs) (suc i) zero y ne = refl
set_other (x ∷ xs) (suc i) (suc k) y ne = set_other xs i k y (λ e. ne (ap suc e))

pub set_same : {X : Type 0} (xs : List X) (i : ℕ) (y : X) → i < length xs → slice_get (set xs i y) i ≡ Some y
set_same [] i y lt = absurd (omega arith)
set_same (x ∷ xs) zero y lt = refl
set_same (x ∷ xs) (suc i) y lt = set_same xs i y (omega arith)

module _ {X : Type 0} (f : ℕ → X → X) (olds : List X) where
  pub so_far_begins : IsSoFar f 0 olds olds
  so_far_begins = record { long = refl; written = λ k x lt is. absurd (omega arith); left = λ k le. refl }

  -- the next one is written
  pub so_far_next : (i : ℕ) (news : List X) (x : X) → IsSoFar f i olds news → slice_get news i ≡ Some x → i < length news → IsSoFar f (i + 1) olds (set news i (f i x))
  so_far_next i news x s is lt = record {
    long = length-set news i (f i x) ∙ s.long;
    written = λ k y below was. elim (cases_eq k i) [
      | inl e ↦ subst (λ (n : ℕ). slice_get (set news i (f i x)) n ≡ Some (f n y)) (sym e)
          (set_same news i (f i x) lt ∙ ap (λ (z : X). Some (f i z)) (same_Some _ _ (sym is ∙ s.left i (omega arith) ∙ subst (λ (n : ℕ). slice_get olds n ≡ Some y) e was)))
      | inr ne ↦ set_other news i k (f i x) ne ∙ s.written k y (omega (arith, ne)) was
    ];
    left = λ k le. set_other news i k (f i x) (λ e. omega (arith, e)) ∙ s.left k (omega arith);
  }

-- the folder at a place without its number, if the one at the same place lost records
abbrev pub without_at : {W : Type 0} → List ToldFolder → ℕ → ReaderFolder W → ReaderFolder W
without_at told k f = option_map_or (λ (t : ToldFolder). without_number t f) (slice_get told k) f
