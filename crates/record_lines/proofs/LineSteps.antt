-- Texts that loops append piece by piece to an old text.
use Rattle.std.proofs.Common.{◌≡◌, ℕ, List, [], ◌∷◌, ◌++◌, map, false, refl, ap, ◌∙◌, append_assoc}
use Rattle.std.specs.List.{flat_map, join_with_byte, list_any}
use Rattle.record_lines.specs.Lines.{escaped, is_escaped}
use Rattle.std.proofs.lemmas.List.{append-nil}
use Rattle.std.proofs.lemmas.Bool.{or_parts}

-- a text without escapes is written as it is
pub plain : (xs : List ℕ) → list_any is_escaped xs ≡ false → flat_map escaped xs ≡ xs
plain [] h = refl
plain (x ∷ xs) h =
    let apart = or_parts (is_escaped x) (list_any is_escaped xs) h in
    rw apart.0 (ap (λ v. x ∷ v) (plain xs apart.1))

joined_bare : {X : Type 0} (c : ℕ) (f : X → List ℕ) (x : X) (xs : List X)
    → f x ++ flat_map (λ y. c ∷ f y) xs ≡ join_with_byte c (map f (x ∷ xs))
joined_bare c f x [] = append-nil (f x)
joined_bare c f x (y ∷ ys) = ap (λ v. f x ++ (c ∷ v)) (joined_bare c f y ys)

-- the first piece, and each other after the byte
pub joined : {X : Type 0} (c : ℕ) (f : X → List ℕ) (old : List ℕ) (x : X) (xs : List X)
    → (old ++ f x) ++ flat_map (λ y. c ∷ f y) xs ≡ old ++ join_with_byte c (map f (x ∷ xs))
joined c f old x xs =
    append_assoc old (f x) (flat_map (λ y. c ∷ f y) xs) ∙ ap (λ v. old ++ v) (joined_bare c f x xs)
