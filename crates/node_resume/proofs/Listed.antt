-- Folders that are stored one by one.
use Rattle.std.proofs.Common.{◌≡◌, ℕ, zero, suc, ◌+◌, ◌<◌, ◌≤◌, List, [], ◌∷◌, ◌++◌, length, get_or, take, refl, sym, ap, ◌∙◌, arith}
use Rattle.std.specs.Prelude.{map, min}
use Rattle.std.specs.List.{enumerate_from, zip}
use Rattle.std.proofs.lemmas.List.{length-append, length-map, length-take-le, map-append, take_more}
use Rattle.std.proofs.lemmas.List.FromFn.{length-enumerate_from}
use Rattle.std.proofs.lemmas.Slice.Zip.{length-zip}

pub enumerate-push : {A : Type 0} (n : ℕ) (xs : List A) (x : A) → enumerate_from n (xs ++ x ∷ []) ≡ enumerate_from n xs ++ (n + length xs, x) ∷ []
enumerate-push n [] x = let e : n ≡ n + 0 = omega arith in ap (λ k. (k, x) ∷ []) e
enumerate-push n (y ∷ xs) x =
    let e : n + 1 + length xs ≡ n + length (y ∷ xs) = omega arith in
    ap (λ l. (n, y) ∷ l) (enumerate-push (n + 1) xs x ∙ ap (λ k. enumerate_from (n + 1) xs ++ (k, x) ∷ []) e)

-- one more element of a list, with its place
pub each-push : {A D : Type 0} (h : ℕ × A → D) (xs : List A) (i : ℕ) (x : A) → i < length xs → x ≡ get_or xs i x
    → map h (enumerate_from 0 (take (i + 1) xs)) ≡ map h (enumerate_from 0 (take i xs)) ++ h (i, x) ∷ []
each-push {A} {D} h xs i x lt is =
    let long : 0 + length (take i xs) ≡ i = let l = length-take-le i xs (omega arith) in omega arith in
    ap (λ l. map h (enumerate_from 0 l)) (take_more xs i x lt ∙ ap (λ y. take i xs ++ y ∷ []) (sym is))
    ∙ ap (map h) (enumerate-push 0 (take i xs) x ∙ ap (λ k. enumerate_from 0 (take i xs) ++ (k, x) ∷ []) long)
    ∙ map-append h (enumerate_from 0 (take i xs)) ((i, x) ∷ [])

-- what comes after some elements is at their number
pub comes-below : {A : Type 0} (all xs : List A) (y : A) (ys : List A) → all ≡ xs ++ y ∷ ys → length xs < length all
comes-below all xs y ys e = let a : length all ≡ length xs + suc (length ys) = ap length e ∙ length-append xs (y ∷ ys) in omega arith

zip-none : {A B : Type 0} (xs : List A) → zip xs (let ys : List B = [] in ys) ≡ []
zip-none [] = refl
zip-none (x ∷ xs) = refl

zip-push : {A B : Type 0} (xs : List A) (ys : List B) (x : A) (y : B) → length ys < length xs → x ≡ get_or xs (length ys) x → zip xs (ys ++ y ∷ []) ≡ zip xs ys ++ (x, y) ∷ []
zip-push [] ys x y lt is = absurd (omega arith)
zip-push (w ∷ xs) [] x y lt is = λ j. (sym is j, y) ∷ zip-none xs j
zip-push (w ∷ xs) (z ∷ ys) x y lt is = ap (λ l. (w, z) ∷ l) (zip-push xs ys x y (omega arith) is)

module _ {A B C D : Type 0} (f : ℕ × (A × (B × C)) → D) (xs : List A) (ys : List B) where
  abbrev pub all : List C → List D
  all zs = map f (enumerate_from 0 (zip xs (zip ys zs)))

  pub all-push : (zs : List C) (x : A) (y : B) (z : C) → length zs < length xs → length zs < length ys → x ≡ get_or xs (length zs) x → y ≡ get_or ys (length zs) y → all (zs ++ z ∷ []) ≡ all zs ++ f (length zs, (x, (y, z))) ∷ []
  all-push zs x y z lx ly ex ey =
      let inner : length (zip ys zs) ≡ length zs = let a = length-zip ys zs in omega arith in
      let outer : length (zip xs (zip ys zs)) ≡ length zs = let a = length-zip xs (zip ys zs) in omega arith in
      let at : x ≡ get_or xs (length (zip ys zs)) x = ex ∙ ap (λ k. get_or xs k x) (sym inner) in
      ap (λ l. map f (enumerate_from 0 (zip xs l))) (zip-push ys zs y z ly ey)
      ∙ ap (λ l. map f (enumerate_from 0 l)) (zip-push xs (zip ys zs) x (y, z) (omega arith) at)
      ∙ ap (map f) (enumerate-push 0 (zip xs (zip ys zs)) (x, (y, z)) ∙ ap (λ k. enumerate_from 0 (zip xs (zip ys zs)) ++ (k, (x, (y, z))) ∷ []) (let e : 0 + length (zip xs (zip ys zs)) ≡ length zs = omega arith in e))
      ∙ map-append f (enumerate_from 0 (zip xs (zip ys zs))) ((length zs, (x, (y, z))) ∷ [])

  pub all-long : (zs : List C) → length zs ≤ length xs → length zs ≤ length ys → length (all zs) ≡ length zs
  all-long zs lx ly =
      let a = length-zip xs (zip ys zs) in
      let b = length-zip ys zs in
      let e : length (zip xs (zip ys zs)) ≡ length zs = omega arith in
      length-map (enumerate_from 0 (zip xs (zip ys zs))) f ∙ length-enumerate_from 0 (zip xs (zip ys zs)) ∙ e

  pub place-of : (zs : List C) (ds : List D) → ds ≡ all zs → length zs ≤ length xs → length zs ≤ length ys → length ds ≡ length zs
  place-of zs ds e lx ly = ap length e ∙ all-long zs lx ly

  pub all-none : (let zs : List C = [] in all zs) ≡ []
  all-none = ap (λ l. map f (enumerate_from 0 (zip xs l))) (zip-none ys) ∙ ap (λ l. map f (enumerate_from 0 l)) (zip-none xs)
