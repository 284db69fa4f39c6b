-- The tests of internal names as facts.
use Rattle.std.proofs.Common.{◌≡◌, ◌⊎◌, ℕ, ◌+◌, ◌-◌, ◌≤◌, Bool, true, false, ◌&&◌, ◌||◌, List, ◌++◌, length, take, drop, refl, ap, ◌∙◌, arith, inl, inr, length-append}
use Rattle.std.specs.Prelude.{codes}
use Rattle.std.specs.Bool.{Decides}
use Rattle.std.proofs.Math.Seq.{take-append-add}
use Rattle.std.proofs.lemmas.Bool.{leb-true, le-leb, and_parts, and_from}
use Rattle.std.proofs.lemmas.Bool.Decides.{Decides-or, Decides-eqb, Decides-like}
use Rattle.std.proofs.lemmas.Slice.Eq.{bytes_eq-Decides, starts_is, ends_is}
use Rattle.sync_names.specs.Components.{components, first_of, last_component}
use Rattle.sync_names.specs.Internal.{is_reserved, is_temporary, is_internal, IsReserved, IsTemporary, IsInternal}

pub to_right : {A B C : Type 0} → (A ⊎ B) ⊎ C → A ⊎ B ⊎ C
to_right (inl (inl a)) = inl a
to_right (inl (inr b)) = inr (inl b)
to_right (inr c) = inr (inr c)

pub to_left : {A B C : Type 0} → A ⊎ B ⊎ C → (A ⊎ B) ⊎ C
to_left (inl a) = inl (inl a)
to_left (inr (inl b)) = inl (inr b)
to_left (inr (inr c)) = inr c

pub Decides-reserved : (component : List ℕ) → Decides (is_reserved component) (IsReserved component)
Decides-reserved component =
    Decides-like _ to_right to_left (Decides-or _ _ (Decides-or _ _ (bytes_eq-Decides component (codes ".stfolder")) (bytes_eq-Decides component (codes ".stignore"))) (bytes_eq-Decides component (codes ".stversions")))

-- a list that begins with p and ends with t, and is long enough for both
middle_of : (c p t : List ℕ) → length p + length t ≤ length c → c ≡ p ++ drop (length p) c → c ≡ take (length c - length t) c ++ t → c ≡ p ++ take (length c - length t - length p) (drop (length p) c) ++ t
middle_of c p t h begins ends =
    let len : length c - length t ≡ length p + (length c - length t - length p) = omega arith in
    let front : take (length c - length t) c ≡ p ++ take (length c - length t - length p) (drop (length p) c) =
    ap (λ (l : List ℕ). take (length c - length t) l) begins ∙ ap (λ (n : ℕ). take n (p ++ drop (length p) c)) len ∙ take-append-add p (drop (length p) c) (length c - length t - length p) in
    ends ∙ ap (λ (l : List ℕ). l ++ t) front

pub temporary-middle : (component : List ℕ) → is_temporary component ≡ true → IsTemporary component
temporary-middle component test =
    let outer = and_parts _ _ test in
    let inner = and_parts _ _ outer.0 in
    let long = leb-true 15 (length component) inner.0 in
    let begins = (starts_is Decides-eqb component (codes ".syncthing.") _ refl).0 inner.1 in
    let ends = (ends_is Decides-eqb component (codes ".tmp") _ refl).0 outer.1 in
    (take (length component - 4 - 11) (drop 11 component), middle_of component (codes ".syncthing.") (codes ".tmp") long begins ends)

pub temporary_length : (middle : List ℕ) → 15 ≤ length (codes ".syncthing." ++ middle ++ codes ".tmp")
temporary_length middle = omega (arith, length-append middle (codes ".tmp"))

pub temporary-from : (component middle : List ℕ) → component ≡ codes ".syncthing." ++ middle ++ codes ".tmp" → is_temporary component ≡ true
temporary-from component middle e =
    let long : 15 ≤ length component = rw e (temporary_length middle) in
    let begins = (starts_is Decides-eqb component (codes ".syncthing.") _ refl).1 (middle ++ codes ".tmp") e in
    let ends = (ends_is Decides-eqb component (codes ".tmp") _ refl).1 (codes ".syncthing." ++ middle) e in
    and_from _ _ (and_from _ _ (le-leb 15 (length component) long) begins) ends

pub Decides-temporary : (component : List ℕ) → Decides (is_temporary component) (IsTemporary component)
Decides-temporary component = (temporary-middle component, λ m. temporary-from component m.0 m.1)

pub Decides-internal : (text : List ℕ) → Decides (is_internal text) (IsInternal text)
Decides-internal text =
    Decides-or _ _ (Decides-reserved (first_of (components text))) (Decides-temporary (last_component text))

pub three : (r a b c : Bool) → a ≡ true → b ≡ true → r ≡ c → r ≡ (a && b && c)
three r a b c x y e = rw (x, y) e

pub or_second : (r a b : Bool) → a ≡ false → r ≡ b → r ≡ (a || b)
or_second r a b x e = rw x e
