-- A text of good components leads to them, below any folder.
use Rattle.std.proofs.Common.{◌≡◌, ℕ, ◌||◌, false, cond, nat_eq, List, [], ◌∷◌, ◌++◌, take, refl, sym, ap, ◌∙◌, arith, append_assoc, append-nil, inl, inr}
use Rattle.std.specs.Prelude.{codes, bytes_eq}
use Rattle.std.specs.List.{All, starts_with}
use Rattle.std.proofs.lemmas.Bool.{cond-false, or_from, false_from_ne_true}
use Rattle.std.proofs.lemmas.List.Elements.{All-head, All-tail, All-take}
use Rattle.std.proofs.lemmas.Slice.Eq.{bytes_eq-Decides}
use Rattle.sync_names.specs.Components.{components, all_but_last}
use Rattle.sync_names.specs.Safe.{IsBadComponent, IsAbsolute}
use Rattle.sync_names.specs.Walk.{step, walk, leads_to}
use Rattle.sync_names.proofs.RefusalLemmas.{Decides-absolute}

abbrev pub IsGood : List ℕ → Type 0
IsGood component = ¬ (IsBadComponent component)

differs : (xs ys : List ℕ) → ¬ (xs ≡ ys) → bytes_eq xs ys ≡ false
differs xs ys h = false_from_ne_true (bytes_eq xs ys) (λ t. h ((bytes_eq-Decides xs ys).0 t))

step-good : (at : List (List ℕ)) (component : List ℕ) → IsGood component → step at component ≡ at ++ component ∷ []
step-good at component good =
    let empty = differs component [] (λ e. good (inl e)) in
    let here = differs component (codes ".") (λ e. good (inr (inl e))) in
    let up = differs component (codes "..") (λ e. good (inr (inr e))) in
    cond-false (bytes_eq component [] || bytes_eq component (codes ".")) at (cond (bytes_eq component (codes "..")) (all_but_last at) (at ++ component ∷ [])) (or_from _ _ empty here)
    ∙ cond-false (bytes_eq component (codes "..")) (all_but_last at) (at ++ component ∷ []) up

pub walk-good : (at parts : List (List ℕ)) → All IsGood parts → walk at parts ≡ at ++ parts
walk-good at [] good = sym (append-nil at)
walk-good at (part ∷ parts) good =
    ap (λ (l : List (List ℕ)). walk l parts) (step-good at part (All-head IsGood part parts good))
    ∙ walk-good (at ++ part ∷ []) parts (All-tail IsGood part parts good)
    ∙ append_assoc at (part ∷ []) parts

pub not_absolute : (text : List ℕ) → All IsGood (components text) → ¬ (IsAbsolute text)
not_absolute text good absolute =
    let parts : components text ≡ [] ∷ components absolute.0 = ap components absolute.1 in
    (rw parts at good) 0 [] (omega arith) (inl refl)

pub leads_to-good : (folder : List (List ℕ)) (text : List ℕ) → All IsGood (components text) → leads_to folder text ≡ folder ++ components text
leads_to-good folder text good =
    let relative : starts_with nat_eq text (codes "/") ≡ false = false_from_ne_true (starts_with nat_eq text (codes "/")) (λ t. not_absolute text good ((Decides-absolute text).0 t)) in
    ap (λ (l : List (List ℕ)). walk l (components text)) (cond-false (starts_with nat_eq text (codes "/")) [] folder relative)
    ∙ walk-good folder (components text) good

pub walk-beginning : (folder : List (List ℕ)) (text : List ℕ) (n : ℕ) → All IsGood (components text) → walk folder (take n (components text)) ≡ folder ++ take n (components text)
walk-beginning folder text n good =
    walk-good folder (take n (components text)) (All-take IsGood n (components text) good)
