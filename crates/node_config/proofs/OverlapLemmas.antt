-- The first two paths of which one lies within the other, folder by folder.
use Rattle.std.proofs.Common.{◌≡◌, ◌↔◌, ◌∙◌, ◌+◌, ◌++◌, ◌∷◌, ◌<◌, ◌&&◌, ℕ, true, List, [], Option, Some, None, take, drop, drop-cons, get_or, length, length-append, suc, sym, ap, refl, arith}
use Rattle.std.specs.Bool.{Decides}
use Rattle.std.specs.Prelude.{slice_get}
use Rattle.std.proofs.Math.Seq.{get_or-append_seam}
use Rattle.std.proofs.lemmas.Bool.{false≢true, and_parts, and_from}
use Rattle.std.proofs.lemmas.Bool.Decides.{Decides-or, Decides-eqb}
use Rattle.std.proofs.lemmas.Option.{slice_get_within, get_or_from_slice_get, slice_get-get_or}
use Rattle.std.proofs.lemmas.Slice.Eq.{bytes_eq-Decides, starts_is}
use Rattle.std.specs.List.{position, starts_with}
use Rattle.std.specs.Prelude.{nat_eq}
use Rattle.std.proofs.lemmas.List.{take_more}
use Rattle.node_config.specs.Overlaps.{IsWithin, are_within, first_nested, is_slash, is_within, or_else, stem, with_earlier}
use Rattle.node_config.specs.declared.overlap.Overlap.{Overlap}

-- what a folder and those before it come to
abbrev pub met : List (List ℕ) → ℕ → List ℕ → Option Overlap
met fs i x = with_earlier (take i fs) x (position (are_within x) (take i fs))

-- the next folder
pub next : (fs : List (List ℕ)) (i : ℕ) (x : List ℕ) → i < length fs → get_or fs i x ≡ x
    → first_nested (take i fs) (drop i fs) ≡ or_else (met fs i x) (first_nested (take (i + 1) fs) (drop (i + 1) fs))
next fs i x h at =
    let s : suc i ≡ i + 1 = omega arith in
    let left : drop i fs ≡ x ∷ drop (i + 1) fs = drop-cons fs i x h ∙ ap (λ y. y ∷ drop (suc i) fs) at ∙ ap (λ k. x ∷ drop k fs) s in
    let more : take (i + 1) fs ≡ take i fs ++ x ∷ [] = take_more fs i x h ∙ ap (λ y. take i fs ++ y ∷ []) at in
    ap (first_nested (take i fs)) left ∙ ap (λ t. or_else (met fs i x) (first_nested t (drop (i + 1) fs))) (sym more)

-- ---- a path that goes on after another

slash_is : (o : Option ℕ) → is_slash o ≡ true → o ≡ Some 47
slash_is None h = absurd (false≢true h)
slash_is (Some b) h = ap Some ((Decides-eqb b 47).0 h)

-- what begins with a path and has a slash then
goes_on : (inner front : List ℕ) → inner ≡ front ++ drop (length front) inner → is_slash (slice_get inner (length front)) ≡ true
    → (rest : List ℕ) × (inner ≡ front ++ 47 ∷ rest)
goes_on inner front begins h =
    let at = slash_is (slice_get inner (length front)) h in
    let here = slice_get_within inner (length front) 47 at in
    let left = drop-cons inner (length front) 0 here ∙ ap (λ y. y ∷ drop (suc (length front)) inner) (get_or_from_slice_get inner (length front) 47 0 at) in
    (drop (suc (length front)) inner, begins ∙ ap (λ l. front ++ l) left)

has_slash : (inner front rest : List ℕ) → inner ≡ front ++ 47 ∷ rest → is_slash (slice_get inner (length front)) ≡ true
has_slash inner front rest e =
    let here : length front < length inner = omega (arith, ap length e, length-append front (47 ∷ rest)) in
    let got : get_or inner (length front) 0 ≡ 47 = ap (λ l. get_or l (length front) 0) e ∙ get_or-append_seam front 47 rest 0 in
    ap is_slash (slice_get-get_or inner (length front) 0 here ∙ ap Some got)

after_slash : (inner front : List ℕ) → Decides (starts_with nat_eq inner front && is_slash (slice_get inner (length front))) ((rest : List ℕ) × (inner ≡ front ++ 47 ∷ rest))
after_slash inner front =
    let begins = starts_is Decides-eqb inner front _ refl in (
      (λ h. let both = and_parts _ _ h in goes_on inner front (begins.0 both.0) both.1),
      (λ r. and_from _ _ (begins.1 (47 ∷ r.0) r.1) (has_slash inner front r.0 r.1)),
    )

pub within_is : (inner outer : List ℕ) → (is_within inner outer ≡ true) ↔ IsWithin inner outer
within_is inner outer = Decides-or _ _ (bytes_eq-Decides inner outer) (after_slash inner (stem outer))
