-- The piece of a page that shows a text.
use Rattle.std.proofs.Common.{◌≡◌, ◌≢◌, ◌⊎◌, inl, inr, ℕ, List, [], ◌∷◌, ◌++◌, Result, Ok, Err, OnOk, refl, ap, ◌∙◌, arith, codes, false, ◌==◌}
use Rattle.std.proofs.lemmas.Bool.{cases_order}
use Rattle.std.proofs.lemmas.Bool.Decides.{nat_tests}
use Rattle.html_text.specs.Escaped.{IsPlain, Shows}
use Rattle.html_text.specs.Escaped.Shows.{nothing, plain, quot, amp, apostrophe, lt, gt}
use Rattle.node_status.specs.Page.{page_piece, reference}

plain_reference : (b : ℕ) → IsPlain b → reference b ≡ b ∷ []
plain_reference b is =
    let a : (b == 34) ≡ false = grind (arith, nat_tests) in
    let c : (b == 38) ≡ false = grind (arith, nat_tests) in
    let d : (b == 39) ≡ false = grind (arith, nat_tests) in
    let e : (b == 60) ≡ false = grind (arith, nat_tests) in
    let f : (b == 62) ≡ false = grind (arith, nat_tests) in
    rw (a, c, d, e, f) refl

-- what shows a text is its piece
pub is_piece : (piece text : List ℕ) → Shows piece text → piece ≡ page_piece text
is_piece _ _ nothing = refl
is_piece _ _ (plain b p t is s) = rw (plain_reference b is) (ap (λ v. b ∷ v) (is_piece p t s))
is_piece _ _ (quot p t s) = ap (λ v. codes "&quot;" ++ v) (is_piece p t s)
is_piece _ _ (amp p t s) = ap (λ v. codes "&amp;" ++ v) (is_piece p t s)
is_piece _ _ (apostrophe p t s) = ap (λ v. codes "&#39;" ++ v) (is_piece p t s)
is_piece _ _ (lt p t s) = ap (λ v. codes "&lt;" ++ v) (is_piece p t s)
is_piece _ _ (gt p t s) = ap (λ v. codes "&gt;" ++ v) (is_piece p t s)

cases_equal : (b n : ℕ) → (b ≡ n) ⊎ (b ≢ n)
cases_equal b n = elim (cases_order b n) [ inl e ↦ inl e | inr other ↦ inr (grind arith) ]

-- and a text's piece shows it
pub piece_shows : (text : List ℕ) → Shows (page_piece text) text
piece_shows [] = nothing
piece_shows (b ∷ bs) =
    let rest = piece_shows bs in
    elim (cases_equal b 34) [
      | inl e ↦ rw e (quot (page_piece bs) bs rest)
      | inr no34 ↦ elim (cases_equal b 38) [
        | inl e ↦ rw e (amp (page_piece bs) bs rest)
        | inr no38 ↦ elim (cases_equal b 39) [
          | inl e ↦ rw e (apostrophe (page_piece bs) bs rest)
          | inr no39 ↦ elim (cases_equal b 60) [
            | inl e ↦ rw e (lt (page_piece bs) bs rest)
            | inr no60 ↦ elim (cases_equal b 62) [
              | inl e ↦ rw e (gt (page_piece bs) bs rest)
              | inr no62 ↦
                  let is : IsPlain b = (no34, no38, no39, no60, no62) in
                  let same = plain_reference b is in rw same (plain b (page_piece bs) bs is rest)
            ]
          ]
        ]
      ]
    ]

pub pushed : {X E : Type 0} (r : Result X E) (old new text : List ℕ)
    → OnOk r ((piece : List ℕ) × (new ≡ old ++ piece) × Shows piece text) → OnOk r (new ≡ old ++ page_piece text)
pushed (Ok _) old new text (piece, e, s) = e ∙ ap (λ v. old ++ v) (is_piece piece text s)
pushed (Err _) old new text h = tt
