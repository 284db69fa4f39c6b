-- A text in the form NFC stays in it where ASCII is put in front of one of its dots, or at its end.
use Rattle.std.proofs.Common.{◌≡◌, ◌⊎◌, ℕ, ◌<◌, List, [], ◌∷◌, ◌++◌, length, get_or, flat_map, refl, sym, ap, ◌∙◌, arith, lit<, append-nil, length-append, inl, inr}
use Rattle.std.specs.Prelude.{chars, IsUtf8}
use Rattle.std.specs.List.{All}
use Rattle.std.specs.Str.{IsAscii}
use Rattle.std.proofs.lemmas.Bool.{cases_lt}
use Rattle.std.proofs.lemmas.List.{get_or_past}
use Rattle.std.proofs.lemmas.List.Elements.{All-nil, All-cons}
use Rattle.std.proofs.lemmas.Str.{chars-nil, chars-append, chars-IsAscii, IsUtf8-append, IsUtf8-from_ascii}
use Rattle.unicode_normalization.specs.Decompose.{decompose}
use Rattle.unicode_normalization.specs.Forms.{Nfc, Nfd, nfc, nfd, normalize, decomposed, IsInForm}
use Rattle.unicode_normalization.proofs.DecomposeLemmas.{IsFull-decompose}
use Rattle.unicode_normalization.proofs.FormsLemmas.{normalize-ascii, normalize-ascii_boundary, nfd-nfc}
use Rattle.unicode_normalization.proofs.OrderLemmas.{length-canonical_order}

nfd_some : (c : ℕ) (cs : List ℕ) → 0 < length (nfd (c ∷ cs))
unfolding normalize decomposed
nfd_some c cs =
    omega (arith, length-canonical_order (flat_map (decompose Nfd) (c ∷ cs)), length-append (decompose Nfd c) (flat_map (decompose Nfd) cs), (IsFull-decompose Nfd c).some)

nfd_none : (cs : List ℕ) → length (nfd cs) ≡ 0 → cs ≡ []
nfd_none [] h = refl
nfd_none (c ∷ cs) h = absurd (omega (arith, nfd_some c cs))

-- two ways to cut one list
pub cases_cut : (p e q f : List ℕ) → q ++ f ≡ p ++ e → ((x : List ℕ) × (p ≡ q ++ x) × (f ≡ x ++ e)) ⊎ ((x : List ℕ) × (q ≡ p ++ x) × (e ≡ x ++ f))
cases_cut p e [] f h = inl (p, refl, h)
cases_cut [] e (b ∷ q) f h = inr (b ∷ q, refl, sym h)
cases_cut (a ∷ p) e (b ∷ q) f h =
    let head : b ≡ a = cc in
    let tail : q ++ f ≡ p ++ e = cc in
    elim (cases_cut p e q f tail) [
      | inl w ↦ inl (w.0, (λ i. sym head i ∷ w.1 i), w.2)
      | inr w ↦ inr (w.0, (λ i. head i ∷ w.1 i), w.2)
    ]

abbrev pub BothInForm : List ℕ → List ℕ → Type 0
BothInForm p e = (nfc p ≡ p) × (nfc e ≡ e)

-- a text in the form that is cut before a dot: both parts are in the form
pub nfc_parts : (p r : List ℕ) → nfc (p ++ 46 ∷ r) ≡ p ++ 46 ∷ r → BothInForm p (46 ∷ r)
nfc_parts p r h =
    elim (cases_cut p (46 ∷ r) (nfc p) (nfc (46 ∷ r)) (sym (normalize-ascii_boundary Nfc p 46 r (lit< tt)) ∙ h)) [
      | inl w ↦
          let same : nfd w.0 ++ nfd (46 ∷ r) ≡ nfd (46 ∷ r) = sym (normalize-ascii_boundary Nfd w.0 46 r (lit< tt)) ∙ ap nfd (sym w.2) ∙ nfd-nfc (46 ∷ r) in
          let none = nfd_none w.0 (omega (arith, ap length same, length-append (nfd w.0) (nfd (46 ∷ r)))) in
          (sym (w.1 ∙ ap (λ (l : List ℕ). nfc p ++ l) none ∙ append-nil (nfc p)), w.2 ∙ ap (λ (l : List ℕ). l ++ 46 ∷ r) none)
      | inr w ↦ from_front p r w.0 w.1 w.2
    ]
  where
    from_front : (p r x : List ℕ) → nfc p ≡ p ++ x → 46 ∷ r ≡ x ++ nfc (46 ∷ r) → BothInForm p (46 ∷ r)
    from_front p r [] h k = (h ∙ append-nil p, sym k)
    from_front p r (c ∷ x) h k =
        let dot : 46 ≡ c = cc in
        let same : nfd p ++ nfd (46 ∷ x) ≡ nfd p = sym (normalize-ascii_boundary Nfd p 46 x (lit< tt)) ∙ ap (λ (y : ℕ). nfd (p ++ y ∷ x)) dot ∙ ap nfd (sym h) ∙ nfd-nfc p in
        absurd (omega (arith, nfd_some 46 x, ap length same, length-append (nfd p) (nfd (46 ∷ x))))

-- ASCII that begins with a dot, put in before a dot or at the end
pub nfc_with_mark : (p m e : List ℕ) → All (λ c. c < 128) (46 ∷ m) → nfc p ≡ p → (e ≡ []) ⊎ ((r : List ℕ) × (e ≡ 46 ∷ r) × (nfc (46 ∷ r) ≡ 46 ∷ r)) → nfc ((p ++ 46 ∷ m) ++ e) ≡ (p ++ 46 ∷ m) ++ e
nfc_with_mark p m e ascii h shape =
    let marked : nfc (p ++ 46 ∷ m) ≡ p ++ 46 ∷ m = normalize-ascii_boundary Nfc p 46 m (lit< tt) ∙ (λ i. h i ++ normalize-ascii Nfc (46 ∷ m) ascii i) in
    elim shape [
      | inl none ↦
          let whole = ap (λ (l : List ℕ). (p ++ 46 ∷ m) ++ l) none ∙ append-nil (p ++ 46 ∷ m) in
          ap nfc whole ∙ marked ∙ sym whole
      | inr dot ↦
          let whole = ap (λ (l : List ℕ). (p ++ 46 ∷ m) ++ l) dot.1 in
          ap nfc whole ∙ normalize-ascii_boundary Nfc (p ++ 46 ∷ m) 46 dot.0 (lit< tt) ∙ (λ i. marked i ++ dot.2 i) ∙ sym whole
    ]

pub IsAscii-from_all : (xs : List ℕ) → All (λ c. c < 128) xs → IsAscii xs
IsAscii-from_all xs all i =
    elim (cases_lt i (length xs)) [
      | inl lt ↦ all i 0 lt
      | inr past ↦ let nothing : get_or xs i 0 ≡ 0 = get_or_past xs i 0 past in omega arith
    ]

dot_ascii : IsAscii (46 ∷ [])
dot_ascii = IsAscii-from_all (46 ∷ []) (All-cons (λ c. c < 128) 46 [] (lit< tt) (All-nil (λ c. c < 128)))

chars-dot : (r : List ℕ) → chars (46 ∷ r) ≡ 46 ∷ chars r
chars-dot r =
    chars-append (46 ∷ []) r (IsUtf8-from_ascii (46 ∷ []) dot_ascii)
    ∙ ap (λ (l : List ℕ). l ++ chars r) (chars-IsAscii (46 ∷ []) dot_ascii)

-- the same of bytes: a text in the form, and the mark before what follows its front
pub text_with_mark : (p m e : List ℕ) → IsUtf8 p → All (λ c. c < 128) (46 ∷ m) → (e ≡ []) ⊎ ((r : List ℕ) × (e ≡ 46 ∷ r)) → IsInForm Nfc (chars (p ++ e)) → IsInForm Nfc (chars ((p ++ 46 ∷ m) ++ e))
text_with_mark p m e utf8 all shape h =
    let ascii = IsAscii-from_all (46 ∷ m) all in
    let marked = chars-append p (46 ∷ m) utf8 ∙ ap (λ (l : List ℕ). chars p ++ l) (chars-IsAscii (46 ∷ m) ascii) in
    let whole : chars ((p ++ 46 ∷ m) ++ e) ≡ (chars p ++ 46 ∷ m) ++ chars e =
    chars-append (p ++ 46 ∷ m) e (IsUtf8-append p (46 ∷ m) utf8 (IsUtf8-from_ascii (46 ∷ m) ascii)) ∙ ap (λ (l : List ℕ). l ++ chars e) marked in
    let parts : chars (p ++ e) ≡ chars p ++ chars e = chars-append p e utf8 in
    let split : nfc (chars p ++ chars e) ≡ chars p ++ chars e = ap nfc (sym parts) ∙ h ∙ parts in
    let formed : nfc ((chars p ++ 46 ∷ m) ++ chars e) ≡ (chars p ++ 46 ∷ m) ++ chars e = elim shape [
      | inl none ↦
          let nothing : chars e ≡ [] = ap chars none ∙ chars-nil in
          let alone : chars p ++ chars e ≡ chars p = ap (λ (l : List ℕ). chars p ++ l) nothing ∙ append-nil (chars p) in
          nfc_with_mark (chars p) m (chars e) all (ap nfc (sym alone) ∙ split ∙ alone) (inl nothing)
      | inr dot ↦
          let begun : chars e ≡ 46 ∷ chars dot.0 = ap chars dot.1 ∙ chars-dot dot.0 in
          let joined : chars p ++ chars e ≡ chars p ++ 46 ∷ chars dot.0 = ap (λ (l : List ℕ). chars p ++ l) begun in
          let both = nfc_parts (chars p) (chars dot.0) (ap nfc (sym joined) ∙ split ∙ joined) in
          nfc_with_mark (chars p) m (chars e) all both.0 (inr (chars dot.0, begun, both.1))
    ] in
    ap nfc whole ∙ formed ∙ sym whole
