-- The loops that read characters.
use Rattle.std.proofs.Common.{◌≡◌, ℕ, zero, suc, ◌+◌, ◌<◌, ◌≤◌, Bool, true, false, cond, not, List, [], ◌∷◌, ◌++◌, map, take, drop, length, get_or, set, refl, sym, ap, subst, ◌∙◌, arith}
use Rattle.std.proofs.lemmas.List.{get_or-set_same, get_or-set_other, append-nil, take_more_set, take-append-drop, length-append, length-take}
use Rattle.std.proofs.lemmas.List.Elements.{filter_more, filter-append}
use Rattle.std.proofs.Math.ListN.{get_or-eq_default}
use Rattle.std.proofs.lemmas.Bool.{cases_lt}
use Rattle.std.proofs.Common.{◌≢◌, inl, inr}
use borrow.Author.Count.{below_more}
use Rattle.sync_names.specs.Base32.{base32_digit}
use Rattle.device_text.specs.Base32.{AreBase32}
use Rattle.device_text.specs.Read.{is_separator, characters, as_read, IsValueOf}

abbrev kept : ℕ → Bool
kept c = not (is_separator c)

step : (text : List ℕ) (i : ℕ) (b : Bool) → i < length text → is_separator (get_or text i 0) ≡ b
    → characters (take (i + 1) text) ≡ characters (take i text) ++ cond (not b) (get_or text i 0 ∷ []) []
step text i b h e = filter_more kept text i 0 h ∙ ap (λ (x : Bool). characters (take i text) ++ cond (not x) (get_or text i 0 ∷ []) []) e

pub skipped : (text : List ℕ) (i : ℕ) → i < length text → is_separator (get_or text i 0) ≡ true
    → characters (take (i + 1) text) ≡ characters (take i text)
skipped text i h e = step text i true h e ∙ append-nil (characters (take i text))

pub kept_more : (text : List ℕ) (i : ℕ) → i < length text → is_separator (get_or text i 0) ≡ false
    → characters (take (i + 1) text) ≡ characters (take i text) ++ get_or text i 0 ∷ []
kept_more text i h e = step text i false h e

pub kept_set : (text found : List ℕ) (i count c : ℕ) → i < length text → count < length found → c ≡ get_or text i 0 → is_separator c ≡ false
    → take count found ≡ characters (take i text) → take (count + 1) (set found count c) ≡ characters (take (i + 1) text)
kept_set text found i count c h room is e inv =
    let there : is_separator (get_or text i 0) ≡ false = ap is_separator (sym is) ∙ e in
    take_more_set found count c room
    ∙ ap (λ (l : List ℕ). l ++ c ∷ []) inv
    ∙ ap (λ (x : ℕ). characters (take i text) ++ x ∷ []) is
    ∙ sym (kept_more text i h there)

-- a list of which 57 characters are kept is too long
pub too_many : (text found : List ℕ) (i count : ℕ) → i < length text → length found ≡ 56 → count ≡ 56 → is_separator (get_or text i 0) ≡ false
    → take count found ≡ characters (take i text) → length (characters text) ≢ 56
too_many text found i count h long full e inv eq =
    let begun : length (characters (take i text)) ≡ 56 = omega (arith, ap (λ (l : List ℕ). length l) inv, length-take count found) in
    let all : characters text ≡ characters (take (i + 1) text) ++ characters (drop (i + 1) text) =
    ap characters (sym (take-append-drop (i + 1) text)) ∙ filter-append kept (take (i + 1) text) (drop (i + 1) text) in
    omega (
      arith,
      begun,
      ap (λ (l : List ℕ). length l) all,
      length-append (characters (take (i + 1) text)) (characters (drop (i + 1) text)),
      ap (λ (l : List ℕ). length l) (kept_more text i h e),
      length-append (characters (take i text)) (get_or text i 0 ∷ []),
    )

take_long : (l : List ℕ) (n : ℕ) → length l ≤ n → take n l ≡ l
take_long [] zero h = refl
take_long [] (suc n) h = refl
take_long (x ∷ l) zero h = absurd (omega arith)
take_long (x ∷ l) (suc n) h = ap (λ (t : List ℕ). x ∷ t) (take_long l n (omega arith))

pub all_found : (text found : List ℕ) (i count : ℕ) → length text ≤ i → take count found ≡ characters (take i text)
    → take count found ≡ characters text
all_found text found i count h inv = inv ∙ ap characters (take_long text i h)

pub found_all : (text found : List ℕ) (i count : ℕ) → length text ≤ i → length found ≡ 56 → count ≡ 56 → take count found ≡ characters (take i text)
    → found ≡ characters text
found_all text found i count h long full inv = sym (take_long found count (omega arith)) ∙ all_found text found i count h inv

pub too_few : (text found : List ℕ) (i count : ℕ) → length text ≤ i → length found ≡ 56 → count ≤ 56 → count ≢ 56
    → take count found ≡ characters (take i text) → length (characters text) ≢ 56
too_few text found i count h long room other inv eq =
    other (omega (arith, eq, ap (λ (l : List ℕ). length l) (all_found text found i count h inv), length-take count found))

pub all_small : (cs vs : List ℕ) → length vs ≡ 56 → ((k : ℕ) → k < 56 → IsValueOf (get_or cs k 0) (get_or vs k 0)) → AreBase32 vs
all_small cs vs long each i =
    elim (cases_lt i 56) [
      | inl l ↦ (each i l).0
      | inr r ↦ omega (arith, get_or-eq_default vs 0 {n = i} (omega arith))
    ]

same_map : (cs vs : List ℕ) → length cs ≡ length vs → ((k : ℕ) → k < length cs → as_read (get_or cs k 0) ≡ base32_digit (get_or vs k 0))
    → map as_read cs ≡ map base32_digit vs
same_map [] [] long each = refl
same_map [] (v ∷ vs) long each = cc
same_map (c ∷ cs) [] long each = cc
same_map (c ∷ cs) (v ∷ vs) long each =
    let first : as_read c ≡ base32_digit v = each zero (omega arith) in
    let rest : map as_read cs ≡ map base32_digit vs = same_map cs vs (omega arith) (λ k h. each (suc k) (omega arith)) in
    ap (λ (x : ℕ). x ∷ map as_read cs) first ∙ ap (λ (l : List ℕ). base32_digit v ∷ l) rest

pub all_read : (cs vs : List ℕ) → length cs ≡ 56 → length vs ≡ 56 → ((k : ℕ) → k < 56 → IsValueOf (get_or cs k 0) (get_or vs k 0))
    → AreBase32 vs × (map as_read cs ≡ map base32_digit vs)
all_read cs vs h long each = (all_small cs vs long each, same_map cs vs (h ∙ sym long) (λ k l. (each k (omega arith)).1))

pub read_more : (cs vs : List ℕ) (i v : ℕ) → i < length vs → IsValueOf (get_or cs i 0) v → ((k : ℕ) → k < i → IsValueOf (get_or cs k 0) (get_or vs k 0))
    → (k : ℕ) → k < i + 1 → IsValueOf (get_or cs k 0) (get_or (set vs i v) k 0)
read_more cs vs i v room is before =
    below_more (λ (k : ℕ). IsValueOf (get_or cs k 0) (get_or (set vs i v) k 0)) i
    (λ k h. subst (λ (x : ℕ). IsValueOf (get_or cs k 0) x) (sym (get_or-set_other vs i k v 0 (λ e. omega arith))) (before k h))
    (subst (λ (x : ℕ). IsValueOf (get_or cs i 0) x) (sym (get_or-set_same vs i v 0 room)) is)
