-- What follows from what pieces show, also for the proofs of other crates.
use Rattle.std.proofs.Common.{◌≡◌, ◌≢◌, ℕ, suc, ◌<◌, Bool, true, not, ◌||◌, ◌==◌, List, [], ◌∷◌, ◌++◌, length, get_or, refl, sym, ap, arith, All, encode_utf8, codes}
use Rattle.std.specs.List.{list_all}
use Rattle.std.proofs.lemmas.Bool.Decides.{nat_tests}
use Rattle.std.proofs.lemmas.List.{append-nil}
use Rattle.std.proofs.lemmas.List.Elements.{All-nil, All-cons, All-append}
use Rattle.std.proofs.lemmas.List.Sums.{AllPass-from_list_all}
use Rattle.std.proofs.lemmas.Str.{inside_one}
use Rattle.html_text.specs.Escaped.{IsPlain, Shows}
use Rattle.html_text.specs.Escaped.Shows.{nothing, plain, quot, amp, apostrophe, lt, gt}

-- two pieces after each other show their texts after each other
pub Shows-append : {piece text : List ℕ} (p t : List ℕ) → Shows piece text → Shows p t → Shows (piece ++ p) (text ++ t)
Shows-append p t nothing then = then
Shows-append p t (plain b piece text is first) then = plain b (piece ++ p) (text ++ t) is (Shows-append p t first then)
Shows-append p t (quot piece text first) then = quot (piece ++ p) (text ++ t) (Shows-append p t first then)
Shows-append p t (amp piece text first) then = amp (piece ++ p) (text ++ t) (Shows-append p t first then)
Shows-append p t (apostrophe piece text first) then = apostrophe (piece ++ p) (text ++ t) (Shows-append p t first then)
Shows-append p t (lt piece text first) then = lt (piece ++ p) (text ++ t) (Shows-append p t first then)
Shows-append p t (gt piece text first) then = gt (piece ++ p) (text ++ t) (Shows-append p t first then)

-- plain bytes show themselves
all_plain : (bs : List ℕ) → ((k : ℕ) → k < length bs → IsPlain (get_or bs k 0)) → Shows bs bs
all_plain [] each = nothing
all_plain (b ∷ bs) each = plain b bs bs (each 0 (omega arith)) (all_plain bs (λ k h. each (suc k) (omega arith)))

-- a byte below 128 of a character is the character
ascii_byte : (c k : ℕ) → k < length (encode_utf8 c) → get_or (encode_utf8 c) k 0 < 128 → c ≡ get_or (encode_utf8 c) k 0
ascii_byte c k = inside_one c [] (encode_utf8 c) k (sym (append-nil (encode_utf8 c)))

-- a plain character shows itself
pub Shows-encode : (c : ℕ) → IsPlain c → Shows (encode_utf8 c) (encode_utf8 c)
Shows-encode c is = all_plain (encode_utf8 c) (λ k h. let ascii = ascii_byte c k h in grind arith)

-- a piece shows one text at most
pub one_text : (piece a b : List ℕ) → Shows piece a → Shows piece b → a ≡ b
one_text _ _ _ nothing nothing = refl
one_text _ _ _ (plain x p a is s) (plain _ _ b _ t) = ap (λ v. x ∷ v) (one_text p a b s t)
one_text _ _ _ (plain _ _ _ is _) _ = absurd (is.1 refl)
one_text _ _ _ _ (plain _ _ _ is _) = absurd (is.1 refl)
one_text _ _ _ (quot p a s) (quot _ b t) = ap (λ v. 34 ∷ v) (one_text p a b s t)
one_text _ _ _ (amp p a s) (amp _ b t) = ap (λ v. 38 ∷ v) (one_text p a b s t)
one_text _ _ _ (apostrophe p a s) (apostrophe _ b t) = ap (λ v. 39 ∷ v) (one_text p a b s t)
one_text _ _ _ (lt p a s) (lt _ b t) = ap (λ v. 60 ∷ v) (one_text p a b s t)
one_text _ _ _ (gt p a s) (gt _ b t) = ap (λ v. 62 ∷ v) (one_text p a b s t)

abbrev IsNoMark : ℕ → Type 0
IsNoMark b = (b ≢ 34) × (b ≢ 39) × (b ≢ 60) × (b ≢ 62)

abbrev is_no_mark : ℕ → Bool
is_no_mark b = not (b == 34 || b == 39 || b == 60 || b == 62)

no_mark : (b : ℕ) → is_no_mark b ≡ true → IsNoMark b
no_mark b h = grind (arith, nat_tests)

-- bytes before a piece without marks
before : (bs piece : List ℕ) → list_all is_no_mark bs ≡ true → All IsNoMark piece → All IsNoMark (bs ++ piece)
before bs piece h = All-append IsNoMark bs piece (λ k d i. no_mark (get_or bs k d) (AllPass-from_list_all is_no_mark bs h k d i))

-- a piece has no `"`, `'`, `<` or `>`
pub no_marks : (piece text : List ℕ) → Shows piece text → All IsNoMark piece
no_marks _ _ nothing = All-nil IsNoMark
no_marks _ _ (plain b p t is s) = All-cons IsNoMark b p (is.0, is.2, is.3, is.4) (no_marks p t s)
no_marks _ _ (quot p t s) = before (codes "&quot;") p refl (no_marks p t s)
no_marks _ _ (amp p t s) = before (codes "&amp;") p refl (no_marks p t s)
no_marks _ _ (apostrophe p t s) = before (codes "&#39;") p refl (no_marks p t s)
no_marks _ _ (lt p t s) = before (codes "&lt;") p refl (no_marks p t s)
no_marks _ _ (gt p t s) = before (codes "&gt;") p refl (no_marks p t s)
