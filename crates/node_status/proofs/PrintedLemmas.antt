-- Nothing that is shown on a terminal is a control character but the ends of lines.
use Rattle.std.proofs.Common.{◌≡◌, ◌≢◌, ◌⊎◌, inl, inr, ℕ, zero, suc, ◌-◌, ◌/◌, ◌%◌, ◌<◌, ◌≤◌, Bool, true, false, not, ◌||◌, ◌&&◌, ◌==◌, nat_lt, List, [], ◌∷◌, ◌++◌, length, get_or, replicate, refl, sym, ap, ◌∙◌, subst, arith, All, codes, encode_utf8}
use Rattle.std.specs.List.{flat_map, list_all}
use Rattle.std.specs.Str.{chars, encode_utf8_all}
use Rattle.std.proofs.lemmas.Bool.{cases_lt}
use Rattle.std.proofs.lemmas.Bool.Decides.{nat_tests}
use Rattle.std.proofs.lemmas.List.{append-nil, get_or_default}
use Rattle.std.proofs.lemmas.List.Elements.{All-nil, All-cons, All-append, All-replicate, All-tail}
use Rattle.std.proofs.lemmas.Str.{encodes-append, encode_ascii, inside_one}
use Rattle.node_status.specs.declared.rows.Mark.{Mark}
use Rattle.node_status.specs.declared.rows.Mark.TheVariants.{Title, Heading, Good, Busy, Bad, Note, Trouble}
use Rattle.node_status.specs.Rows.{ShownRow}
use Rattle.node_status.specs.Screen.{is_escaped, hex_digit, code_text, escaped, shown_text, padding, named_text, marked_text, row_text, screen_text}

-- ---- characters

abbrev IsShown : ℕ → Type 0
IsShown c = (c ≡ 10) ⊎ (32 ≤ c) × ((c < 127) ⊎ (160 ≤ c))

abbrev IsClean : List ℕ → Type 0
IsClean bs = (cs : List ℕ) × (encode_utf8_all cs ≡ bs) × All IsShown cs

clean_nil : IsClean []
clean_nil = ([], refl, All-nil IsShown)

clean_two : (a b : List ℕ) → IsClean a → IsClean b → IsClean (a ++ b)
clean_two a b (cs, e, h) (ds, f, k) =
    (cs ++ ds, encodes-append cs ds ∙ ap (λ v. v ++ encode_utf8_all ds) e ∙ ap (λ v. a ++ v) f, All-append IsShown cs ds h k)

clean_character : (c : ℕ) → IsShown c → IsClean (encode_utf8 c)
clean_character c is = (c ∷ [], append-nil (encode_utf8 c), All-cons IsShown c [] is (All-nil IsShown))

spaces_bytes : (n : ℕ) → encode_utf8_all (replicate n 32) ≡ replicate n 32
spaces_bytes zero = refl
spaces_bytes (suc n) = rw (encode_ascii 32 (omega arith), spaces_bytes n) refl

clean_byte : (b : ℕ) → b < 127 → IsShown b → IsClean (b ∷ [])
clean_byte b h is = rw (sym (encode_ascii b (omega arith))) (clean_character b is)

abbrev is_word : ℕ → Bool
is_word b = b == 10 || not (nat_lt b 32) && nat_lt b 127

word_byte : (b : ℕ) → is_word b ≡ true → IsClean (b ∷ [])
word_byte b h =
    clean_byte b (grind (arith, nat_tests)) (grind (arith, nat_tests))

and_first : (a b : Bool) → (a && b) ≡ true → a ≡ true
and_first true b h = refl
and_first false b h = h

and_second : (a b : Bool) → (a && b) ≡ true → b ≡ true
and_second true b h = h
and_second false b h = absurd (grind arith)

-- fixed words
words : (bs : List ℕ) → list_all is_word bs ≡ true → IsClean bs
words [] h = clean_nil
words (b ∷ bs) h =
    clean_two (b ∷ []) bs (word_byte b (and_first (is_word b) (list_all is_word bs) h)) (words bs (and_second (is_word b) (list_all is_word bs) h))

both_cases : (x : Bool) → (x ≡ true) ⊎ (x ≡ false)
both_cases true = inl refl
both_cases false = inr refl

digit : (n : ℕ) → n < 16 → is_word (hex_digit n) ≡ true
digit n h = elim (both_cases (nat_lt n 10)) [
  | inl low ↦ rw low (let lt : n < 10 = grind (arith, nat_tests) in grind (arith, nat_tests))
  | inr high ↦ rw high (let ge : 10 ≤ n = grind (arith, nat_tests) in grind (arith, nat_tests))
]

small : (c : ℕ) → is_escaped c ≡ true → c < 160
small c h = grind (arith, nat_tests)

plain : (c : ℕ) → is_escaped c ≡ false → IsShown c
plain c h = grind (arith, nat_tests)

code : (c : ℕ) → c < 256 → IsClean (code_text c)
code c h =
    let a = word_byte (hex_digit (c / 16)) (digit (c / 16) (omega arith)) in
    let b = word_byte (hex_digit (c % 16)) (digit (c % 16) (omega arith)) in
    clean_two (codes "\\x") (hex_digit (c / 16) ∷ hex_digit (c % 16) ∷ []) (words (codes "\\x") refl) (clean_two (hex_digit (c / 16) ∷ []) (hex_digit (c % 16) ∷ []) a b)

character : (c : ℕ) → IsClean (escaped c)
character c = elim (both_cases (is_escaped c)) [
  | inl is ↦ rw is (code c (omega (arith, small c is)))
  | inr isnt ↦ rw isnt (clean_character c (plain c isnt))
]

each : {X : Type 0} (f : X → List ℕ) → ((x : X) → IsClean (f x)) → (xs : List X) → IsClean (flat_map f xs)
each f h [] = clean_nil
each f h (x ∷ xs) = clean_two (f x) (flat_map f xs) (h x) (each f h xs)

shown : (text : List ℕ) → IsClean (shown_text text)
shown text = each escaped character (chars text)

spaces : (n : ℕ) → IsClean (replicate n 32)
spaces n = (replicate n 32, spaces_bytes n, All-replicate IsShown n 32 (inr (omega arith, inl (omega arith))))

-- words after something, and the end of the line
ended : (front words_shown : List ℕ) → IsClean front → IsClean (front ++ shown_text words_shown ++ codes "\n")
ended front text h =
    clean_two (front ++ shown_text text) (codes "\n") (clean_two front (shown_text text) h (shown text)) (words (codes "\n") refl)

named : (r : ShownRow) → IsClean (named_text r)
named r =
    let front = clean_two (shown_text r.name) (padding r.name) (shown r.name) (spaces (14 - length r.name)) in
    ended (shown_text r.name ++ padding r.name ++ codes " ") r.words (clean_two (shown_text r.name ++ padding r.name) (codes " ") front (words (codes " ") refl))

marked : (m : Mark) (r : ShownRow) → IsClean (marked_text m r)
marked Title r =
    ended (shown_text r.name ++ codes ", ") r.words (clean_two (shown_text r.name) (codes ", ") (shown r.name) (words (codes ", ") refl))
marked Heading r = ended (codes "\n") r.name (words (codes "\n") refl)
marked Good r = named r
marked Busy r = named r
marked Bad r = named r
marked Note r = ended (codes "  ") r.words (words (codes "  ") refl)
marked Trouble r = ended (codes "! ") r.words (words (codes "! ") refl)

-- all that is shown are such characters
pub no_controls : (rows : List ShownRow) → IsClean (screen_text rows)
no_controls rows = each row_text (λ r. marked r.mark r) rows

-- ---- bytes

abbrev IsPrinted : ℕ → Type 0
IsPrinted b = (b ≡ 10) ⊎ (32 ≤ b) × (b ≢ 127)

ascii_byte : (c k : ℕ) → k < length (encode_utf8 c) → get_or (encode_utf8 c) k 0 < 128 → c ≡ get_or (encode_utf8 c) k 0
ascii_byte c k = inside_one c [] (encode_utf8 c) k (sym (append-nil (encode_utf8 c)))

-- each byte of such a character is the character, or is above 127
bytes : (c : ℕ) → IsShown c → All IsPrinted (encode_utf8 c)
bytes c is = λ k d i. let same = get_or_default (encode_utf8 c) k d 0 i in rw same (elim (cases_lt (get_or (encode_utf8 c) k 0) 128) [
  | inl low ↦ let equal = ascii_byte c k i low in grind arith
  | inr high ↦ inr (omega arith, omega arith)
])

all_bytes : (cs : List ℕ) → All IsShown cs → All IsPrinted (encode_utf8_all cs)
all_bytes [] h = All-nil IsPrinted
all_bytes (c ∷ cs) h =
    All-append IsPrinted (encode_utf8 c) (encode_utf8_all cs) (bytes c (h 0 0 (omega arith))) (all_bytes cs (All-tail IsShown c cs h))

pub no_control_bytes : (rows : List ShownRow) → All IsPrinted (screen_text rows)
no_control_bytes rows =
    let clean = no_controls rows in subst (λ bs. All IsPrinted bs) clean.1 (all_bytes clean.0 clean.2)
