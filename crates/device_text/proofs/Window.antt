-- A digit of a number, and a number's digits seen through a window of two or three digits in another base.
use Rattle.std.proofs.Common.{◌≡◌, ℕ, zero, suc, ◌+◌, ◌-◌, ◌*◌, ◌/◌, ◌%◌, ◌^◌, ◌<◌, List, [], ◌∷◌, ◌++◌, length, get_or, set, refl, sym, ap, subst, ◌∙◌, arith}
use Rattle.std.specs.Int.Digits.{number_from_digits}
use Rattle.std.proofs.lemmas.Int.Digits.{number_push}
use Rattle.std.proofs.lemmas.Nat.{shr-shr, mod-pow-add, field_of, mod_low, mod_below, pow_pos}
use Rattle.std.proofs.Math.ListN.{get_or-append}
use Rattle.std.proofs.lemmas.List.{get_or_push, ext_get_or}
use Rattle.std.proofs.lemmas.List.Edits.{fill_by_more}
use Rattle.device_text.specs.Base32.{digits, base32_values, identity_of, AreBase32}
use Rattle.device_text.proofs.Digits.{digits_number, length_digits, digits_below}

-- n without its last e bits, and of what is left the last w
abbrev pub field : ℕ → ℕ → ℕ → ℕ
field w n e = n / 2 ^ e % 2 ^ w

mod_by : (n b c : ℕ) → b ≡ c → n % b ≡ n % c
mod_by n b c e = ap (λ (x : ℕ). n % x) e

over : (n a b c : ℕ) → a + b ≡ c → n / 2 ^ a / 2 ^ b ≡ n / 2 ^ c
over n a b c e = shr-shr n a b ∙ ap (λ (x : ℕ). n / 2 ^ x) e

over_none : (n : ℕ) → n / 2 ^ 0 ≡ n
over_none n = omega arith

times_next : (w j : ℕ) → w + w * j ≡ w * suc j
times_next w j = omega arith

times_none : (w : ℕ) → w * 0 ≡ 0
times_none w = omega arith

-- the digit with j digits behind it
pub digit_at : (w count n k j : ℕ) → suc (k + j) ≡ count → get_or (digits (2 ^ w) count n) k 0 ≡ field w n (w * j)
unfolding digits
digit_at w zero n k j h = absurd (omega arith)
digit_at w (suc count) n k zero h =
    let b = 2 ^ w in
    let front : length (digits b count (n / b)) ≡ k = omega (arith, length_digits b count (n / b)) in
    get_or_push (digits b count (n / b)) (n % b) 0 k front
    ∙ ap (λ (x : ℕ). x % b) (sym (ap (λ (x : ℕ). n / 2 ^ x) (times_none w) ∙ over_none n))
digit_at w (suc count) n k (suc j) h =
    let b = 2 ^ w in
    get_or-append (digits b count (n / b)) (n % b ∷ []) 0 k (omega (arith, length_digits b count (n / b)))
    ∙ digit_at w count (n / b) k j (omega arith)
    ∙ ap (λ (x : ℕ). x % b) (over n w (w * j) (w * suc j) (times_next w j))

-- of the number that digits write
pub written_at : (w : ℕ) (xs : List ℕ) (k j : ℕ) → suc (k + j) ≡ length xs → ((i : ℕ) → get_or xs i 0 < 2 ^ w)
    → get_or xs k 0 ≡ field w (number_from_digits (2 ^ w) xs) (w * j)
written_at w xs k j h low =
    ap (λ (l : List ℕ). get_or l k 0) (sym (digits_number (2 ^ w) xs (length xs) refl low))
    ∙ digit_at w (length xs) (number_from_digits (2 ^ w) xs) k j h

-- the last w bits of the last s + w bits
narrow : (n s w : ℕ) → n % 2 ^ (s + w) % 2 ^ w ≡ n % 2 ^ w
narrow n s w =
    ap (λ (x : ℕ). x % 2 ^ w) (mod-pow-add n s w)
    ∙ mod_low (n / 2 ^ w % 2 ^ s) w (n % 2 ^ w) (mod_below n (2 ^ w) (pow_pos w))

-- w bits of a window, which leaves s bits out before them and t behind them
pub cut : (n s w t all : ℕ) → s + w + t ≡ all → n % 2 ^ all / 2 ^ t % 2 ^ w ≡ field w n t
cut n s w t all e =
    ap (λ (x : ℕ). n % 2 ^ x / 2 ^ t % 2 ^ w) (sym e)
    ∙ ap (λ (x : ℕ). x % 2 ^ w) (field_of n (s + w) t)
    ∙ narrow (n / 2 ^ t) s w

-- v bits, and w bits behind them
more : (v w n e next : ℕ) → e + w ≡ next → field v n next * 2 ^ w + field w n e ≡ n / 2 ^ e % 2 ^ (v + w)
more v w n e next h =
    ap (λ (x : ℕ). x % 2 ^ v * 2 ^ w + field w n e) (sym (over n e w next h))
    ∙ sym (mod-pow-add (n / 2 ^ e) v w)

padded : List ℕ → List ℕ
padded identity = identity ++ 0 ∷ []

padded_at : (l : List ℕ) (i : ℕ) → get_or (padded l) i 0 ≡ get_or l i 0
unfolding padded
padded_at [] zero = refl
padded_at [] (suc i) = refl
padded_at (x ∷ l) zero = refl
padded_at (x ∷ l) (suc i) = padded_at l i

length_padded : (l : List ℕ) → length (padded l) ≡ suc (length l)
unfolding padded
length_padded [] = refl
length_padded (x ∷ l) = ap suc (length_padded l)

number_padded : (l : List ℕ) → number_from_digits 256 (padded l) ≡ number_from_digits 256 l * 256 + 0
unfolding padded
number_padded l = number_push 256 l 0

four_less : (n : ℕ) → (n * 256 + 0) / 2 ^ 4 ≡ n * 16
four_less n = omega arith

-- the kth value of five bits, by the two bytes that it may be in: s bits of the first come before it
pub value_is : (identity : List ℕ) (k i s t x y : ℕ) → length identity ≡ 32 → ((n : ℕ) → get_or identity n 0 < 256) → k < 52
    → 8 * i + s ≡ 5 * k → s < 8 → s + t ≡ 11 → x ≡ get_or identity i 0 → y ≡ get_or identity (i + 1) 0
    → (x * 256 + y) / 2 ^ t % 32 ≡ get_or (base32_values identity) k 0
value_is identity k i s t x y long low h place small shift first second =
    let n = number_from_digits 256 identity in
    let m = number_from_digits 256 (padded identity) in
    let a = 31 - i in
    let j = 51 - k in
    let wide : length (padded identity) ≡ 33 = length_padded identity ∙ ap suc long in
    let lows : (q : ℕ) → get_or (padded identity) q 0 < 2 ^ 8 = λ q. omega (arith, padded_at identity q, low q) in
    let high : x ≡ field 8 m (8 * suc a) = first ∙ sym (padded_at identity i) ∙ written_at 8 (padded identity) i (suc a) (omega arith) lows in
    let behind : y ≡ field 8 m (8 * a) = second ∙ sym (padded_at identity (i + 1)) ∙ written_at 8 (padded identity) (i + 1) a (omega arith) lows in
    let both : x * 256 + y ≡ m / 2 ^ (8 * a) % 2 ^ 16 =
    ap (λ (z : ℕ). z * 256 + y) high ∙ ap (λ (z : ℕ). field 8 m (8 * suc a) * 256 + z) behind
    ∙ more 8 8 m (8 * a) (8 * suc a) (omega arith) in
    let from : m / 2 ^ 4 ≡ n * 16 = ap (λ (z : ℕ). z / 2 ^ 4) (number_padded identity) ∙ four_less n in
    ap (λ (z : ℕ). z / 2 ^ t % 32) both
    ∙ cut (m / 2 ^ (8 * a)) s 5 t 16 (omega arith)
    ∙ ap (λ (z : ℕ). z % 32) (over m (8 * a) t (4 + 5 * j) (omega arith) ∙ sym (over m 4 (5 * j) (4 + 5 * j) refl) ∙ ap (λ (z : ℕ). z / 2 ^ (5 * j)) from)
    ∙ sym (digit_at 5 52 (n * 16) k j (omega arith))

gathered : (x y z : ℕ) → x * 1024 + y * 32 + z ≡ (x * 32 + y) * 32 + z
gathered x y z = omega arith

-- the kth byte, by the three values that it may be in: s bits of the first come before it
pub byte_is : (values : List ℕ) (k i s t x y z : ℕ) → length values ≡ 52 → AreBase32 values → k < 32
    → 5 * i + s ≡ 8 * k → s < 5 → s + t ≡ 7 → x ≡ get_or values i 0 → y ≡ get_or values (i + 1) 0 → z ≡ get_or values (i + 2) 0
    → (x * 1024 + y * 32 + z) / 2 ^ t % 256 ≡ get_or (identity_of values) k 0
byte_is values k i s t x y z long low h place small shift first second third =
    let n = number_from_digits 32 values in
    let a = 49 - i in
    let j = 31 - k in
    let high : x ≡ field 5 n (5 * suc (suc a)) = first ∙ written_at 5 values i (suc (suc a)) (omega arith) low in
    let behind : y ≡ field 5 n (5 * suc a) = second ∙ written_at 5 values (i + 1) (suc a) (omega arith) low in
    let last : z ≡ field 5 n (5 * a) = third ∙ written_at 5 values (i + 2) a (omega arith) low in
    let two : x * 32 + y ≡ field 10 n (5 * suc a) =
    ap (λ (q : ℕ). q * 32 + y) high ∙ ap (λ (q : ℕ). field 5 n (5 * suc (suc a)) * 32 + q) behind
    ∙ more 5 5 n (5 * suc a) (5 * suc (suc a)) (omega arith) in
    let all : x * 1024 + y * 32 + z ≡ n / 2 ^ (5 * a) % 2 ^ 15 =
    gathered x y z ∙ ap (λ (q : ℕ). q * 32 + z) two ∙ ap (λ (q : ℕ). field 10 n (5 * suc a) * 32 + q) last
    ∙ more 10 5 n (5 * a) (5 * suc a) (omega arith) in
    ap (λ (q : ℕ). q / 2 ^ t % 256) all
    ∙ cut (n / 2 ^ (5 * a)) s 8 t 15 (omega arith)
    ∙ ap (λ (q : ℕ). q % 256) (over n (5 * a) t (4 + 8 * j) (omega arith) ∙ sym (over n 4 (8 * j) (4 + 8 * j) refl))
    ∙ sym (digit_at 8 32 (n / 16) k j (omega arith))

-- a list that has each digit is the digits
pub all_digits : (b count n : ℕ) (xs : List ℕ) → length xs ≡ count → ((k : ℕ) → k < count → get_or xs k 0 ≡ get_or (digits b count n) k 0) → xs ≡ digits b count n
all_digits b count n xs long each =
    ext_get_or 0 xs (digits b count n) (long ∙ sym (length_digits b count n)) (λ k h. each k (omega arith))

pub below_from : (b count n : ℕ) (xs : List ℕ) → 0 < b → xs ≡ digits b count n → (i : ℕ) → get_or xs i 0 < b
below_from b count n xs pos e i = subst (λ (l : List ℕ). get_or l i 0 < b) (sym e) (digits_below b count n pos i)

-- one more element is as in the other list
pub filled : (xs ys : List ℕ) (i x : ℕ) → i < length xs → x ≡ get_or ys i 0 → ((k : ℕ) → k < i → get_or xs k 0 ≡ get_or ys k 0)
    → (k : ℕ) → k < i + 1 → get_or (set xs i x) k 0 ≡ get_or ys k 0
filled xs ys i x room is before =
    subst (λ (v : ℕ). (k : ℕ) → k < i + 1 → get_or (set xs i v) k 0 ≡ get_or ys k 0) (sym is)
    (fill_by_more (λ (n : ℕ). get_or ys n 0) xs i 0 room before)
