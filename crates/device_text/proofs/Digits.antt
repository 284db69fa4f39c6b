-- The number that digits write and the digits of the number are inverse.
use Rattle.std.proofs.Common.{◌≡◌, ℕ, zero, suc, ◌+◌, ◌*◌, ◌/◌, ◌%◌, ◌^◌, ◌<◌, ◌≤◌, List, [], ◌∷◌, ◌++◌, length, take, get_or, refl, sym, ap, subst, ◌∙◌, arith}
use Rattle.std.specs.Int.Digits.{number_from_digits, AllBelowBase}
use Rattle.std.proofs.lemmas.Int.Digits.{number_push, number_lt}
use Rattle.std.proofs.lemmas.Nat.{div-mul-add, div-add-mod'}
use Rattle.std.proofs.Math.Nat.{div-lt_iff_lt-mul, pow-suc, pow-zero}
use Rattle.std.proofs.Math.Seq.{take-suc}
use Rattle.sync_record.specs.Devices.{Identity}
use Rattle.device_text.specs.Base32.{digits, base32_values, identity_of}

push-mod : (n b d : ℕ) → d < b → (n * b + d) % b ≡ d
push-mod n b d h = omega (arith, div-mul-add n b d h, div-add-mod' (n * b + d) b, ap (λ (q : ℕ). q * b) (div-mul-add n b d h))

-- the digits of what the first n write are these
pub digits_take : (b : ℕ) (xs : List ℕ) → ((i : ℕ) → get_or xs i 0 < b) → (n : ℕ) → n ≤ length xs
    → digits b n (number_from_digits b (take n xs)) ≡ take n xs
unfolding digits
digits_take b xs low zero h = refl
digits_take b xs low (suc n) h =
    let d = get_or xs n 0 in
    let front = number_from_digits b (take n xs) in
    let lt : n < length xs = omega arith in
    let one : take (suc n) xs ≡ take n xs ++ d ∷ [] = take-suc xs n 0 lt in
    let whole : number_from_digits b (take (suc n) xs) ≡ front * b + d = ap (number_from_digits b) one ∙ number_push b (take n xs) d in
    ap (λ (x : ℕ). digits b n (x / b) ++ x % b ∷ []) whole
    ∙ ap (λ (x : ℕ). digits b n x ++ (front * b + d) % b ∷ []) (div-mul-add front b d (low n))
    ∙ ap (λ (x : ℕ). digits b n front ++ x ∷ []) (push-mod front b d (low n))
    ∙ ap (λ (l : List ℕ). l ++ d ∷ []) (digits_take b xs low n (omega arith))
    ∙ sym one

pub take-all : (xs : List ℕ) → take (length xs) xs ≡ xs
take-all [] = refl
take-all (x ∷ xs) = ap (λ (l : List ℕ). x ∷ l) (take-all xs)

pub digits_number : (b : ℕ) (xs : List ℕ) (n : ℕ) → length xs ≡ n → ((i : ℕ) → get_or xs i 0 < b)
    → digits b n (number_from_digits b xs) ≡ xs
digits_number b xs n h low =
    subst (λ (k : ℕ). digits b k (number_from_digits b xs) ≡ xs) h
    (ap (λ (l : List ℕ). digits b (length xs) (number_from_digits b l)) (sym (take-all xs))
    ∙ digits_take b xs low (length xs) (omega arith) ∙ take-all xs)

-- a number that so many digits can write is what its digits write
pub number_digits : (b count n : ℕ) → 0 < b → n < b ^ count → number_from_digits b (digits b count n) ≡ n
unfolding digits
number_digits b zero n pos h = omega (arith, pow-zero b)
number_digits b (suc count) n pos h =
    let small : n / b < b ^ count = (div-lt_iff_lt-mul {k = b} {x = n} {y = b ^ count} pos).1 (omega (arith, pow-suc b count)) in
    number_push b (digits b count (n / b)) (n % b)
    ∙ ap (λ (x : ℕ). x * b + n % b) (number_digits b count (n / b) pos small)
    ∙ div-add-mod' n b

length_push : (xs : List ℕ) (x : ℕ) → length (xs ++ x ∷ []) ≡ suc (length xs)
length_push [] x = refl
length_push (y ∷ xs) x = ap suc (length_push xs x)

pub length_digits : (b count n : ℕ) → length (digits b count n) ≡ count
unfolding digits
length_digits b zero n = refl
length_digits b (suc count) n = length_push (digits b count (n / b)) (n % b) ∙ ap suc (length_digits b count (n / b))

below_push : (b : ℕ) (xs : List ℕ) (d : ℕ) → 0 < b → ((i : ℕ) → get_or xs i 0 < b) → d < b → (i : ℕ) → get_or (xs ++ d ∷ []) i 0 < b
below_push b [] d pos low h zero = h
below_push b [] d pos low h (suc i) = pos
below_push b (x ∷ xs) d pos low h zero = low zero
below_push b (x ∷ xs) d pos low h (suc i) = below_push b xs d pos (λ j. low (suc j)) h i

pub digits_below : (b count n : ℕ) → 0 < b → (i : ℕ) → get_or (digits b count n) i 0 < b
unfolding digits
digits_below b zero n pos i = pos
digits_below b (suc count) n pos i = below_push b (digits b count (n / b)) (n % b) pos (digits_below b count (n / b) pos) (omega arith) i

all_below : (b : ℕ) (xs : List ℕ) → ((i : ℕ) → get_or xs i 0 < b) → AllBelowBase b xs
all_below b [] low = tt
all_below b (x ∷ xs) low = (low zero, all_below b xs (λ i. low (suc i)))

times-over : (n : ℕ) → n * 16 / 16 ≡ n
times-over n = omega arith

-- what is written in base32 is read as the same
pub identity_again : (identity : Identity) → length identity ≡ 32 → ((i : ℕ) → get_or identity i 0 < 256)
    → identity_of (base32_values identity) ≡ identity
identity_again identity long low =
    let n = number_from_digits 256 identity in
    let small : n < 256 ^ 32 = subst (λ (k : ℕ). n < 256 ^ k) long (number_lt 256 identity (all_below 256 identity low)) in
    ap (λ (x : ℕ). digits 256 32 (x / 16)) (number_digits 32 52 (n * 16) (omega arith) (omega arith))
    ∙ ap (digits 256 32) (times-over n)
    ∙ digits_number 256 identity 32 long low
