-- Fields by their number, in joined lists.
use Rattle.std.proofs.Common.{◌≡◌, ℕ, Bool, true, false, ◌==◌, List, [], ◌∷◌, ◌++◌, map, refl, sym, ap, ◌∙◌, append_assoc, if◌then◌else◌}
use Rattle.std.proofs.lemmas.List.{map-append}
use Rattle.bep_wire.specs.Content.{Content, Item}
use Rattle.bep_messages.specs.Tables.{Scalar, Int32, Int64, Uint32, Uint64, Enum, Boolean, Words, Octets, Digest, Val}
use Rattle.bep_messages.specs.Contents.{contents, number_in, bytes_in, numbers, byte_lists, last, low32, signed32, signed64, nonzero, scalar}

consed : (b : Bool) (c : Content) (xs ys : List Content) → (if b then c ∷ (xs ++ ys) else xs ++ ys) ≡ (if b then c ∷ xs else xs) ++ ys
consed true c xs ys = refl
consed false c xs ys = refl

pub contents-append : (n : ℕ) (xs ys : List Item) → contents n (xs ++ ys) ≡ contents n xs ++ contents n ys
contents-append n [] ys = refl
contents-append n (x ∷ xs) ys =
    ap (λ (l : List Content). if n == x.number then x.content ∷ l else l) (contents-append n xs ys) ∙ consed (n == x.number) x.content (contents n xs) (contents n ys)

pub numbers-append : (xs ys : List Content) → numbers (xs ++ ys) ≡ numbers xs ++ numbers ys
numbers-append [] ys = refl
numbers-append (x ∷ xs) ys = ap (λ (l : List ℕ). number_in x ++ l) (numbers-append xs ys) ∙ sym (append_assoc (number_in x) (numbers xs) (numbers ys))

pub byte_lists-append : (xs ys : List Content) → byte_lists (xs ++ ys) ≡ byte_lists xs ++ byte_lists ys
byte_lists-append [] ys = refl
byte_lists-append (x ∷ xs) ys = ap (λ (l : List (List ℕ)). bytes_in x ++ l) (byte_lists-append xs ys) ∙ sym (append_assoc (bytes_in x) (byte_lists xs) (byte_lists ys))

pub byte_lists_of-append : (n : ℕ) (xs ys : List Item) → byte_lists (contents n (xs ++ ys)) ≡ byte_lists (contents n xs) ++ byte_lists (contents n ys)
byte_lists_of-append n xs ys = ap byte_lists (contents-append n xs ys) ∙ byte_lists-append (contents n xs) (contents n ys)

last-append : {A : Type 0} (d : A) (xs ys : List A) → last d (xs ++ ys) ≡ last (last d xs) ys
last-append d [] ys = refl
last-append d (x ∷ xs) ys = last-append x xs ys

last_numbers : {A : Type 0} (f : ℕ → A) (d : A) (xs ys : List Content) → last (last d (map f (numbers xs))) (map f (numbers ys)) ≡ last d (map f (numbers (xs ++ ys)))
last_numbers f d xs ys =
    sym (ap (λ (l : List ℕ). last d (map f l)) (numbers-append xs ys) ∙ ap (last d) (map-append f (numbers xs) (numbers ys)) ∙ last-append d (map f (numbers xs)) (map f (numbers ys)))

last_bytes : (d : List ℕ) (xs ys : List Content) → last (last d (byte_lists xs)) (byte_lists ys) ≡ last d (byte_lists (xs ++ ys))
last_bytes d xs ys = sym (ap (last d) (byte_lists-append xs ys) ∙ last-append d (byte_lists xs) (byte_lists ys))

pub scalar-append : (k : Scalar) (old : Val k) (xs ys : List Content) → scalar k (scalar k old xs) ys ≡ scalar k old (xs ++ ys)
scalar-append Int32 old xs ys = last_numbers signed32 old xs ys
scalar-append Int64 old xs ys = last_numbers signed64 old xs ys
scalar-append Uint32 old xs ys = last_numbers low32 old xs ys
scalar-append Uint64 old xs ys = sym (ap (last old) (numbers-append xs ys) ∙ last-append old (numbers xs) (numbers ys))
scalar-append Enum old xs ys = last_numbers signed32 old xs ys
scalar-append Boolean old xs ys = last_numbers nonzero old xs ys
scalar-append Words old xs ys = last_bytes old xs ys
scalar-append Octets old xs ys = last_bytes old xs ys
scalar-append Digest old xs ys = last_bytes old xs ys

pub scalar-none : (k : Scalar) (old : Val k) → scalar k old [] ≡ old
scalar-none Int32 old = refl
scalar-none Int64 old = refl
scalar-none Uint32 old = refl
scalar-none Uint64 old = refl
scalar-none Enum old = refl
scalar-none Boolean old = refl
scalar-none Words old = refl
scalar-none Octets old = refl
scalar-none Digest old = refl
