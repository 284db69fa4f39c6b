-- Rows that are written: one after the other, element by element, and with a head put before them.
use Rattle.std.proofs.Common.{◌≡◌, ℕ, ◌+◌, ◌<◌, ◌≤◌, List, [], ◌∷◌, ◌++◌, length, get_or, take, drop, map, refl, sym, ap, subst, ◌∙◌, append_assoc, arith}
use Rattle.std.specs.List.{AllByRecursion}
use Rattle.std.specs.Prelude.{Result, Ok, Err, OnErr}
use Rattle.std.proofs.lemmas.List.{take_more, append-nil, map-append, length-append, take-append-drop}
use Rattle.std.proofs.lemmas.Grind.{flat_map-append}
use Rattle.std.proofs.Math.Seq.{drop-append_seam, take-append_seam}
use Rattle.bep_wire.specs.Written.{key, shortest, bytes_field}
use Rattle.bep_messages.specs.Forms.{bytes_form, list_form}
use Rattle.bep_messages.specs.Writing.{Writing, Adds, Lacks, len}

-- no row
pub adds_none : (w : Writing) → Adds w [] w
adds_none w = record { ok = sym (append-nil w.written); kept = refl; longer = omega arith; capacity = omega arith }

-- a row, and those after it
infixr 4 ◌then◌
pub ◌then◌ : {a : Writing} {row : List ℕ} {b : Writing} {rest : List ℕ} {z : Writing} → Adds a row b → Adds b rest z → Adds a (row ++ rest) z
◌then◌ {a} {row} {b} {rest} {z} p q = record {
  ok = q.ok ∙ ap (λ (l : List ℕ). l ++ rest) p.ok ∙ append_assoc a.written row rest;
  kept = q.kept ∙ p.kept;
  longer = omega (arith, p.longer, q.longer, length-append row rest);
  capacity = omega (arith, p.capacity, q.capacity);
}

-- no room for a row, whatever comes after it
pub lacks_here : {a : Writing} {row : List ℕ} (rest : List ℕ) {z : Writing} → Lacks a row z → Lacks a (row ++ rest) z
lacks_here {a} {row} rest {z} p = record { full = omega (arith, p.full, length-append row rest); kept = p.kept; capacity = p.capacity }

-- a row, and no room for those after it
infixr 4 ◌until◌
pub ◌until◌ : {a : Writing} {row : List ℕ} {b : Writing} {rest : List ℕ} {z : Writing} → Adds a row b → Lacks b rest z → Lacks a (row ++ rest) z
◌until◌ {a} {row} {b} {rest} {z} p q = record {
  full = omega (arith, p.longer, p.capacity, q.full, length-append row rest);
  kept = q.kept ∙ p.kept;
  capacity = omega (arith, p.capacity, q.capacity);
}

-- what the exit of a `?` ensures
pub on_err : {T E P : Type 0} (r : Result T E) → P → OnErr r P
on_err (Ok x) p = tt
on_err (Err e) p = p

-- ---- a head before what was written

head_put : (n from : ℕ) (old form written now : List ℕ) → from ≡ length old → written ≡ old ++ form → now ≡ take from written ++ bytes_field n (drop from written) → now ≡ old ++ bytes_field n form
head_put n from old form written now e is put =
    let front : take from written ≡ old = ap (take from) is ∙ ap (λ (k : ℕ). take k (old ++ form)) e ∙ take-append_seam old form in
    let back : drop from written ≡ form = ap (drop from) is ∙ ap (λ (k : ℕ). drop k (old ++ form)) e ∙ drop-append_seam old form in
    put ∙ rw (front, back) refl

some_form : (n from : ℕ) (old form written now : List ℕ) → from ≡ length old → written ≡ old ++ form → from < length written → now ≡ old ++ bytes_field n form → now ≡ old ++ bytes_form n form
unfolding bytes_form
some_form n from old [] written now e is lt put = absurd (omega (arith, e, ap length is, length-append old []))
some_form n from old (b ∷ form) written now e is lt put = put

no_form : (n from : ℕ) (old form written : List ℕ) → from ≡ length old → written ≡ old ++ form → length written ≤ from → written ≡ old ++ bytes_form n form
unfolding bytes_form
no_form n from old [] written e is le = is
no_form n from old (b ∷ form) written e is le = absurd (omega (arith, e, ap length is, length-append old (b ∷ form)))

-- ---- their lengths

field_within : (n : ℕ) (bytes : List ℕ) → length bytes ≤ length (bytes_field n bytes)
field_within n bytes = omega (arith, length-append (key n 2) (shortest (length bytes) ++ bytes), length-append (shortest (length bytes)) bytes)

-- a message's form is not longer than its row
form_within : (n : ℕ) (form : List ℕ) → length form ≤ length (bytes_form n form)
unfolding bytes_form
form_within n [] = omega arith
form_within n (b ∷ form) = field_within n (b ∷ form)

-- what is there from a place on is what was written from there on
written_from : (from : ℕ) (old form written : List ℕ) → from ≡ length old → written ≡ old ++ form → drop from written ≡ form
written_from from old form written e is = ap (drop from) is ∙ ap (λ (k : ℕ). drop k (old ++ form)) e ∙ drop-append_seam old form

some_row : (n from : ℕ) (old form written : List ℕ) → from ≡ length old → written ≡ old ++ form → from < length written → bytes_form n form ≡ bytes_field n form
unfolding bytes_form
some_row n from old [] written e is lt = absurd (omega (arith, e, ap length is, length-append old []))
some_row n from old (b ∷ form) written e is lt = refl

no_row : (n from : ℕ) (old form written : List ℕ) → from ≡ length old → written ≡ old ++ form → length written ≤ from → bytes_form n form ≡ form
unfolding bytes_form
no_row n from old [] written e is le = refl
no_row n from old (b ∷ form) written e is le = absurd (omega (arith, e, ap length is, length-append old (b ∷ form)))

-- ---- a message's row: its form with a head, or nothing where the form is empty

pub one_put : (n : ℕ) {from : ℕ} {a : Writing} {form : List ℕ} {b c : Writing} → from ≡ length a.written → Adds a form b → from < length b.written
    → c.written ≡ take from b.written ++ bytes_field n (drop from b.written) → c.kept ≡ b.kept
    → len c + length (drop from b.written) ≡ len b + length (bytes_field n (drop from b.written)) → b.capacity ≤ c.capacity
    → Adds a (bytes_form n form) c
one_put n {from} {a} {form} {b} {c} e p lt put kept longer capacity =
    let row = some_row n from a.written form b.written e p.ok lt in
    let counted = rw (written_from from a.written form b.written e p.ok) at longer in
    record {
      ok = some_form n from a.written form b.written c.written e p.ok lt (head_put n from a.written form b.written c.written e p.ok put);
      kept = kept ∙ p.kept;
      longer = omega (arith, ap length row, counted, p.longer);
      capacity = omega (arith, p.capacity, capacity);
    }

pub one_empty : (n : ℕ) {from : ℕ} {a : Writing} {form : List ℕ} {b : Writing} → from ≡ length a.written → Adds a form b → length b.written ≤ from → Adds a (bytes_form n form) b
one_empty n {from} {a} {form} {b} e p le = record {
  ok = no_form n from a.written form b.written e p.ok le;
  kept = p.kept;
  longer = omega (arith, ap length (no_row n from a.written form b.written e p.ok le), p.longer);
  capacity = p.capacity;
}

pub one_unwritten : (n : ℕ) {a : Writing} {form : List ℕ} {z : Writing} → Lacks a form z → Lacks a (bytes_form n form) z
one_unwritten n {a} {form} {z} p = record { full = omega (arith, p.full, form_within n form); kept = p.kept; capacity = p.capacity }

pub one_without_head : (n : ℕ) {from : ℕ} {a : Writing} {form : List ℕ} {b c : Writing} → from ≡ length a.written → Adds a form b → from < length b.written
    → b.capacity + length (drop from b.written) < len b + length (bytes_field n (drop from b.written)) → c.kept ≡ b.kept → b.capacity ≤ c.capacity
    → Lacks a (bytes_form n form) c
one_without_head n {from} {a} {form} {b} {c} e p lt full kept capacity =
    let row = some_row n from a.written form b.written e p.ok lt in
    let put = rw (written_from from a.written form b.written e p.ok) at full in
    record {
      full = omega (arith, ap length row, put, p.longer, p.capacity);
      kept = kept ∙ p.kept;
      capacity = omega (arith, p.capacity, capacity);
    }

-- ---- lists

next : {A : Type 0} (xs : List A) (i : ℕ) (x : A) → i < length xs → x ≡ get_or xs i x → take (i + 1) xs ≡ take i xs ++ x ∷ []
next xs i x lt is = take_more xs i x lt ∙ ap (λ (y : _). take i xs ++ y ∷ []) (sym is)

mapped_next : {A B : Type 0} (f : A → B) (xs : List A) (i : ℕ) (x : A) → i < length xs → x ≡ get_or xs i x → map f (take (i + 1) xs) ≡ map f (take i xs) ++ f x ∷ []
mapped_next f xs i x lt is = ap (map f) (next xs i x lt is) ∙ map-append f (take i xs) (x ∷ [])

pub list_none : {B : Type 0} (n : ℕ) (form : B → List ℕ) (w : Writing) → Adds w (list_form n form []) w
unfolding list_form
list_none n form w = adds_none w

-- the form of one element more
list_push : {A B : Type 0} (n : ℕ) (form : B → List ℕ) (f : A → B) (xs : List A) (i : ℕ) (x : A) → i < length xs → x ≡ get_or xs i x
    → list_form n form (map f (take (i + 1) xs)) ≡ list_form n form (map f (take i xs)) ++ bytes_field n (form (f x))
unfolding list_form
list_push n form f xs i x lt is =
    let here = list_form n form (map f (take i xs)) in
    ap (list_form n form) (mapped_next f xs i x lt is) ∙ flat_map-append (λ y. bytes_field n (form y)) (map f (take i xs)) (f x ∷ []) ∙ ap (λ (l : List ℕ). here ++ l) (append-nil (bytes_field n (form (f x))))

pub list_more : {A B : Type 0} (n : ℕ) (form : B → List ℕ) (f : A → B) (xs : List A) (i : ℕ) (x : A) {first so_far now : Writing} → i < length xs → x ≡ get_or xs i x
    → Adds first (list_form n form (map f (take i xs))) so_far → Adds so_far (bytes_field n (form (f x))) now → Adds first (list_form n form (map f (take (i + 1) xs))) now
list_more n form f xs i x {first} {so_far} {now} lt is before after =
    rw (list_push n form f xs i x lt is) (before then after)

list_split : {A B : Type 0} (n : ℕ) (form : B → List ℕ) (f : A → B) (xs ys : List A) → list_form n form (map f (xs ++ ys)) ≡ list_form n form (map f xs) ++ list_form n form (map f ys)
unfolding list_form
list_split n form f xs ys = ap (list_form n form) (map-append f xs ys) ∙ flat_map-append (λ y. bytes_field n (form y)) (map f xs) (map f ys)

-- the form of some elements and of the next is part of the form of all
list_parts : {A B : Type 0} (n : ℕ) (form : B → List ℕ) (f : A → B) (xs : List A) (i : ℕ) (x : A) → i < length xs → x ≡ get_or xs i x
    → list_form n form (map f xs) ≡ list_form n form (map f (take i xs)) ++ (bytes_field n (form (f x)) ++ list_form n form (map f (drop (i + 1) xs)))
list_parts n form f xs i x lt is =
    let rest = list_form n form (map f (drop (i + 1) xs)) in
    ap (λ (ys : List _). list_form n form (map f ys)) (sym (take-append-drop (i + 1) xs))
    ∙ list_split n form f (take (i + 1) xs) (drop (i + 1) xs)
    ∙ ap (λ (l : List ℕ). l ++ rest) (list_push n form f xs i x lt is)
    ∙ append_assoc (list_form n form (map f (take i xs))) (bytes_field n (form (f x))) rest

pub list_lacks : {A B : Type 0} (n : ℕ) (form : B → List ℕ) (f : A → B) (xs : List A) (i : ℕ) (x : A) {first so_far now : Writing} → i < length xs → x ≡ get_or xs i x
    → Adds first (list_form n form (map f (take i xs))) so_far → Lacks so_far (bytes_field n (form (f x))) now → Lacks first (list_form n form (map f xs)) now
list_lacks n form f xs i x {first} {so_far} {now} lt is before after =
    rw (list_parts n form f xs i x lt is) (before until lacks_here _ after)

all_push : {B : Type 0} (P : B → Type 0) (xs : List B) (x : B) → AllByRecursion P xs → P x → AllByRecursion P (xs ++ x ∷ [])
all_push P [] x all here = (here, tt)
all_push P (y ∷ xs) x all here = (all.0, all_push P xs x all.1 here)

pub all_more : {A B : Type 0} (P : B → Type 0) (f : A → B) (xs : List A) (i : ℕ) (x : A) → i < length xs → x ≡ get_or xs i x → AllByRecursion P (map f (take i xs)) → P (f x) → AllByRecursion P (map f (take (i + 1) xs))
all_more P f xs i x lt is all here = subst (AllByRecursion P) (sym (mapped_next f xs i x lt is)) (all_push P (map f (take i xs)) (f x) all here)

pub map_id : (xs : List (List ℕ)) → map (λ t. t) xs ≡ xs
map_id [] = refl
map_id (x ∷ xs) = ap (λ (l : List (List ℕ)). x ∷ l) (map_id xs)
