-- Something that holds of each element of a list, or of none.
use Rattle.std.proofs.Common.{◌≡◌, ◌≢◌, ℕ, zero, suc, ◌+◌, ◌<◌, List, [], ◌∷◌, ◌++◌, get_or, length, map, take, refl, sym, ap, subst, ◌∙◌, arith, inl, inr}
use Rattle.std.specs.List.{AllByRecursion}
use Rattle.std.specs.Prelude.{IfErr, IfOk, Result, Ok, Err}
use Rattle.std.proofs.lemmas.List.{take_more}
use Rattle.folder_core.proofs.ListTests.{In}
use Rattle.folder_core.proofs.ReadAnswers.{all_at}

pub all-of : {A : Type 0} (P : A → Type 0) → ((x : A) → P x) → (xs : List A) → AllByRecursion P xs
all-of P each [] = tt
all-of P each (x ∷ xs) = (each x, all-of P each xs)

pub all-then : {A : Type 0} (P Q : A → Type 0) → ((x : A) → P x → Q x) → (xs : List A) → AllByRecursion P xs → AllByRecursion Q xs
all-then P Q each [] h = tt
all-then P Q each (x ∷ xs) h = (each x h.0, all-then P Q each xs h.1)

pub all-map : {A B : Type 0} (P : B → Type 0) (f : A → B) (xs : List A) → AllByRecursion (λ x. P (f x)) xs → AllByRecursion P (map f xs)
all-map P f [] h = tt
all-map P f (x ∷ xs) h = (h.0, all-map P f xs h.1)

pub of-all-map : {A B : Type 0} (P : B → Type 0) (f : A → B) (xs : List A) → AllByRecursion P (map f xs) → AllByRecursion (λ x. P (f x)) xs
of-all-map P f [] h = tt
of-all-map P f (x ∷ xs) h = (h.0, of-all-map P f xs h.1)

pub all-push : {A : Type 0} (P : A → Type 0) (xs : List A) (x : A) → AllByRecursion P xs → P x → AllByRecursion P (xs ++ x ∷ [])
all-push P [] x h p = (p, tt)
all-push P (y ∷ ys) x h p = (h.0, all-push P ys x h.1 p)

-- the element at a place of a list
pub at-place : {A : Type 0} (xs : List A) (i : ℕ) (x : A) → i < length xs → x ≡ get_or xs i x → In x xs
at-place [] i x lt is = absurd (omega arith)
at-place (y ∷ ys) zero x lt is = inl is
at-place (y ∷ ys) (suc i) x lt is = inr (at-place ys i x (omega arith) is)

pub more : {A : Type 0} (xs : List A) (i : ℕ) (x : A) → i < length xs → x ≡ get_or xs i x → take (i + 1) xs ≡ take i xs ++ x ∷ []
more xs i x lt is = take_more xs i x lt ∙ ap (λ y. take i xs ++ y ∷ []) (sym is)

pub all-more : {A : Type 0} (P : A → Type 0) (xs : List A) (i : ℕ) (x : A) → i < length xs → x ≡ get_or xs i x → AllByRecursion P (take i xs) → P x → AllByRecursion P (take (i + 1) xs)
all-more P xs i x lt is h p = subst (AllByRecursion P) (sym (more xs i x lt is)) (all-push P (take i xs) x h p)

-- it doesn't hold of all where it doesn't hold of one
pub not-all : {A : Type 0} (P : A → Type 0) (xs : List A) (i : ℕ) (x : A) → i < length xs → x ≡ get_or xs i x → ¬ (P x) → ¬ (AllByRecursion P xs)
not-all P xs i x lt is refuted all = refuted (all_at P xs x all (at-place xs i x lt is))

pub both-ok : {A E : Type 0} {P Q R : A → Type 0} (r : Result A E) → ((x : A) → P x → Q x → R x) → IfOk r P → IfOk r Q → IfOk r R
both-ok (Ok x) each p q = each x p q
both-ok (Err e) each p q = tt

-- a list with an element isn't empty
pub some-at : {A : Type 0} (xs : List A) (i : ℕ) → i < length xs → xs ≢ []
some-at xs i lt none = absurd (let n : length xs ≡ 0 = ap length none in omega (arith, lt))

pub err-then : {A E : Type 0} {P Q : E → Type 0} (r : Result A E) → ((e : E) → P e → Q e) → IfErr r P → IfErr r Q
err-then (Ok x) each h = tt
err-then (Err e) each h = each e h

-- nothing holds of an element where there is one
pub not-each : {A : Type 0} (xs : List A) → xs ≢ [] → ¬ (AllByRecursion (λ x. ⊥) xs)
not-each [] some all = some refl
not-each (x ∷ xs) some all = all.0

-- the same of a list that is another one
pub not-in : {A E : Type 0} (P : E → A → Type 0) (xs ys : List A) → xs ≡ ys → (i : ℕ) (x : A) → i < length xs → x ≡ get_or xs i x → (e : E) → ¬ (P e x) → ¬ (AllByRecursion (P e) ys)
not-in P xs ys same i x lt is e refuted all = not-all (P e) xs i x lt is refuted (subst (AllByRecursion (P e)) (sym same) all)
