-- Ids that are listed once each.
use Rattle.std.proofs.Common.{◌≡◌, ◌≢◌, inl, inr, map, ℕ, Bool, true, false, List, [], ◌∷◌, ◌++◌, refl, sym, ap, ◌∙◌}
use Rattle.std.specs.Prelude.{◌||◌, bytes_eq, cond, filter, flat_map, not}
use Rattle.std.specs.List.{list_any}
use Rattle.std.proofs.lemmas.Bool.{false_from_ne_true, true≢false}
use Rattle.std.proofs.lemmas.List.{append-nil}
use Rattle.std.proofs.lemmas.List.Elements.{filter-append}
use Rattle.folder_core.proofs.ListTests.{In, alike_bytes, same_bytes}
use Rattle.node_journal.specs.declared.frame.Frame.{Frame}
use Rattle.node_replay.specs.Recovered.{firsts}

abbrev is_other : List ℕ → List ℕ → Bool
is_other z y = not (bytes_eq y z)

any-other : (x z : List ℕ) → bytes_eq z x ≡ false → (ys : List (List ℕ)) → list_any (λ y. bytes_eq y x) (filter (is_other z) ys) ≡ list_any (λ y. bytes_eq y x) ys
any-other x z other [] = refl
any-other x z other (y ∷ ys) =
    elim (bytes_eq y z) as (λ b. bytes_eq y z ≡ b → list_any (λ y. bytes_eq y x) (cond (not b) (y ∷ filter (is_other z) ys) (filter (is_other z) ys)) ≡ (bytes_eq y x || list_any (λ y. bytes_eq y x) ys)) [
      | true ↦ λ t. any-other x z other ys ∙ sym (ap (λ b. b || list_any (λ y. bytes_eq y x) ys) (ap (λ n. bytes_eq n x) (same_bytes y z t) ∙ other))
      | false ↦ λ t. ap (λ b. bytes_eq y x || b) (any-other x z other ys)
    ] refl

pub any-firsts : (x : List ℕ) (xs : List (List ℕ)) → list_any (λ y. bytes_eq y x) (firsts xs) ≡ list_any (λ y. bytes_eq y x) xs
any-firsts x [] = refl
any-firsts x (z ∷ xs) =
    elim (bytes_eq z x) as (λ b. bytes_eq z x ≡ b → (b || list_any (λ y. bytes_eq y x) (filter (is_other z) (firsts xs))) ≡ (b || list_any (λ y. bytes_eq y x) xs)) [
      | true ↦ λ t. refl
      | false ↦ λ t. any-other x z t (firsts xs) ∙ any-firsts x xs
    ] refl

module _ (x z : List ℕ) (fs : List (List ℕ)) where
  pushed : (b : Bool) → bytes_eq x z ≡ b → filter (is_other z) (fs ++ x ∷ []) ≡ filter (is_other z) fs ++ cond (not b) (x ∷ []) []
  pushed b e = filter-append (is_other z) fs (x ∷ []) ∙ ap (λ t. filter (is_other z) fs ++ cond (not t) (x ∷ []) []) e

  turned : (b : Bool) → bytes_eq z x ≡ b → bytes_eq x z ≡ b
  turned true t = alike_bytes x z (sym (same_bytes z x t))
  turned false f = false_from_ne_true (bytes_eq x z) (λ t. true≢false (sym (alike_bytes z x (sym (same_bytes x z t))) ∙ f))

  step : (a b : Bool) → bytes_eq z x ≡ a → z ∷ filter (is_other z) (cond b fs (fs ++ x ∷ [])) ≡ cond (a || b) (z ∷ filter (is_other z) fs) (z ∷ (filter (is_other z) fs ++ x ∷ []))
  step true true e = refl
  step true false e = ap (λ l. z ∷ l) (pushed true (turned true e) ∙ append-nil (filter (is_other z) fs))
  step false true e = refl
  step false false e = ap (λ l. z ∷ l) (pushed false (turned false e))

firsts-push : (x : List ℕ) (xs : List (List ℕ)) → firsts (xs ++ x ∷ []) ≡ cond (list_any (λ y. bytes_eq y x) xs) (firsts xs) (firsts xs ++ x ∷ [])
firsts-push x [] = refl
firsts-push x (z ∷ xs) =
    ap (λ fs. z ∷ filter (is_other z) fs) (firsts-push x xs)
    ∙ step x z (firsts xs) (bytes_eq z x) (list_any (λ y. bytes_eq y x) xs) refl

-- one more id of which it is known whether it is there
pub added : (x : List ℕ) (xs ids : List (List ℕ)) (b : Bool) → ids ≡ firsts xs → b ≡ list_any (λ y. bytes_eq y x) ids → cond b ids (ids ++ x ∷ []) ≡ firsts (xs ++ x ∷ [])
added x xs ids b is has =
    let known : b ≡ list_any (λ y. bytes_eq y x) xs = has ∙ ap (list_any (λ y. bytes_eq y x)) is ∙ any-firsts x xs in
    (λ i. cond (known i) (is i) (is i ++ x ∷ [])) ∙ sym (firsts-push x xs)

-- ---- where there is an id at all

pub some-firsts : (xs : List (List ℕ)) → xs ≢ [] → firsts xs ≢ []
some-firsts [] some = λ e. some refl
some-firsts (x ∷ xs) some = λ e. none x (filter (is_other x) (firsts xs)) e
  where
    none : (y : List ℕ) (ys : List (List ℕ)) → y ∷ ys ≡ [] → ⊥
    none y ys e = cc

pub some-mapped : {A B : Type 0} (f : A → B) (xs : List A) → xs ≢ [] → map f xs ≢ []
some-mapped f [] some = λ e. some refl
some-mapped {A} {B} f (x ∷ xs) some = λ e. none (f x) (map f xs) e
  where
    none : (y : B) (ys : List B) → y ∷ ys ≡ [] → ⊥
    none y ys e = cc

pub some-before : {A : Type 0} (xs ys : List A) → xs ≢ [] → xs ++ ys ≢ []
some-before [] ys some = λ e. some refl
some-before {A} (x ∷ xs) ys some = λ e. none x (xs ++ ys) e
  where
    none : (z : A) (zs : List A) → z ∷ zs ≡ [] → ⊥
    none z zs e = cc

pub some-behind : {A : Type 0} (xs ys : List A) → ys ≢ [] → xs ++ ys ≢ []
some-behind [] ys some = some
some-behind {A} (x ∷ xs) ys some = λ e. none x (xs ++ ys) e
  where
    none : (z : A) (zs : List A) → z ∷ zs ≡ [] → ⊥
    none z zs e = cc

pub some-parts : (fs : List Frame) (f : Frame) → In f fs → f.folders ≢ [] → flat_map (λ f. f.folders) fs ≢ []
some-parts [] f i some = absurd i
some-parts (g ∷ gs) f (inl e) some = some-before g.folders (flat_map (λ f. f.folders) gs) (λ none. some (ap (λ (x : Frame). x.folders) e ∙ none))
some-parts (g ∷ gs) f (inr i) some = some-behind g.folders (flat_map (λ f. f.folders) gs) (some-parts gs f i some)
