-- What is told is exactly what differs.
use Rattle.std.proofs.Common.{◌≡◌, ℕ, zero, suc, List, [], ◌∷◌, map, Bool, true, false, cond, refl, sym, ap, subst, ◌∙◌, ◌⊎◌, inl, inr, ⊎_elim, arith}
use Rattle.std.specs.Prelude.{◌≢◌, ◌↔◌, ◌&&◌, ◌==◌, Contains, Option, Some, None, bytes_eq, filter, find, is_none, not, option_map}
use Rattle.std.specs.List.Sorted.{IsStrictlySortedBy}
use Rattle.std.proofs.lemmas.Bool.{and_parts, eqb-true}
use Rattle.std.proofs.lemmas.Bool.Decides.{Decides-int_eq}
use Rattle.std.proofs.lemmas.Grind.{common_steps}
use Rattle.std.proofs.lemmas.List.Elements.{Contains-append_cases, Contains-append_left, Contains-append_right}
use Rattle.std.specs.Ordering.{int_eq}
use Rattle.folder_look.specs.declared.facts.EntryKind.{EntryKind}
use Rattle.folder_look.specs.declared.facts.EntryKind.TheVariants.{File, Directory, Other}
use Rattle.folder_look.specs.declared.facts.Facts.{Facts}
use Rattle.folder_look.specs.Tables.{Named, are_same, changes, facts_of, gone, is_new, news, same_kind}
use Rattle.folder_look.proofs.OrderLemmas.{order}
use Rattle.folder_look.proofs.TableLemmas.{itself, look-found, same_bytes}

-- ---- elements of a list

cons-cases : {X : Type 0} (x : X) (xs : List X) (y : X) → Contains (x ∷ xs) y → (x ≡ y) ⊎ Contains xs y
cons-cases x xs y (zero, lt, at) = inl at
cons-cases x xs y (suc k, lt, at) = inr (k, omega arith, at)

head : {X : Type 0} (x : X) (xs : List X) (y : X) → x ≡ y → Contains (x ∷ xs) y
head x xs y is = (zero, omega arith, is)

later : {X : Type 0} (x : X) (xs : List X) (y : X) → Contains xs y → Contains (x ∷ xs) y
later x xs y (k, lt, at) = (suc k, omega arith, at)

-- a name of the entries that pass is the name of one that does
told-from : (p : Named → Bool) (es : List Named) (n : List ℕ) → Contains (map (λ (e : Named). e.0) (filter p es)) n → (e : Named) × Contains es e × (p e ≡ true) × (e.0 ≡ n)
told-from p [] n (k, lt, at) = absurd (omega arith)
told-from p (e ∷ es) n told = by (p e) (λ rest. told-from p es n rest) refl told
  where
    by : (b : Bool) → (Contains (map (λ (e : Named). e.0) (filter p es)) n → (x : Named) × Contains es x × (p x ≡ true) × (x.0 ≡ n)) → p e ≡ b
        → Contains (map (λ (e : Named). e.0) (cond b (e ∷ filter p es) (filter p es))) n → (x : Named) × Contains (e ∷ es) x × (p x ≡ true) × (x.0 ≡ n)
    by true on is there =
        ⊎_elim (λ here. (e, head e es e refl, is, here)) (λ rest. let one = on rest in (one.0, later e es one.0 one.1, one.2, one.3)) (cons-cases e.0 (map (λ (e : Named). e.0) (filter p es)) n there)
    by false on is there = let one = on there in (one.0, later e es one.0 one.1, one.2, one.3)

told-to : (p : Named → Bool) (es : List Named) (e : Named) → Contains es e → p e ≡ true → Contains (map (λ (e : Named). e.0) (filter p es)) e.0
told-to p [] e (k, lt, at) passes = absurd (omega arith)
told-to p (x ∷ xs) e there passes =
    ⊎_elim
    (λ same. subst (λ b. Contains (map (λ (e : Named). e.0) (cond b (x ∷ filter p xs) (filter p xs))) e.0) (sym passes ∙ ap p (sym same)) (head x.0 (map (λ (e : Named). e.0) (filter p xs)) e.0 (ap (λ (y : Named). y.0) same)))
    (λ rest. by (p x) (told-to p xs e rest passes))
    (cons-cases x xs e there)
  where
    by : (b : Bool) → Contains (map (λ (e : Named). e.0) (filter p xs)) e.0 → Contains (map (λ (e : Named). e.0) (cond b (x ∷ filter p xs) (filter p xs))) e.0
    by true h = later x.0 (map (λ (e : Named). e.0) (filter p xs)) e.0 h
    by false h = h

-- ---- what is at a name

alike : (es : List Named) → map (λ (y : Named). (y.0, y.1)) es ≡ es
alike [] = refl
alike (e ∷ es) = ap (λ t. e ∷ t) (alike es)

-- an entry is what is at its name, where each name stands once
facts-found : (es : List Named) (e : Named) → IsStrictlySortedBy order (map (λ (e : Named). e.0) es) → Contains es e → facts_of e.0 es ≡ Some e.1
facts-found es e sorted (k, lt, at) =
    ap (facts_of e.0) (sym (alike es)) ∙ look-found (λ (y : Named). y.0) e.0 (λ (y : Named). y.1) es k e lt (ap (λ (y : Named). order y.0 e.0) at ∙ itself e.0) sorted
    ∙ ap (λ (y : Named). Some y.1) at

facts-in : (es : List Named) (n : List ℕ) (f : Facts) → facts_of n es ≡ Some f → Contains es (n, f)
facts-in [] n f h = absurd (cc)
facts-in (e ∷ es) n f h = by (bytes_eq e.0 n) (λ so. facts-in es n f so) refl h
  where
    by : (b : Bool) → (facts_of n es ≡ Some f → Contains es (n, f)) → bytes_eq e.0 n ≡ b → option_map (λ (x : Named). x.1) (cond b (Some e) (find (λ (x : Named). bytes_eq x.0 n) es)) ≡ Some f → Contains (e ∷ es) (n, f)
    by true on is so = let same : e.1 ≡ f = cc in head e es (n, f) (λ k. (same_bytes e.0 n is k, same k))
    by false on is so = later e es (n, f) (on so)

-- ---- what is the same

kind-same : (a b : EntryKind) → same_kind a b ≡ true → a ≡ b
kind-same File File h = refl
kind-same File Directory h = absurd (cc)
kind-same File Other h = absurd (cc)
kind-same Directory File h = absurd (cc)
kind-same Directory Directory h = refl
kind-same Directory Other h = absurd (cc)
kind-same Other File h = absurd (cc)
kind-same Other Directory h = absurd (cc)
kind-same Other Other h = refl

kind-itself : (a : EntryKind) → same_kind a a ≡ true
kind-itself File = refl
kind-itself Directory = refl
kind-itself Other = refl

same-is : (a b : Facts) → are_same a b ≡ true → a ≡ b
same-is a b h =
    let four = and_parts (same_kind a.kind b.kind && a.size == b.size && int_eq a.modified b.modified && int_eq a.changed b.changed) (a.inode == b.inode) h in
    let three = and_parts (same_kind a.kind b.kind && a.size == b.size && int_eq a.modified b.modified) (int_eq a.changed b.changed) four.0 in
    let two = and_parts (same_kind a.kind b.kind && a.size == b.size) (int_eq a.modified b.modified) three.0 in
    let one = and_parts (same_kind a.kind b.kind) (a.size == b.size) two.0 in
    let kind = kind-same a.kind b.kind one.0 in
    let size = eqb-true a.size b.size one.1 in
    let modified = (Decides-int_eq a.modified b.modified).0 two.1 in
    let changed = (Decides-int_eq a.changed b.changed).0 three.1 in
    let inode = eqb-true a.inode b.inode four.1 in
    λ k. record { kind = kind k; size = size k; modified = modified k; changed = changed k; inode = inode k }

same-itself : (a : Facts) → are_same a a ≡ true
same-itself a = grind (arith, common_steps, kind-itself, Decides-int_eq)

-- ---- what is told

new-differs : (before now : Option Facts) (f : Facts) → now ≡ Some f → is_new before f ≡ true → before ≢ now
new-differs before now f is told same = by before told (same ∙ is)
  where
    by : (o : Option Facts) → is_new o f ≡ true → o ≡ Some f → ⊥
    by None told e = absurd (cc)
    by (Some g) told e =
        let g_is : g ≡ f = cc in
        let all : are_same g f ≡ true = ap (λ x. are_same x f) g_is ∙ same-itself f in
        absurd (let no : not true ≡ true = ap not (sym all) ∙ told in cc)

differs-new : (o : Option Facts) (f : Facts) → (o ≢ Some f) → is_new o f ≡ true
differs-new None f apart = refl
differs-new (Some g) f apart = by (are_same g f) refl
  where
    by : (b : Bool) → are_same g f ≡ b → not b ≡ true
    by true e = absurd (apart (ap Some (same-is g f e)))
    by false e = refl

module _ (before now : List Named) (n : List ℕ) (first : IsStrictlySortedBy order (map (λ (e : Named). e.0) before)) (second : IsStrictlySortedBy order (map (λ (e : Named). e.0) now)) where
  from-news : Contains (map (λ (e : Named). e.0) (news before now)) n → facts_of n before ≢ facts_of n now
  from-news told =
      let one = told-from (λ (e : Named). is_new (facts_of e.0 before) e.1) now n told in
      let e = one.0 in
      let is : facts_of n now ≡ Some e.1 = ap (λ m. facts_of m now) (sym one.3) ∙ facts-found now e second one.1 in
      let says : is_new (facts_of n before) e.1 ≡ true = ap (λ m. is_new (facts_of m before) e.1) (sym one.3) ∙ one.2 in
      new-differs (facts_of n before) (facts_of n now) e.1 is says

  from-gone : Contains (map (λ (e : Named). e.0) (gone before now)) n → facts_of n before ≢ facts_of n now
  from-gone told same =
      let one = told-from (λ (e : Named). is_none (facts_of e.0 now)) before n told in
      let e = one.0 in
      let is : facts_of n before ≡ Some e.1 = ap (λ m. facts_of m before) (sym one.3) ∙ facts-found before e first one.1 in
      let says : is_none (facts_of n now) ≡ true = ap (λ m. is_none (facts_of m now)) (sym one.3) ∙ one.2 in
      let no : false ≡ true = ap is_none (sym is ∙ same) ∙ says in
      absurd (cc)

  to-changes : (facts_of n before ≢ facts_of n now) → Contains (changes before now) n
  to-changes apart = by (facts_of n before) (facts_of n now) refl refl
    where
      by : (a b : Option Facts) → facts_of n before ≡ a → facts_of n now ≡ b → Contains (changes before now) n
      by a (Some f) first_is now_is =
          Contains-append_left (map (λ (e : Named). e.0) (news before now)) (map (λ (e : Named). e.0) (gone before now)) n
          (told-to (λ (e : Named). is_new (facts_of e.0 before) e.1) now (n, f) (facts-in now n f now_is) (differs-new (facts_of n before) f (λ e. apart (e ∙ sym now_is))))
      by (Some g) None first_is now_is =
          Contains-append_right (map (λ (e : Named). e.0) (news before now)) (map (λ (e : Named). e.0) (gone before now)) n
          (told-to (λ (e : Named). is_none (facts_of e.0 now)) before (n, g) (facts-in before n g first_is) (ap is_none now_is))
      by None None first_is now_is = absurd (apart (first_is ∙ sym now_is))

  pub told-iff : Contains (changes before now) n ↔ (facts_of n before ≢ facts_of n now)
  told-iff = (λ there. ⊎_elim from-news from-gone (Contains-append_cases (map (λ (e : Named). e.0) (news before now)) (map (λ (e : Named). e.0) (gone before now)) n there), to-changes)
