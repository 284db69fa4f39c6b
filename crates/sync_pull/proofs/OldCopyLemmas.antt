-- Which conflict copies are removed.
use Rattle.std.proofs.Common.{◌≡◌, ◌≢◌, ℕ, ◌+◌, ◌<◌, ◌≤◌, Bool, true, false, List, [], ◌∷◌, ◌++◌, length, take, drop, get_or, Option, Some, None, Ok, Err, Result, suc, zero, inl, inr, refl, sym, ap, subst, ◌∙◌, arith, length-append}
use Rattle.std.specs.Prelude.{bytes_eq, ◌⊎◌, ◌↔◌, Contains, IsNone, MatchBool, map, nat_eq, not, ℤ, pos, negsuc}
use Rattle.std.specs.List.{AllByRecursion}
use Rattle.std.specs.List.Sorted.{IsStrictlySortedBy}
use Rattle.std.proofs.lemmas.List.{take-append-drop, take_all, take-append-le}
use Rattle.std.proofs.lemmas.List.Elements.{Contains-append_left, Contains-push, Contains-push_cases}
use Rattle.std.proofs.lemmas.Slice.Eq.{bytes_eq-Decides}
use Rattle.std.proofs.Math.Seq.{take-suc}
use Rattle.file_store.specs.Asked.{Call, Remove}
use Rattle.file_store.specs.Calls.{Removes, removed}
use Rattle.file_store.specs.Listings.{AreAscending}
use Rattle.file_store.specs.Names.{Name}
use Rattle.file_store.specs.Stores.{MemGives, mem_gives, mem_tree}
use Rattle.file_store.specs.Trees.{Tree, is_file}
use Rattle.file_store.specs.declared.node.Listed.{Listed}
use Rattle.file_store.specs.declared.refusal.StoreRefusal.{StoreRefusal}
use Rattle.file_store.specs.declared.refusal.StoreRefusal.TheVariants.{StoreFault, NotEmpty, BadParent, OutOfMemory}
use Rattle.std.specs.Cmp.Lexicographic.{pointwise, slice_cmp, told_text}
use Rattle.std.specs.Ordering.{nat_cmp}
use Rattle.std.specs.declared.cmp.Ordering.TheVariants.{Less}
use Rattle.std.proofs.lemmas.Bool.{false≢true}
use Rattle.file_store.specs.Laws.{IsOfKind}
use Rattle.file_store.specs.declared.node.Kind.TheVariants as kind
use Rattle.file_store.specs.declared.node.Node.{Node}
use Rattle.file_store.specs.declared.node.Node.TheVariants.{Directory, File}
use Rattle.sync_names.specs.Refusal.{refusal}
use Rattle.sync_pull.specs.Copies.{AreListedCopies, AreOldCopies, IsListedCopy, IsOldCopy, IsRefused, IsRemoveRefused, RemovesFiles, TrimsCopies, surplus}
use Rattle.sync_pull.proofs.PuttingLemmas.{elsewhere, here}

-- two texts that are not unequal are equal
pub equal-text : (a b : List ℕ) → false ≡ not (pointwise nat_eq a b) → a ≡ b
equal-text a b h = by (pointwise nat_eq a b) refl (told_text a b (pointwise nat_eq a b) refl)
  where
    by : (r : Bool) → pointwise nat_eq a b ≡ r → MatchBool r (a ≡ b) (a ≢ b) → a ≡ b
    by true e same = same
    by false e apart = absurd (false≢true (h ∙ ap not e))

-- ---- the entries of old copies, one after the other

pub listed-push : (n copy : Name) (es : List Listed) (ns : List Name) (e : Listed) → AreListedCopies n copy es ns → IsListedCopy n copy e
    → AreListedCopies n copy (es ++ e ∷ []) (ns ++ e.name ∷ [])
listed-push n copy [] ns e h p = inl (p, [], ap (λ l. l ++ e.name ∷ []) h, refl)
listed-push n copy (x ∷ es) ns e (inl h) p = inl (h.0, h.1 ++ e.name ∷ [], ap (λ l. l ++ e.name ∷ []) h.2, listed-push n copy es h.1 e h.3 p)
listed-push n copy (x ∷ es) ns e (inr h) p = inr (h.0, listed-push n copy es ns e h.1 p)

pub listed-skip : (n copy : Name) (es : List Listed) (ns : List Name) (e : Listed) → AreListedCopies n copy es ns → (IsListedCopy n copy e → ⊥)
    → AreListedCopies n copy (es ++ e ∷ []) ns
listed-skip n copy [] ns e h p = inr (p, h)
listed-skip n copy (x ∷ es) ns e (inl h) p = inl (h.0, h.1, h.2, listed-skip n copy es h.1 e h.3 p)
listed-skip n copy (x ∷ es) ns e (inr h) p = inr (h.0, listed-skip n copy es ns e h.1 p)

pub listed-same : (n copy : Name) (es : List Listed) (ns ms : List Name) → AreListedCopies n copy es ns → AreListedCopies n copy es ms → ns ≡ ms
listed-same n copy [] ns ms h k = h ∙ sym k
listed-same n copy (x ∷ es) ns ms (inl h) (inl k) = h.2 ∙ ap (λ l. x.name ∷ l) (listed-same n copy es h.1 k.1 h.3 k.3) ∙ sym k.2
listed-same n copy (x ∷ es) ns ms (inl h) (inr k) = absurd (k.0 h.0)
listed-same n copy (x ∷ es) ns ms (inr h) (inl k) = absurd (h.0 k.0)
listed-same n copy (x ∷ es) ns ms (inr h) (inr k) = listed-same n copy es ns ms h.1 k.1

pub take-one : (es : List Listed) (i : ℕ) (e : Listed) → i < length es → e ≡ get_or es i e → take (i + 1) es ≡ take i es ++ e ∷ []
take-one es i e within is =
    let one : i + 1 ≡ suc i = omega arith in
    ap (λ k. take k es) one ∙ take-suc es i e within ∙ ap (λ x. take i es ++ x ∷ []) (sym is)

-- ---- what is removed

pub removes-none : (refused : Tree → Call → Type 0) (t : Tree) → RemovesFiles refused [] t t
removes-none refused t = record { temps = refl; others = λ q. inl refl; gone = λ q has. absurd (omega (arith, has.1)) }

removed-or-same : (fails : Type 0) (t u : Tree) (n : Name) (r : Result (Unit {0}) StoreRefusal) → Removes fails t n r u → (u ≡ t) ⊎ (u ≡ removed t n)
removed-or-same fails t u n (Ok x) h = inr h.1
removed-or-same fails t u n (Err x) (inl h) = inl h.1
removed-or-same fails t u n (Err x) (inr h) =
    elim h.2 [
      | inl same ↦ inl same
      | inr done ↦ inr done.1
    ]

names-after : (t : Tree) (n q : Name) → (n ≡ q) × ((removed t n).names q ≡ None) ⊎ ((removed t n).names q ≡ t.names q)
names-after t n q = by (bytes_eq n q) refl
  where
    by : (b : Bool) → bytes_eq n q ≡ b → (n ≡ q) × ((removed t n).names q ≡ None) ⊎ ((removed t n).names q ≡ t.names q)
    by true e =
        let same : n ≡ q = (bytes_eq-Decides n q).0 e in
        inl (same, subst (λ x. (removed t n).names x ≡ None) same (here n None t.names))
    by false e = inr (elsewhere n None t.names q e)

gone-after : (fails : Type 0) (t u : Tree) (n : Name) (r : Result (Unit {0}) StoreRefusal) (refused : Type 0) → Removes fails t n r u → ((why : StoreRefusal) → r ≡ Err why → refused)
    → (u.names n ≡ None) ⊎ refused
gone-after fails t u n (Ok x) refused h why = inl (ap (λ (v : Tree). v.names n) h.1 ∙ here n None t.names)
gone-after fails t u n (Err x) refused h why = inr (why x refl)

stays-gone : (t u : Tree) (n q : Name) → (u ≡ t) ⊎ (u ≡ removed t n) → t.names q ≡ None → u.names q ≡ None
stays-gone t u n q (inl e) h = ap (λ (v : Tree). v.names q) e ∙ h
stays-gone t u n q (inr e) h =
    elim (names-after t n q) [
      | inl at ↦ ap (λ (v : Tree). v.names q) e ∙ at.1
      | inr same ↦ ap (λ (v : Tree). v.names q) e ∙ same ∙ h
    ]

-- one file more
pub removes-next : (refused : Tree → Call → Type 0) (ns : List Name) (n : Name) (old t u : Tree) (fails : Type 0) (r : Result (Unit {0}) StoreRefusal)
    → RemovesFiles refused ns old t → Removes fails t n r u → ((why : StoreRefusal) → r ≡ Err why → refused t (Remove n)) → RemovesFiles refused (ns ++ n ∷ []) old u
removes-next refused ns n old t u fails r x h why =
    let both = removed-or-same fails t u n r h in
    record {
      temps = elim both [ inl e ↦ ap (λ (v : Tree). v.temps) e ∙ x.temps | inr e ↦ ap (λ (v : Tree). v.temps) e ∙ x.temps ];
      others = λ q. others q both (x.others q);
      gone = λ q has. gone q both (Contains-push_cases ns n q has);
    }
  where
    others : (q : Name) → (u ≡ t) ⊎ (u ≡ removed t n) → (t.names q ≡ old.names q) ⊎ (Contains ns q × (t.names q ≡ None))
        → (u.names q ≡ old.names q) ⊎ (Contains (ns ++ n ∷ []) q × (u.names q ≡ None))
    others q both (inr was) = inr (Contains-append_left ns (n ∷ []) q was.0, stays-gone t u n q both was.1)
    others q (inl e) (inl was) = inl (ap (λ (v : Tree). v.names q) e ∙ was)
    others q (inr e) (inl was) =
        elim (names-after t n q) [
          | inl at ↦ inr (subst (Contains (ns ++ n ∷ [])) at.0 (Contains-push ns n), ap (λ (v : Tree). v.names q) e ∙ at.1)
          | inr same ↦ inl (ap (λ (v : Tree). v.names q) e ∙ same ∙ was)
        ]

    Gone : Name → Type 0
    Gone q = (u.names q ≡ None) ⊎ IsRemoveRefused refused (old.names q) q

    still : (q : Name) → (u ≡ t) ⊎ (u ≡ removed t n) → (t.names q ≡ None) ⊎ IsRemoveRefused refused (old.names q) q → Gone q
    still q both (inl none) = inl (stays-gone t u n q both none)
    still q both (inr why) = inr why

    last : (u ≡ t) ⊎ (u ≡ removed t n) → (t.names n ≡ old.names n) ⊎ (Contains ns n × (t.names n ≡ None)) → Gone n
    last both (inl was) = gone-after fails t u n r (IsRemoveRefused refused (old.names n) n) h (λ w is. (t, was, why w is))
    last both (inr none) = inl (stays-gone t u n n both none.1)

    gone : (q : Name) → (u ≡ t) ⊎ (u ≡ removed t n) → Contains ns q ⊎ (n ≡ q) → Gone q
    gone q both (inl has) = still q both (x.gone q has)
    gone q both (inr same) = subst Gone same (last both (x.others n))

-- the first of one more
pub take-more-yes : (s : ℕ) (ns : List Name) (n : Name) → length ns < s → take s (ns ++ n ∷ []) ≡ take s ns ++ n ∷ []
take-more-yes s ns n less =
    let long : length (ns ++ n ∷ []) ≡ length ns + 1 = length-append ns (n ∷ []) in
    take_all s (ns ++ n ∷ []) (omega arith) ∙ ap (λ l. l ++ n ∷ []) (sym (take_all s ns (omega arith)))

pub take-more-no : (s : ℕ) (ns : List Name) (n : Name) → s ≤ length ns → take s (ns ++ n ∷ []) ≡ take s ns
take-more-no s ns n more = take-append-le s ns (n ∷ []) more

-- ---- the entries of a listing

pub contains-cases : {X : Type 0} (x : X) (xs : List X) (q : X) → Contains (x ∷ xs) q → (x ≡ q) ⊎ Contains xs q
contains-cases x xs q h = by h.0 h.1 h.2
  where
    by : (k : ℕ) → k < length (x ∷ xs) → get_or (x ∷ xs) k q ≡ q → (x ≡ q) ⊎ Contains xs q
    by zero less e = inl e
    by (suc k) less e = inr (k, omega arith, e)

pub contains-first : {X : Type 0} (x : X) (xs : List X) → Contains (x ∷ xs) x
contains-first x xs = (0, omega arith, refl)

pub contains-later : {X : Type 0} (x : X) (xs : List X) (q : X) → Contains xs q → Contains (x ∷ xs) q
contains-later x xs q h = (suc h.0, (let less = h.1 in omega arith), h.2)

pub contains-none : {X : Type 0} (q : X) → Contains [] q → ⊥
contains-none q h = let less = h.1 in omega arith

chosen-below : (n copy : Name) (Q : Name → Type 0) (es : List Listed) (ns : List Name) → AllByRecursion Q (map (λ e. e.name) es) → AreListedCopies n copy es ns → AllByRecursion Q ns
chosen-below n copy Q [] ns below h = subst (AllByRecursion Q) (sym h) tt
chosen-below n copy Q (e ∷ es) ns below (inl h) = subst (AllByRecursion Q) (sym h.2) (below.0, chosen-below n copy Q es h.1 below.1 h.3)
chosen-below n copy Q (e ∷ es) ns below (inr h) = chosen-below n copy Q es ns below.1 h.1

chosen-ascend : (n copy : Name) (es : List Listed) (ns : List Name) → AreAscending (map (λ e. e.name) es) → AreListedCopies n copy es ns → AreAscending ns
unfolding IsStrictlySortedBy
chosen-ascend n copy [] ns up h = subst (IsStrictlySortedBy (slice_cmp nat_cmp)) (sym h) tt
chosen-ascend n copy (e ∷ es) ns up (inl h) =
    subst (IsStrictlySortedBy (slice_cmp nat_cmp)) (sym h.2) (chosen-below n copy (λ q. slice_cmp nat_cmp e.name q ≡ Less) es h.1 up.0 h.3, chosen-ascend n copy es h.1 up.1 h.3)
chosen-ascend n copy (e ∷ es) ns up (inr h) = chosen-ascend n copy es ns up.1 h.1

of-file : (there : Option Node) → is_file there ≡ true → IsOfKind kind.File there
of-file None h = absurd (false≢true h)
of-file (Some Directory) h = absurd (false≢true h)
of-file (Some (File bytes modified)) h = (bytes, modified, refl)

module _ (n copy : Name) (t : Tree) (all : List Listed) (exact : (e : Listed) → Contains all e ↔ (IsNone (refusal e.name) × IsOfKind e.kind (t.names e.name))) where
  entry-old : (e : Listed) → Contains all e → IsListedCopy n copy e → IsOldCopy n copy t e.name
  entry-old e has p =
      let said = (exact e).0 has in
      let there : IsOfKind kind.File (t.names e.name) = subst (λ k. IsOfKind k (t.names e.name)) p.0 said.1 in
      record { named = p.1; other = p.2; safe = said.0; file = ap is_file there.2 }

  copies-old : (es : List Listed) (ns : List Name) → ((e : Listed) → Contains es e → Contains all e) → AreListedCopies n copy es ns → (q : Name) → Contains ns q → IsOldCopy n copy t q
  copies-old [] ns within h q has = absurd (contains-none q (subst (λ l. Contains l q) h has))
  copies-old (e ∷ es) ns within (inl h) q has = by (contains-cases e.name h.1 q (subst (λ l. Contains l q) h.2 has)) (copies-old es h.1 (λ d k. within d (contains-later e es d k)) h.3 q)
    where
      by : (e.name ≡ q) ⊎ Contains h.1 q → (Contains h.1 q → IsOldCopy n copy t q) → IsOldCopy n copy t q
      by (inl same) rest = subst (IsOldCopy n copy t) same (entry-old e (within e (contains-first e es)) h.0)
      by (inr later) rest = rest later
  copies-old (e ∷ es) ns within (inr h) q has = copies-old es ns (λ d k. within d (contains-later e es d k)) h.1 q has

  old-copies : (es : List Listed) (ns : List Name) → AreListedCopies n copy es ns → (e : Listed) → Contains es e → IsListedCopy n copy e → Contains ns e.name
  old-copies [] ns h e has p = absurd (contains-none e has)
  old-copies (d ∷ es) ns (inl h) e has p = by (contains-cases d es e has) (λ later. old-copies es h.1 h.3 e later p)
    where
      by : (d ≡ e) ⊎ Contains es e → (Contains es e → Contains h.1 e.name) → Contains ns e.name
      by (inl same) rest = subst (λ l. Contains l e.name) (sym h.2) (subst (λ (x : Listed). Contains (d.name ∷ h.1) x.name) same (contains-first d.name h.1))
      by (inr later) rest = subst (λ l. Contains l e.name) (sym h.2) (contains-later d.name h.1 e.name (rest later))
  old-copies (d ∷ es) ns (inr h) e has p = by (contains-cases d es e has) (λ later. old-copies es ns h.1 e later p)
    where
      by : (d ≡ e) ⊎ Contains es e → (Contains es e → Contains ns e.name) → Contains ns e.name
      by (inl same) rest = absurd (h.0 (subst (IsListedCopy n copy) (sym same) p))
      by (inr later) rest = rest later

  pub listed-old : (copies : List Name) → AreAscending (map (λ e. e.name) all) → AreListedCopies n copy all copies → AreOldCopies n copy t copies
  listed-old copies up h = record {
    order = chosen-ascend n copy all copies up h;
    each = λ q. (
      copies-old all copies (λ e k. k) h q,
      λ old. old-copies all copies h (record { name = q; kind = kind.File }) ((exact (record { name = q; kind = kind.File })).1 (old.safe, of-file (t.names q) old.file)) (refl, old.named, old.other),
    );
  }

-- ---- the least are removed

below-each : (Q : Name → Type 0) (xs : List Name) (q : Name) → AllByRecursion Q xs → Contains xs q → Q q
below-each Q [] q all has = absurd (contains-none q has)
below-each Q (x ∷ xs) q all has = by (contains-cases x xs q has) (λ later. below-each Q xs q all.1 later)
  where
    by : (x ≡ q) ⊎ Contains xs q → (Contains xs q → Q q) → Q q
    by (inl same) rest = subst Q same all.0
    by (inr later) rest = rest later

pub taken-below : (k : ℕ) (xs : List Name) (q r : Name) → AreAscending xs → Contains (take k xs) q → Contains xs r → (Contains (take k xs) r → ⊥) → slice_cmp nat_cmp q r ≡ Less
unfolding IsStrictlySortedBy
taken-below zero xs q r up has within apart = absurd (contains-none q has)
taken-below (suc k) [] q r up has within apart = absurd (contains-none q has)
taken-below (suc k) (x ∷ xs) q r up has within apart =
    by (contains-cases x (take k xs) q has) (contains-cases x xs r within) (λ later there. taken-below k xs q r up.1 later there (λ h. apart (contains-later x (take k xs) r h)))
  where
    by : (x ≡ q) ⊎ Contains (take k xs) q → (x ≡ r) ⊎ Contains xs r → (Contains (take k xs) q → Contains xs r → slice_cmp nat_cmp q r ≡ Less) → slice_cmp nat_cmp q r ≡ Less
    by first (inl same) rest = absurd (apart (subst (Contains (x ∷ take k xs)) same (contains-first x (take k xs))))
    by (inl same) (inr there) rest = subst (λ y. slice_cmp nat_cmp y r ≡ Less) same (below-each (λ y. slice_cmp nat_cmp x y ≡ Less) xs r up.0 there)
    by (inr later) (inr there) rest = rest later there

pub none-taken : (xs : List Name) → xs ≢ [] → 0 < length xs
none-taken [] some = absurd (some refl)
none-taken (x ∷ xs) some = omega arith

-- ---- what stays, and what is gone from a store in memory

pub contains-take : (k : ℕ) (xs : List Name) (q : Name) → Contains (take k xs) q → Contains xs q
contains-take k xs q h = subst (λ l. Contains l q) (take-append-drop k xs) (Contains-append_left (take k xs) (drop k xs) q h)

pub kept-at : (refused : Tree → Call → Type 0) (names : List Name) (old new : Tree) → RemovesFiles refused names old new → (q : Name) → (Contains names q → ⊥) → new.names q ≡ old.names q
kept-at refused names old new r q apart = elim (r.others q) [ inl same ↦ same | inr has ↦ absurd (apart has.0) ]

pub others-stay : (refused : Tree → Call → Type 0) (n copy q : Name) (old new : Tree) → (IsOldCopy n copy old q → ⊥) → (most : ℤ) → TrimsCopies refused most n copy old new → new.names q ≡ old.names q
others-stay refused n copy q old new other (negsuc k) e = ap (λ (t : Tree). t.names q) e
others-stay refused n copy q old new other (pos most) (inl h) = ap (λ (t : Tree). t.names q) h.1
others-stay refused n copy q old new other (pos most) (inr h) = kept-at refused _ old new h.2 q (λ has. other ((h.1.each q).0 (contains-take _ h.0 q has)))

never-refused : (t u : Tree) (q : Name) (why : StoreRefusal) → is_file (t.names q) ≡ true → Removes ⊥ t q (Err why) u → why ≢ OutOfMemory → ⊥
never-refused t u q StoreFault file (inl r) m = false≢true (sym r.0 ∙ file)
never-refused t u q NotEmpty file (inl r) m = r.0
never-refused t u q BadParent file (inl r) m = r.0
never-refused t u q OutOfMemory file (inl r) m = m refl
never-refused t u q why file (inr f) m = f.0

pub gone-in-memory : (most : ℕ) (n copy : Name) (old new : Tree) (copies : List Name) → AreOldCopies n copy old copies
    → RemovesFiles (IsRefused mem_gives mem_tree) (surplus most copies) old new → (q : Name) → Contains (surplus most copies) q → new.names q ≡ None
gone-in-memory most n copy old new copies are removes q has =
    elim (removes.gone q has) [
      | inl none ↦ none
      | inr r ↦
          let t = r.0 in
          let x = r.2 in
          let file : is_file (t.names q) ≡ true = subst (λ (o : Option Node). is_file o ≡ true) (sym r.1) ((are.each q).0 (contains-take _ copies q has)).file in
          let given = subst (λ (u : Tree). MemGives u (Remove q) (Err x.2) (mem_tree x.3)) x.1 x.4 in
          absurd (never-refused t (mem_tree x.3) q x.2 file given.0 (λ e. given.1 (ap Err e)))
    ]
