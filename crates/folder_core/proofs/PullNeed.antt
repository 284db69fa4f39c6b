-- Needed names are in byte order, each once, and are those whose best is needed.
use Rattle.folder_core.proofs.BestRule.{of_is_best, one_best, is_best_found}
use Rattle.folder_core.proofs.AnnouncedListings.{lists-entries}
use Rattle.folder_core.proofs.Orders.{bytes_total, keys_total, exact_keys}
use Rattle.folder_core.proofs.ListTests.{parts, inside, In, in_contains, contains_in, in_map, of_map, in_filter, of_filter, found_in, below_in, in_get}
use Rattle.folder_core.specs.Announced.{Announced, KeyedRecord, key_cmp, is_of, is_best, best, bests, IsBest}
use Rattle.folder_core.specs.States.{FolderState, local, local_version, same_local_version, is_needed, need}
use Rattle.std.proofs.Common.{◌≡◌, Bool, true, false, List, [], ◌∷◌, refl, sym, ap, subst, ◌∙◌, ◌↔◌, ◌≢◌, inl, inr}
use Rattle.std.proofs.lemmas.Bool.{true≢false, and_parts, and_from, not-true, not_from_false, false_from_ne_true, or_right}
use Rattle.std.proofs.lemmas.Slice.Eq.{bytes_eq-Decides}
use Rattle.sync_version.proofs.Lemmas.{same_version_tells}
use Rattle.std.proofs.lemmas.Map.Lookups.{exact_bytes}
use Rattle.std.specs.Cmp.{tied_itself}
use Rattle.std.specs.FinMap.{entries, entries_sorted, is_sorted}
use Rattle.std.specs.List.{AllByRecursion}
use Rattle.std.specs.List.Sorted.{IsStrictlySortedBy}
use Rattle.std.specs.Ordering.{is_gt, is_lt, ordering_then}
use Rattle.std.specs.Prelude.{T, cond, map, filter, ⊤, not, ◌&&◌, ◌||◌, Option, Some, None, is_some, option_map, IsTrue, Contains}
use Rattle.std.specs.declared.cmp.Ordering.{Ordering}
use Rattle.std.specs.declared.cmp.Ordering.TheVariants.{Less, Equal, Greater}
use Rattle.std.proofs.lemmas.Option.{none-some}
use Rattle.sync_record.specs.Devices.{Identity, bytes_cmp}
use Rattle.sync_record.specs.Records.{Name, FileRecord, is_live}

-- each name is below those after it
abbrev pub Rising : List KeyedRecord → Type 0
Rising [] = ⊤
Rising (e ∷ es) = ((f : KeyedRecord) → In f es → bytes_cmp e.0.name f.0.name ≡ Less) × Rising es

pub rising-filter : (p : KeyedRecord → Bool) (es : List KeyedRecord) → Rising es → Rising (filter p es)
rising-filter p [] r = tt
rising-filter p (e ∷ es) r =
    let rest = rising-filter p es r.1 in
    elim (p e) as (λ b. Rising (cond b (e ∷ filter p es) (filter p es))) [
      | true ↦ (λ f i. r.0 f (of_filter p es f i).0, rest)
      | false ↦ rest
    ]

-- of two keys in order with different names or one device, the names are in order
names_less : (n m : Name) (d e : Identity) (r : Ordering) → bytes_cmp n m ≡ r → ordering_then r (bytes_cmp d e) ≡ Less → (n ≡ m → d ≡ e) → r ≡ Less
names_less n m d e Less is l one = refl
names_less n m d e Equal is l one =
    absurd (true≢false (ap is_lt (sym l ∙ ap (bytes_cmp d) (sym (one (exact_bytes n m is))) ∙ tied_itself bytes_total d)))
names_less n m d e Greater is l one = absurd (true≢false (ap is_gt l))

module _ (p : KeyedRecord → Bool) where
  abbrev OneEach : List KeyedRecord → Type 0
  OneEach es = (e f : KeyedRecord) → In e es → In f es → p e ≡ true → p f ≡ true → e.0.name ≡ f.0.name → e.0.device ≡ f.0.device

  rising_kept : (es : List KeyedRecord) → T (is_sorted key_cmp es) → OneEach es → Rising (filter p es)
  rising_kept [] s one = tt
  rising_kept (e ∷ es) s one =
      let rest = rising_kept es (parts _ _ s).1 (λ x y i j. one x y (inr i) (inr j)) in
      elim (p e) as (λ b. p e ≡ b → Rising (cond b (e ∷ filter p es) (filter p es))) [
        | true ↦ λ t. (
          λ f i.
              let r = of_filter p es f i in
              names_less e.0.name f.0.name e.0.device f.0.device (bytes_cmp e.0.name f.0.name) refl
              (below_in keys_total exact_keys e.0 es (parts _ _ s).0 f r.0)
              (one e f (inl refl) (inr r.0) t r.1),
          rest,
        )
        | false ↦ λ t. rest
      ] refl

-- the bests of an index are in byte order, one a name
pub bests-rising : (m : Announced) → Rising (bests (entries m))
bests-rising m = rising_kept (is_best (entries m)) (entries m) (entries_sorted m) (λ e f i j p q named.
    let a = of_is_best m (entries m) (lists-entries m) e (in_get keys_total exact_keys m e i) p in
    let b = of_is_best m (entries m) (lists-entries m) f (in_get keys_total exact_keys m f j) q in
    (one_best m (entries m) (lists-entries m) f.0.name e.0.device f.0.device e.1 f.1 (subst (λ x. IsBest m x e.0.device e.1) named a) b).0)

names_all : (n : Name) (es : List KeyedRecord) → ((f : KeyedRecord) → In f es → bytes_cmp n f.0.name ≡ Less) → AllByRecursion (λ m. bytes_cmp n m ≡ Less) (map (λ e. e.0.name) es)
names_all n [] each = tt
names_all n (e ∷ es) each = (each e (inl refl), names_all n es (λ f i. each f (inr i)))

pub names-rising : (es : List KeyedRecord) → Rising es → IsStrictlySortedBy bytes_cmp (map (λ e. e.0.name) es)
unfolding IsStrictlySortedBy
names-rising [] r = tt
names-rising (e ∷ es) r = (names_all e.0.name es r.0, names-rising es r.1)

pub need-rising : (s : FolderState) → IsStrictlySortedBy bytes_cmp (need s)
need-rising s = names-rising _ (rising-filter (is_needed s) (bests (entries s.announced)) (bests-rising s.announced))

-- the rule for one name, by its local record
rule : (o : Option FileRecord) (q : FileRecord) → (not (same_local_version (option_map (λ r. r.version) o) (Some q.version)) && (is_live q || is_some o)) ≡ true
    ↔ (((r : FileRecord) → o ≡ Some r → r.version ≢ q.version) × ¬ (IsTrue q.deleted × (o ≡ None)))
rule None q = (
  λ t. (λ r e. absurd (none-some r e), λ d. true≢false (sym t ∙ ap (λ b. not b || false) d.0)),
  λ h. live_or (q.deleted) (λ d. h.1 (d, refl)),
)
  where
    live_or : (b : Bool) → (b ≡ true → ⊥) → (not b || false) ≡ true
    live_or true f = absurd (f refl)
    live_or false f = refl
rule (Some r) q = (
  λ t. (
    λ x e same. true≢false (sym ((same_version_tells r.version q.version).1 (ap (λ (f : FileRecord). f.version) (inside r x e) ∙ same)) ∙ not-true _ (and_parts _ _ t).0),
    λ d. none-some r (sym d.1),
  ),
  λ h. and_from _ _ (not_from_false _ (false_from_ne_true _ (λ t. h.0 r refl ((same_version_tells r.version q.version).0 t)))) (or_right _ _ refl),
)

-- what `need` has of a name, in the words of the rule
abbrev pub NeedsIt : FolderState → Name → Type 0
NeedsIt s n =
    (e : KeyedRecord) × (best (entries s.announced) n ≡ Some e)
    × ((r : FileRecord) → local s n ≡ Some r → r.version ≢ e.1.version)
    × ¬ (IsTrue e.1.deleted × (local s n ≡ None))

-- a needed name by its best
module _ (s : FolderState) (n : Name) where
  abbrev es : List KeyedRecord
  es = entries s.announced

  abbrev is_needed_by : Name → KeyedRecord → Bool
  is_needed_by m e = not (same_local_version (local_version s m) (Some e.1.version)) && (is_live e.1 || is_some (local s m))

  listed-name : (e : KeyedRecord) → In e (bests es) → is_of n e ≡ true → is_needed s e ≡ true → Contains (need s) n
  listed-name e i named needed =
      in_contains (need s) n (subst (λ x. In x (need s)) ((bytes_eq-Decides e.0.name n).0 named)
      (in_map (λ (b : KeyedRecord). b.0.name) (filter (is_needed s) (bests es)) e (in_filter (is_needed s) (bests es) e i needed)))

  pub needed-listed : (e : KeyedRecord) → best es n ≡ Some e → is_needed s e ≡ true → Contains (need s) n
  needed-listed e is needed = let f = found_in (is_of n) (bests es) e is in listed-name e f.0 f.1 needed

  pub listed-needed : Contains (need s) n → (e : KeyedRecord) × (best es n ≡ Some e) × (e.0.name ≡ n) × (is_needed s e ≡ true)
  listed-needed c = by (of_map (λ (b : KeyedRecord). b.0.name) (filter (is_needed s) (bests es)) n (contains_in (need s) n c))
    where
      by : (e : KeyedRecord) × In e (filter (is_needed s) (bests es)) × (e.0.name ≡ n) → (e : KeyedRecord) × (best es n ≡ Some e) × (e.0.name ≡ n) × (is_needed s e ≡ true)
      by x =
          let e : KeyedRecord = x.0 in
          let kept = of_filter (is_needed s) (bests es) e x.1 in
          let chosen = of_filter (is_best es) es e kept.0 in
          let b = of_is_best s.announced es (lists-entries s.announced) e (in_get keys_total exact_keys s.announced e chosen.0) chosen.1 in
          (e, subst (λ y. best es y ≡ Some e) x.2 (is_best_found s.announced es (lists-entries s.announced) e.0.name e.0.device e.1 b), x.2, kept.1)

  pub need-rule : Contains (need s) n ↔ NeedsIt s n
  need-rule = (
    λ c.
        let h = listed-needed c in
        let r = (rule (local s n) h.0.1).0 (subst (λ y. is_needed_by y h.0 ≡ true) h.2 h.3) in
        (h.0, h.1, r.0, r.1),
    λ h.
        let f = found_in (is_of n) (bests es) h.0 h.1 in
        let named : h.0.0.name ≡ n = (bytes_eq-Decides h.0.0.name n).0 f.1 in
        listed-name h.0 f.0 f.1 (subst (λ y. is_needed_by y h.0 ≡ true) (sym named) ((rule (local s n) h.0.1).1 (h.2, h.3))),
  )
