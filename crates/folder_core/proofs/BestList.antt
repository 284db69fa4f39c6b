-- The list of all bests, looked up name by name, and where the names of what is announced come from.
use Rattle.folder_core.proofs.BestRule.{best-found, best-only, of_is_best}
use Rattle.folder_core.proofs.AnnouncedIndexes.{get-without}
use Rattle.folder_core.proofs.AnnouncedListings.{lists-entries}
use Rattle.folder_core.proofs.AnnouncedMaps.{insert_split}
use Rattle.folder_core.proofs.PullNeed.{Rising, bests-rising, names-rising}
use Rattle.folder_core.proofs.Orders.{bytes_total, keys_total, exact_keys}
use Rattle.folder_core.proofs.ListTests.{In, in_contains, contains_in, of_filter, found_in, in_get}
use Rattle.folder_core.specs.Announced.{Announced, KeyedRecord, Key, key, is_of, is_best, announce, without, best, bests}
use Rattle.folder_core.specs.States.{FolderState}
use Rattle.folder_core.specs.declared.change.Change.TheVariants.{IndexFull, IndexMore}
use Rattle.folder_core.specs.Steps.{step}
use Rattle.std.proofs.Common.{◌≡◌, ◌≢◌, ℕ, Bool, true, false, List, [], ◌∷◌, ◌++◌, refl, sym, ap, subst, ◌∙◌, ◌↔◌, ◌⊎◌, inl, inr}
use Rattle.std.proofs.lemmas.Bool.{true≢false, false_from_ne_true}
use Rattle.std.proofs.lemmas.Slice.Eq.{bytes_eq-Decides}
use Rattle.std.specs.Cmp.{tied_itself}
use Rattle.std.specs.FinMap.{get, entries, insert}
use Rattle.std.specs.List.{AllByRecursion, cons_option}
use Rattle.std.specs.List.Sorted.{IsStrictlySortedBy}
use Rattle.std.specs.Option.{option_map_or}
use Rattle.std.specs.Ordering.{is_lt}
use Rattle.std.specs.Prelude.{bytes_eq, cond, map, filter_map, flat_map, find, not, Option, Some, None, Contains}
use Rattle.std.specs.declared.cmp.Ordering.TheVariants.{Less}
use Rattle.std.proofs.lemmas.Option.{none-some}
use Rattle.sync_record.specs.Devices.{Identity, bytes_cmp}
use Rattle.sync_record.specs.Records.{Name, FileRecord}

-- ---- each best once

pub bests-rise : (a : Announced) → IsStrictlySortedBy bytes_cmp (map (λ e. e.0.name) (bests (entries a)))
bests-rise a = names-rising (bests (entries a)) (bests-rising a)

-- a best is what is announced under its key
pub bests-announced : (a : Announced) (e : KeyedRecord) → In e (bests (entries a)) → get a e.0 ≡ Some e.1
bests-announced a e i = in_get keys_total exact_keys a e (of_filter (is_best (entries a)) (entries a) e i).0

pub bests-listed : (a : Announced) (n : Name) (e : KeyedRecord) → (Contains (bests (entries a)) e × (e.0.name ≡ n)) ↔ (best (entries a) n ≡ Some e)
bests-listed a n e = (
  λ h. let chosen = of_filter (is_best (entries a)) (entries a) e (contains_in (bests (entries a)) e h.0) in
      let b = of_is_best a (entries a) (lists-entries a) e (bests-announced a e (contains_in (bests (entries a)) e h.0)) chosen.1 in
      subst (λ m. best (entries a) m ≡ Some e) h.1 (best-only a e.0.name e.0.device e.1 b),
  λ f. (in_contains (bests (entries a)) e (found_in (is_of n) (bests (entries a)) e f).0, (best-found a n e f).0),
)

-- ---- looked up name by name

all_at : (P : Name → Type 0) (names : List Name) → AllByRecursion P names → (n : Name) → In n names → P n
all_at P [] all n i = absurd i
all_at P (m ∷ names) all n (inl s) = subst P (sym s) all.0
all_at P (m ∷ names) all n (inr i) = all_at P names all.1 n i

pub apart : (m n : Name) → bytes_cmp m n ≡ Less → m ≢ n
apart m n less same = true≢false (ap is_lt (sym less ∙ ap (bytes_cmp m) (sym same) ∙ tied_itself bytes_total m))

named_other : (n : Name) (e : KeyedRecord) → e.0.name ≢ n → is_of n e ≡ false
named_other n e other = false_from_ne_true (is_of n e) (λ t. other ((bytes_eq-Decides e.0.name n).0 t))

not_found : (n : Name) (es : List KeyedRecord) → ((e : KeyedRecord) → In e es → e.0.name ≢ n) → find (is_of n) es ≡ None
not_found n [] other = refl
not_found n (e ∷ es) other =
    ap (λ b. cond b (Some e) (find (is_of n) es)) (named_other n e (other e (inl refl)))
    ∙ not_found n es (λ f i. other f (inr i))

picked_same : (g h : Name → Option KeyedRecord) (names : List Name) → ((n : Name) → In n names → g n ≡ h n) → filter_map g names ≡ filter_map h names
picked_same g h [] same = refl
picked_same g h (n ∷ names) same =
    ap (λ o. cons_option o (filter_map g names)) (same n (inl refl))
    ∙ ap (cons_option (h n)) (picked_same g h names (λ m i. same m (inr i)))

abbrev Covers : List Name → List KeyedRecord → Type 0
Covers names es = (e : KeyedRecord) → In e es → In e.0.name names

none_picked : (names : List Name) → filter_map (λ n. find (is_of n) []) names ≡ []
none_picked [] = refl
none_picked (n ∷ names) = none_picked names

later_name : (m n : Name) (names : List Name) → m ≢ n → (m ≡ n) ⊎ In m names → In m names
later_name m n names other (inl s) = absurd (other s)
later_name m n names other (inr i) = i

below_all : (n : Name) (e : KeyedRecord) (es : List KeyedRecord) → Rising (e ∷ es) → bytes_cmp n e.0.name ≡ Less → (f : KeyedRecord) → (f ≡ e) ⊎ In f es → bytes_cmp n f.0.name ≡ Less
below_all n e es rise less f (inl s) = ap (λ (x : KeyedRecord). bytes_cmp n x.0.name) s ∙ less
below_all n e es rise less f (inr i) = bytes_total.trans n e.0.name f.0.name less (rise.0 f i)

pub looked_up : (names : List Name) (es : List KeyedRecord) → IsStrictlySortedBy bytes_cmp names → Rising es → Covers names es → filter_map (λ n. find (is_of n) es) names ≡ es
unfolding IsStrictlySortedBy
looked_up [] [] sorted rise covers = refl
looked_up [] (e ∷ es) sorted rise covers = absurd (covers e (inl refl))
looked_up (n ∷ names) [] sorted rise covers = none_picked names
looked_up (n ∷ names) (e ∷ es) sorted rise covers =
    elim (is_of n e) as (λ b. is_of n e ≡ b → cons_option (cond b (Some e) (find (is_of n) es)) (filter_map (λ m. find (is_of m) (e ∷ es)) names) ≡ e ∷ es) [
      | true ↦ λ t.
          let is : e.0.name ≡ n = (bytes_eq-Decides e.0.name n).0 t in
          let later : (m : Name) → In m names → find (is_of m) (e ∷ es) ≡ find (is_of m) es = λ m i.
          ap (λ b. cond b (Some e) (find (is_of m) es)) (named_other m e (λ s. apart n m (all_at (λ y. bytes_cmp n y ≡ Less) names sorted.0 m i) (sym is ∙ s))) in
          ap (λ l. e ∷ l) (picked_same (λ m. find (is_of m) (e ∷ es)) (λ m. find (is_of m) es) names later
          ∙ looked_up names es sorted.1 rise.1 (λ f i. later_name f.0.name n names (λ s. apart e.0.name f.0.name (rise.0 f i) (is ∙ sym s)) (covers f (inr i))))
      | false ↦ λ t.
          let other : e.0.name ≢ n = λ s. true≢false (sym ((bytes_eq-Decides e.0.name n).1 s) ∙ t) in
          let less : bytes_cmp n e.0.name ≡ Less = all_at (λ y. bytes_cmp n y ≡ Less) names sorted.0 e.0.name (later_name e.0.name n names other (covers e (inl refl))) in
          let below : (f : KeyedRecord) → In f (e ∷ es) → f.0.name ≢ n = λ f i s. apart n f.0.name (below_all n e es rise less f i) (sym s) in
          ap (λ o. cons_option o (filter_map (λ m. find (is_of m) (e ∷ es)) names)) (not_found n es (λ f i. below f (inr i)))
          ∙ looked_up names (e ∷ es) sorted.1 rise (λ f i. later_name f.0.name n names (below f i) (covers f i))
    ] refl

pub bests-by_name : (a : Announced) (names : List Name) → IsStrictlySortedBy bytes_cmp names → ((e : KeyedRecord) → Contains (bests (entries a)) e → Contains names e.0.name) → filter_map (λ n. best (entries a) n) names ≡ bests (entries a)
bests-by_name a names sorted covers =
    looked_up names (bests (entries a)) sorted (bests-rising a) (λ e i. contains_in names e.0.name (covers e (in_contains (bests (entries a)) e i)))

one_line : {Y A : Type 0} (line : Y → List A) (o : Option Y) (ys : List Y) → option_map_or line o [] ++ flat_map line ys ≡ flat_map line (cons_option o ys)
one_line line None ys = refl
one_line line (Some y) ys = refl

picked_lines : {X Y A : Type 0} (g : X → Option Y) (line : Y → List A) (xs : List X) → flat_map (λ x. option_map_or line (g x) []) xs ≡ flat_map line (filter_map g xs)
picked_lines g line [] = refl
picked_lines g line (x ∷ xs) = ap (λ l. option_map_or line (g x) [] ++ l) (picked_lines g line xs) ∙ one_line line (g x) (filter_map g xs)

-- the same with what is made of each best, name by name
pub bests-lines : (a : Announced) (line : KeyedRecord → List ℕ) (names : List Name) → IsStrictlySortedBy bytes_cmp names → ((e : KeyedRecord) → Contains (bests (entries a)) e → Contains names e.0.name) → flat_map (λ n. option_map_or line (best (entries a) n) []) names ≡ flat_map line (bests (entries a))
bests-lines a line names sorted covers = picked_lines (best (entries a)) line names ∙ ap (flat_map line) (bests-by_name a names sorted covers)

-- ---- where names come from

-- what is announced is one of the records, under its name, or was announced before
abbrev pub IsOneOrWas : Announced → List FileRecord → Key → FileRecord → Type 0
IsOneOrWas a records k r = (In r records × (r.name ≡ k.name)) ⊎ (get a k ≡ Some r)

one_or_was : (a : Announced) (k : Key) (r q : FileRecord) (d : Identity) (records : List FileRecord) → IsOneOrWas (insert a (key q.name d) q) records k r → IsOneOrWas a (q ∷ records) k r
one_or_was a k r q d records (inl h) = inl (inr h.0, h.1)
one_or_was a k r q d records (inr e) = by (insert_split keys_total exact_keys a (key q.name d) k q r e)
  where
    by : ((k ≡ key q.name d) × (q ≡ r)) ⊎ (get a k ≡ Some r) → IsOneOrWas a (q ∷ records) k r
    by (inl h) = inl (inl (sym h.1), ap (λ (x : FileRecord). x.name) (sym h.1) ∙ ap (λ (x : Key). x.name) (sym h.0))
    by (inr was) = inr was

announced_names : (d : Identity) (records : List FileRecord) (a : Announced) (k : Key) (r : FileRecord) → get (announce d records a) k ≡ Some r → IsOneOrWas a records k r
announced_names d [] a k r e = inr e
announced_names d (q ∷ records) a k r e = one_or_was a k r q d records (announced_names d records (insert a (key q.name d) q) k r e)

kept_was : (b : Bool) (o : Option FileRecord) (r : FileRecord) → cond (not b) o None ≡ Some r → o ≡ Some r
kept_was true o r e = absurd (none-some r e)
kept_was false o r e = e

pub more-names : (s : FolderState) (d : Identity) (records : List FileRecord) (k : Key) (r : FileRecord) → get (step s (IndexMore d records)).1.announced k ≡ Some r → IsOneOrWas s.announced records k r
more-names s d records k r e = announced_names d records s.announced k r e

pub full-names : (s : FolderState) (d : Identity) (records : List FileRecord) (k : Key) (r : FileRecord) → get (step s (IndexFull d records)).1.announced k ≡ Some r → IsOneOrWas s.announced records k r
full-names s d records k r e = by (announced_names d records (without d s.announced) k r e)
  where
    by : IsOneOrWas (without d s.announced) records k r → IsOneOrWas s.announced records k r
    by (inl h) = inl h
    by (inr w) = inr (kept_was (bytes_eq k.device d) (get s.announced k) r (sym (get-without d s.announced k) ∙ w))
