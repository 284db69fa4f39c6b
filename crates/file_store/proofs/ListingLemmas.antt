-- The entries of a map that are left to go through, and what is listed of those before.
use Rattle.std.proofs.Common.{◌≡◌, Bool, true, false, cond, List, [], ◌∷◌, ◌++◌, map, refl, sym, ap, subst, ◌∙◌, Some, None, Option, Result, Ok, Err, string_bytes}
use Rattle.std.specs.Prelude.{bytes_eq, IfErr, is_none, IsSome, is_some, if◌then◌else◌}
use Rattle.std.specs.BTreeMap.{is_at}
use Rattle.std.specs.Cmp.Lexicographic.{slice_cmp}
use Rattle.std.specs.List.{AllByRecursion}
use Rattle.std.specs.List.Sorted.{IsStrictlySortedBy}
use Rattle.std.specs.Map.{lookup, keys_of}
use Rattle.std.specs.Ordering.{nat_cmp}
use Rattle.std.specs.String.{string_cmp}
use Rattle.std.specs.declared.cmp.Ordering.{Ordering}
use Rattle.std.specs.declared.cmp.Ordering.TheVariants.{Less}
use Rattle.std.specs.declared.string.String.{String}
use Rattle.std.proofs.lemmas.Bool.{both_ways, false≢true}
use Rattle.std.proofs.lemmas.List.{append-nil}
use Rattle.std.proofs.lemmas.Map.Text.{is_eq-slice_cmp, text_cmp}
use Rattle.sync_names.specs.Refusal.{refusal}
use Rattle.file_store.specs.declared.node.Kind.{Kind}
use Rattle.file_store.specs.declared.node.Listed.{Listed}
use Rattle.file_store.specs.declared.node.Node.{Node}
use Rattle.file_store.specs.declared.node.Listing.{Listing}
use Rattle.file_store.specs.Listings.{AreAscending, IsListing, kind_of, kind_at, listed_at}
use Rattle.file_store.specs.Names.{Name, is_parent}
use Rattle.file_store.proofs.BetweenLemmas.{same_bytes, same_name}

module _ {Y V : Type 0} where
  -- what the entries have at a name
  abbrev pub left_at : List (String Y × V) → Name → Option V
  left_at es q = lookup (is_at (text_cmp q)) es

  pub left_more : (e : String Y × V) (es : List (String Y × V)) (q : Name) → left_at (e ∷ es) q ≡ cond (bytes_eq q (string_bytes e.0)) (Some e.1) (left_at es q)
  left_more e es q = ap (λ b. cond b (Some e.1) (left_at es q)) (is_eq-slice_cmp q (string_bytes e.0))

  -- an entry that is not below the directory
  pub left_apart : (dir : Name) (f : Name → Option V) (e : String Y × V) (es rest : List (String Y × V)) → rest ≡ e ∷ es → is_parent dir (string_bytes e.0) ≡ false
      → ((q : Name) → is_parent dir q ≡ true → f q ≡ left_at rest q) → (q : Name) → is_parent dir q ≡ true → f q ≡ left_at es q
  left_apart dir f e es rest is apart h q below =
      h q below ∙ ap (λ l. left_at l q) is ∙ left_more e es q ∙ go (bytes_eq q (string_bytes e.0)) (λ t. both_ways _ apart (subst (λ m. is_parent dir m ≡ true) (same_name _ _ t) below))
    where
      go : (b : Bool) → (b ≡ true → ⊥) → cond b (Some e.1) (left_at es q) ≡ left_at es q
      go true no' = absurd (no' refl)
      go false no' = refl

  -- one that is
  pub left_found : (dir : Name) (f : Name → Option V) (e : String Y × V) (es rest : List (String Y × V)) → rest ≡ e ∷ es → is_parent dir (string_bytes e.0) ≡ true
      → ((q : Name) → is_parent dir q ≡ true → f q ≡ left_at rest q) → IsSome (f (string_bytes e.0))
  left_found dir f e es rest is below h =
      ap is_some (h (string_bytes e.0) below ∙ ap (λ l. left_at l (string_bytes e.0)) is ∙ left_more e es (string_bytes e.0)
      ∙ ap (λ b. cond b (Some e.1) (left_at es (string_bytes e.0))) (same_bytes (string_bytes e.0)))

-- the first, or else the second
abbrev pub or_else : {V : Type 0} → Option V → Option V → Option V
or_else None o = o
or_else (Some x) o = Some x

abbrev pub listed_name : Listed → Name
listed_name e = e.name

abbrev pub entry_name : {Y : Type 0} → String Y × Node → Name
entry_name e = string_bytes e.0

-- what is listed of a name
abbrev pub safe_kind : Name → Option Node → Option Kind
safe_kind q o = if is_none (refusal q) then kind_at o else None

pub record IsListed {Y : Type 0} (names : Name → Option Node) (rest : List (String Y × Node)) (out : List Listed) : Type 0 where
  pub each : (q : Name) → safe_kind q (names q) ≡ or_else (listed_at out q) (safe_kind q (left_at rest q))
  pub order : AreAscending (map listed_name out ++ map entry_name rest)
  pub left : (q : Name) → IsSome (left_at rest q) → IsSome (names q)

listed_more : (out : List Listed) (l : Listed) (q : Name) → listed_at (out ++ l ∷ []) q ≡ or_else (listed_at out q) (cond (bytes_eq q l.name) (Some l.kind) None)
listed_more [] l q = refl
listed_more (e ∷ es) l q = elim (bytes_eq q e.name) as (λ b. cond b (Some e.kind) (listed_at (es ++ l ∷ []) q) ≡ or_else (cond b (Some e.kind) (listed_at es q)) (cond (bytes_eq q l.name) (Some l.kind) None)) [
  | true ↦ refl
  | false ↦ listed_more es l q
]

names_more : (out : List Listed) (l : Listed) (ns : List Name) → map listed_name (out ++ l ∷ []) ++ ns ≡ map listed_name out ++ l.name ∷ ns
names_more [] l ns = refl
names_more (e ∷ es) l ns = ap (λ m. e.name ∷ m) (names_more es l ns)

all_without : {K : Type 0} (P : K → Type 0) (xs : List K) (y : K) (ys : List K) → AllByRecursion P (xs ++ y ∷ ys) → AllByRecursion P (xs ++ ys)
all_without P [] y ys h = h.1
all_without P (x ∷ xs) y ys h = (h.0, all_without P xs y ys h.1)

sorted_without : {K : Type 0} (c : K → K → Ordering) (xs : List K) (y : K) (ys : List K) → IsStrictlySortedBy c (xs ++ y ∷ ys) → IsStrictlySortedBy c (xs ++ ys)
unfolding IsStrictlySortedBy
sorted_without c [] y ys h = h.1
sorted_without c (x ∷ xs) y ys h = (all_without (λ z. c x z ≡ Less) xs y ys h.0, sorted_without c xs y ys h.1)

all_names : {Y : Type 0} (n : Name) (es : List (String Y × Node)) → AllByRecursion (λ k. slice_cmp nat_cmp n (string_bytes k) ≡ Less) (keys_of es) → AllByRecursion (λ m. slice_cmp nat_cmp n m ≡ Less) (map entry_name es)
all_names n [] h = tt
all_names n (e ∷ es) h = (h.0, all_names n es h.1)

sorted_names : {Y : Type 0} (es : List (String Y × Node)) → IsStrictlySortedBy string_cmp (keys_of es) → IsStrictlySortedBy (slice_cmp nat_cmp) (map entry_name es)
unfolding IsStrictlySortedBy
sorted_names [] h = tt
sorted_names (e ∷ es) h = (all_names (string_bytes e.0) es h.0, sorted_names es h.1)

module _ {Y : Type 0} (names : Name → Option Node) where
  pub listing_begins : (es : List (String Y × Node)) → ((q : Name) → names q ≡ left_at es q) → IsStrictlySortedBy string_cmp (keys_of es) → IsListed names es []
  listing_begins es is order = record { each = λ q. ap (safe_kind q) (is q); order = sorted_names es order; left = λ q h. ap is_some (is q) ∙ h }

  -- all have been gone through
  pub listing_ends : (rest : List (String Y × Node)) (listing : Listing) → rest ≡ [] → listing.unread.items ≡ [] → IsListed names rest listing.entries.items → IsListing names listing
  unfolding IsStrictlySortedBy
  listing_ends rest listing ends none k = record {
    order = record {
      entries = subst AreAscending (append-nil (map listed_name listing.entries.items)) (subst (λ es. AreAscending (map listed_name listing.entries.items ++ map entry_name es)) ends k.order);
      unread = subst AreAscending (sym none) tt;
    };
    each = λ q. sym (k.each q ∙ ap (λ es. or_else (listed_at listing.entries.items q) (safe_kind q (left_at es q))) ends ∙ nothing (listed_at listing.entries.items q) (is_none (refusal q)));
    unread = none;
  }
    where
      nothing : (o : Option Kind) (safe : Bool) → or_else o (cond safe (kind_at None) None) ≡ o
      nothing (Some x) safe = refl
      nothing None true = refl
      nothing None false = refl

  module _ (e : String Y × Node) (es rest : List (String Y × Node)) (is : rest ≡ e ∷ es) (out : List Listed) (k : IsListed names rest out) where
    go_safe : (safe b : Bool) (o : Option Kind) (n : Node) (r : Option Node) → (b ≡ true → safe ≡ true)
        → or_else o (cond safe (kind_at (cond b (Some n) r)) None) ≡ or_else (or_else o (cond b (Some (kind_of n)) None)) (cond safe (kind_at r) None)
    go_safe safe b (Some x) n r h = refl
    go_safe true true None n r h = refl
    go_safe false true None n r h = absurd (false≢true (h refl))
    go_safe safe false None n r h = refl

    go_unsafe : (safe b : Bool) (n : Node) (r : Option Node) → (b ≡ true → safe ≡ false) → cond safe (kind_at (cond b (Some n) r)) None ≡ cond safe (kind_at r) None
    go_unsafe true true n r h = absurd (both_ways true (h refl) refl)
    go_unsafe false b n r h = refl
    go_unsafe true false n r h = refl

    at_rest : (q : Name) → left_at rest q ≡ cond (bytes_eq q (string_bytes e.0)) (Some e.1) (left_at es q)
    at_rest q = ap (λ l. left_at l q) is ∙ left_more e es q

    at_left : (q : Name) → safe_kind q (left_at rest q) ≡ safe_kind q (cond (bytes_eq q (string_bytes e.0)) (Some e.1) (left_at es q))
    at_left q = ap (safe_kind q) (at_rest q)

    still_left : (q : Name) → IsSome (left_at es q) → IsSome (names q)
    still_left q h = k.left q (ap is_some (at_rest q) ∙ go (bytes_eq q (string_bytes e.0)) (left_at es q) h)
      where
        go : (b : Bool) (o : Option Node) → is_some o ≡ true → is_some (cond b (Some e.1) o) ≡ true
        go true o h = refl
        go false o h = h

    -- the next entry is one of the map
    pub listing_has : IsSome (names (string_bytes e.0))
    listing_has = k.left (string_bytes e.0) (ap is_some (at_rest (string_bytes e.0)) ∙ ap (λ b. is_some (cond b (Some e.1) (left_at es (string_bytes e.0)))) (same_bytes (string_bytes e.0)))

    in_order : IsStrictlySortedBy (slice_cmp nat_cmp) (map listed_name out ++ string_bytes e.0 ∷ map entry_name es)
    in_order = subst (λ l. IsStrictlySortedBy (slice_cmp nat_cmp) (map listed_name out ++ map entry_name l)) is k.order

    pub listing_adds : (l : Listed) → l.name ≡ string_bytes e.0 → l.kind ≡ kind_of e.1 → is_none (refusal (string_bytes e.0)) ≡ true → IsListed names es (out ++ l ∷ [])
    listing_adds l name kind safe = record {
      each = λ q. k.each q ∙ ap (or_else (listed_at out q)) (at_left q)
          ∙ go_safe (is_none (refusal q)) (bytes_eq q (string_bytes e.0)) (listed_at out q) e.1 (left_at es q) (λ t. ap (λ m. is_none (refusal m)) (same_name _ _ t) ∙ safe)
          ∙ ap (λ o. or_else o (safe_kind q (left_at es q)))
          (ap (λ m. or_else (listed_at out q) (cond (bytes_eq q m) (Some (kind_of e.1)) None)) (sym name)
          ∙ ap (λ m. or_else (listed_at out q) (cond (bytes_eq q l.name) (Some m) None)) (sym kind) ∙ sym (listed_more out l q));
      order = subst (IsStrictlySortedBy (slice_cmp nat_cmp)) (ap (λ m. map listed_name out ++ m ∷ map entry_name es) (sym name) ∙ sym (names_more out l (map entry_name es))) in_order;
      left = still_left;
    }

    pub listing_skips : is_none (refusal (string_bytes e.0)) ≡ false → IsListed names es out
    listing_skips unsafe = record {
      each = λ q. k.each q ∙ ap (or_else (listed_at out q)) (at_left q
          ∙ go_unsafe (is_none (refusal q)) (bytes_eq q (string_bytes e.0)) e.1 (left_at es q) (λ t. ap (λ m. is_none (refusal m)) (same_name _ _ t) ∙ unsafe));
      order = sorted_without (slice_cmp nat_cmp) (map listed_name out) (string_bytes e.0) (map entry_name es) in_order;
      left = still_left;
    }

-- whatever the refusal
pub if_err : {X Y P : Type 0} (r : Result X Y) → P → IfErr r (λ _. P)
if_err (Ok x) p = tt
if_err (Err e) p = p
