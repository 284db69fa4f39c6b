-- What is announced once a device announces records too, as a list of announcements.
use Rattle.std.proofs.Common.{◌≡◌, Bool, true, false, List, [], ◌∷◌, ◌++◌, refl, sym, ap, ◌∙◌, reverse}
use Rattle.std.specs.Prelude.{◌&&◌, not, cond, filter, map, Option, Some, None, T}
use Rattle.std.specs.Bool.{passes}
use Rattle.std.specs.FinMap.{find, from_sorted, get, get-from_sorted, get-insert, insert, is_sorted, same_map}
use Rattle.std.specs.FinMap.Entries.{below_all}
use Rattle.std.specs.List.{AllByRecursion, dedup, dedup_from}
use Rattle.std.specs.List.Sorted.{IsSortedBy, IsStableBy, IsStrictlySortedBy, ties}
use Rattle.std.specs.Option.{option_or}
use Rattle.std.specs.Ordering.{eq_by_cmp, is_eq, is_lt, ordering_reverse}
use Rattle.std.specs.Cmp.{Equal-is, on_total}
use Rattle.std.specs.declared.cmp.Ordering.{Ordering}
use Rattle.std.specs.declared.cmp.Ordering.TheVariants.{Less, Equal, Greater}
use Rattle.std.proofs.lemmas.Grind.{reverse_onto}
use Rattle.std.proofs.lemmas.List.{map-append}
use Rattle.std.proofs.lemmas.List.Kept.{IsStrictlySortedBy-dedup}
use Rattle.sync_record.specs.Devices.{Identity}
use Rattle.sync_record.specs.Records.{FileRecord}
use Rattle.folder_core.specs.declared.announcement.Announcement.{Announcement}
use Rattle.folder_core.specs.Announced.{Announced, Key, announce, key, key_cmp}
use Rattle.folder_core.specs.Plain.{Rises, filed}
use Rattle.folder_core.proofs.ListFilters.{join, less_is}
use Rattle.folder_core.proofs.Orders.{exact_keys, is_true, keys_total}
use Rattle.folder_core.proofs.PlainRestoreLists.{before, key_at}
use Rattle.node_replay.specs.Laid.{by_me}

abbrev pub found : Key → List Announcement → Option FileRecord
found k es = find key_cmp k (map filed es)

-- ---- what is found

pub found-append : (k : Key) (xs ys : List Announcement) → found k (xs ++ ys) ≡ option_or (found k xs) (found k ys)
found-append k [] ys = refl
found-append k (x ∷ xs) ys =
    elim (eq_by_cmp key_cmp k (key_at x)) as (λ b. cond b (Some x.record) (found k (xs ++ ys)) ≡ option_or (cond b (Some x.record) (found k xs)) (found k ys)) [
      | true ↦ refl
      | false ↦ found-append k xs ys
    ]

-- of the announced records the last one counts, and then what was there
pub get-announced : (k : Key) (me : Identity) (rs : List FileRecord) (a : Announced) → get (announce me rs a) k ≡ option_or (found k (map (by_me me) (reverse rs))) (get a k)
get-announced k me [] a = refl
get-announced k me (r ∷ rs) a =
    get-announced k me rs (insert a (key r.name me) r)
    ∙ ap (option_or (found k (map (by_me me) (reverse rs)))) (get-insert keys_total a (key r.name me) r k)
    ∙ regrouped (found k (map (by_me me) (reverse rs))) (eq_by_cmp key_cmp k (key r.name me))
    ∙ ap (λ o. option_or o (get a k)) (sym (
    ap (λ l. found k (map (by_me me) l)) (reverse_onto rs r [])
    ∙ ap (found k) (map-append (by_me me) (reverse rs) (r ∷ []))
    ∙ found-append k (map (by_me me) (reverse rs)) (by_me me r ∷ [])))
  where
    regrouped : (o : Option FileRecord) (b : Bool) → option_or o (cond b (Some r) (get a k)) ≡ option_or (option_or o (cond b (Some r) None)) (get a k)
    regrouped None true = refl
    regrouped None false = refl
    regrouped (Some x) b = refl

-- ---- a stable sort keeps the first announcement of each key

abbrev first : {A : Type 0} → List A → Option A
first [] = None
first (x ∷ xs) = Some x

abbrev record_in : Option Announcement → Option FileRecord
record_in None = None
record_in (Some e) = Some e.record

found-first : (k : Key) (es : List Announcement) → found k es ≡ record_in (first (filter (λ e. eq_by_cmp key_cmp k (key_at e)) es))
found-first k [] = refl
found-first k (e ∷ es) =
    elim (eq_by_cmp key_cmp k (key_at e)) as (λ b. cond b (Some e.record) (found k es) ≡ record_in (first (cond b (e ∷ filter (λ e. eq_by_cmp key_cmp k (key_at e)) es) (filter (λ e. eq_by_cmp key_cmp k (key_at e)) es)))) [
      | true ↦ refl
      | false ↦ found-first k es
    ]

tied : (a b : Key) → (not (is_lt (key_cmp a b)) && not (is_lt (key_cmp b a))) ≡ eq_by_cmp key_cmp a b
tied a b = (ap (λ o. not (is_lt (key_cmp a b)) && not (is_lt o)) (keys_total.antisymm b a)) ∙ by (key_cmp a b)
  where
    by : (o : Ordering) → (not (is_lt o) && not (is_lt (ordering_reverse o))) ≡ is_eq o
    by Less = refl
    by Equal = refl
    by Greater = refl

-- some announcement of this key
some : FileRecord → Key → Announcement
some r k = record { device = k.device; «record» = record r { name = k.name } }

key-some : (r : FileRecord) (k : Key) → key_at (some r k) ≡ k
unfolding some
key-some r k = refl

stable-found : (k : Key) (r : FileRecord) (xs ys : List Announcement) → IsStableBy before xs ys → found k ys ≡ found k xs
stable-found k r xs ys stable =
    found-first k ys
    ∙ ap (λ l. record_in (first l)) (of_ties ys ∙ stable (some r k) ∙ sym (of_ties xs))
    ∙ sym (found-first k xs)
  where
    of_ties : (zs : List Announcement) → filter (λ e. eq_by_cmp key_cmp k (key_at e)) zs ≡ filter (ties before (some r k)) zs
    of_ties zs = λ i. filter (λ e. sym (ap (λ (x : Key). not (is_lt (key_cmp x (key_at e))) && not (is_lt (key_cmp (key_at e) x))) (key-some r k) ∙ tied k (key_at e)) i) zs

-- no announcement has a record without one
pub stable : (xs ys : List Announcement) → IsStableBy before xs ys → (k : Key) → found k ys ≡ found k xs
stable [] [] same k = refl
stable [] (y ∷ ys) same k = stable-found k y.record [] (y ∷ ys) same
stable (x ∷ xs) ys same k = stable-found k x.record (x ∷ xs) ys same

-- ---- of neighbours of one key the first stays

abbrev pub same_key : Announcement → Announcement → Bool
same_key e f = eq_by_cmp key_cmp (key_at e) (key_at f)

dedup_from-found : (k : Key) (e : Announcement) (es : List Announcement) → found k (dedup_from same_key e es) ≡ found k (e ∷ es)
dedup_from-found k e [] = refl
dedup_from-found k e (x ∷ es) =
    elim (same_key x e) as (λ b. same_key x e ≡ b → found k (cond b (dedup_from same_key e es) (e ∷ dedup_from same_key x es)) ≡ found k (e ∷ x ∷ es)) [
      | true ↦ λ t. dedup_from-found k e es ∙ twice (eq_by_cmp key_cmp k (key_at e)) (eq_by_cmp key_cmp k (key_at x)) (ap (eq_by_cmp key_cmp k) (exact_keys (key_at x) (key_at e) ((Equal-is _).0 t))) (Some e.record) (Some x.record) (found k es)
      | false ↦ λ t. ap (cond (eq_by_cmp key_cmp k (key_at e)) (Some e.record)) (dedup_from-found k x es)
    ] refl
  where
    twice : (a b : Bool) → b ≡ a → (x y z : Option FileRecord) → cond a x z ≡ cond a x (cond b y z)
    twice true b s x y z = refl
    twice false b s x y z = ap (λ c. cond c y z) (sym s)

pub dedup-found : (k : Key) (es : List Announcement) → found k (dedup same_key es) ≡ found k es
dedup-found k [] = refl
dedup-found k (e ∷ es) = dedup_from-found k e es

-- ---- and the keys rise

abbrev keys_order : Announcement → Announcement → Ordering
keys_order e f = key_cmp (key_at e) (key_at f)

all_below : (k : Key) (es : List Announcement) → AllByRecursion (λ e. key_cmp k (key_at e) ≡ Less) es → T (below_all key_cmp k (map filed es))
all_below k [] h = tt
all_below k (e ∷ es) h = join _ _ (less_is _ h.0) (all_below k es h.1)

rise-from : (es : List Announcement) → IsStrictlySortedBy keys_order es → T (is_sorted key_cmp (map filed es))
unfolding IsStrictlySortedBy
rise-from [] h = tt
rise-from (e ∷ es) h = join _ _ (all_below (key_at e) es h.0) (rise-from es h.1)

pub dedup-rises : (es : List Announcement) → IsSortedBy before es → Rises (dedup same_key es)
dedup-rises es h = is_true _ (rise-from (dedup same_key es) (IsStrictlySortedBy-dedup (on_total key_at keys_total) (λ e f. refl) es h))

-- ---- what is laid over what was there

module _ (me : Identity) (below : List Announcement) (told : List FileRecord) (rises : Rises below) where
  pub laid : (kept : List Announcement) → Rises kept
      → ((k : Key) → found k kept ≡ found k (map (by_me me) (reverse told) ++ below))
      → from_sorted {R = key_cmp} (map filed kept) ≡ announce me told (from_sorted (map filed below))
  laid kept up same = same_map keys_total exact_keys (from_sorted (map filed kept)) (announce me told (from_sorted (map filed below))) (λ k.
      get-from_sorted key_cmp (map filed kept) k (passes _ up)
      ∙ same k
      ∙ found-append k (map (by_me me) (reverse told)) below
      ∙ ap (option_or (found k (map (by_me me) (reverse told)))) (sym (get-from_sorted key_cmp (map filed below) k (passes _ rises)))
      ∙ sym (get-announced k me told (from_sorted (map filed below))))
