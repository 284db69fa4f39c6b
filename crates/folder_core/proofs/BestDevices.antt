-- The devices that have the best.
use Rattle.std.proofs.Common.{◌≡◌, ◌↔◌, Bool, true, false, List, [], ◌∷◌, refl, sym, ap, ◌∙◌, inl, inr}
use Rattle.std.specs.Prelude.{T, cond, map, filter, ◌&&◌, IsTrue, Some, Contains}
use Rattle.std.specs.List.{AllByRecursion}
use Rattle.std.specs.List.Sorted.{IsStrictlySortedBy}
use Rattle.std.specs.Ordering.{ordering_then}
use Rattle.std.specs.declared.cmp.Ordering.TheVariants.{Less}
use Rattle.std.specs.Cmp.{tied_itself}
use Rattle.std.specs.FinMap.{get, entries, entries_sorted, is_sorted}
use Rattle.std.proofs.lemmas.Bool.{and_parts, and_from}
use Rattle.std.proofs.lemmas.Slice.Eq.{bytes_eq-Decides}
use Rattle.sync_version.proofs.Lemmas.{same_version_tells}
use Rattle.sync_version.specs.Computed.{same_version}
use Rattle.sync_record.specs.Contents.{same_content}
use Rattle.sync_record.specs.Devices.{Identity, bytes_cmp}
use Rattle.sync_record.specs.Records.{Name, FileRecord}
use Rattle.sync_record.specs.Validity.{is_valid}
use Rattle.folder_core.specs.Announced.{Announced, KeyedRecord, key, key_cmp, is_of, best, devices_of}
use Rattle.folder_core.proofs.Orders.{bytes_total, keys_total, exact_keys}
use Rattle.folder_core.proofs.ListTests.{parts, In, in_contains, contains_in, in_map, of_map, in_filter, of_filter, below_in, get_in, in_get}
use Rattle.folder_core.proofs.BestRule.{best-found}

abbrev has_it : KeyedRecord → KeyedRecord → Bool
has_it b e = is_of b.0.name e && is_valid e.1 && same_version e.1.version b.1.version && same_content e.1 b.1

-- keys of one name in order have their devices in order
devices_less : (n m : Name) (d e : Identity) → m ≡ n → ordering_then (bytes_cmp n m) (bytes_cmp d e) ≡ Less → bytes_cmp d e ≡ Less
devices_less n m d e same l =
    sym (ap (λ o. ordering_then o (bytes_cmp d e)) (ap (bytes_cmp n) same ∙ tied_itself bytes_total n)) ∙ l

-- a name's devices rise where the keys do
devices_above : (n : Name) (e : KeyedRecord) (es : List KeyedRecord) → e.0.name ≡ n → ((f : KeyedRecord) → In f es → (key_cmp e.0 f.0 ≡ Less) × (f.0.name ≡ n))
    → AllByRecursion (λ d. bytes_cmp e.0.device d ≡ Less) (map (λ f. f.0.device) es)
devices_above n e [] named each = tt
devices_above n e (f ∷ es) named each =
    let h = each f (inl refl) in
    (devices_less e.0.name f.0.name e.0.device f.0.device (h.1 ∙ sym named) h.0, devices_above n e es named (λ g i. each g (inr i)))

rising-devices : (b : KeyedRecord) (es : List KeyedRecord) → T (is_sorted key_cmp es) → IsStrictlySortedBy bytes_cmp (map (λ e. e.0.device) (filter (has_it b) es))
unfolding IsStrictlySortedBy
rising-devices b [] s = tt
rising-devices b (e ∷ es) s =
    let rest = rising-devices b es (parts _ _ s).1 in
    elim (has_it b e) as (λ t. has_it b e ≡ t → IsStrictlySortedBy bytes_cmp (map (λ x. x.0.device) (cond t (e ∷ filter (has_it b) es) (filter (has_it b) es)))) [
      | true ↦ λ t. (
        devices_above b.0.name e (filter (has_it b) es) (named e t) (λ f i.
            let r = of_filter (has_it b) es f i in
            (below_in keys_total exact_keys e.0 es (parts _ _ s).0 f r.0, named f r.1)),
        rest,
      )
      | false ↦ λ t. rest
    ] refl
  where
    named : (e : KeyedRecord) → has_it b e ≡ true → e.0.name ≡ b.0.name
    named e t = (bytes_eq-Decides e.0.name b.0.name).0 (and_parts _ _ (and_parts _ _ (and_parts _ _ t).0).0).0

pub devices-rise : (a : Announced) (b : KeyedRecord) → IsStrictlySortedBy bytes_cmp (devices_of (entries a) b)
devices-rise a b = rising-devices b (entries a) (entries_sorted a)

abbrev pub HasIt : Announced → Name → KeyedRecord → Identity → Type 0
HasIt a n b d = (r : FileRecord) × (get a (key n d) ≡ Some r) × IsTrue (is_valid r) × (r.version ≡ b.1.version) × IsTrue (same_content r b.1)

pub devices-listed : (a : Announced) (n : Name) (b : KeyedRecord) (d : Identity) → best (entries a) n ≡ Some b → Contains (devices_of (entries a) b) d ↔ HasIt a n b d
devices-listed a n b d is = (
  λ c. there (of_map (λ (e : KeyedRecord). e.0.device) (filter (has_it b) (entries a)) d (contains_in (devices_of (entries a) b) d c)),
  λ h.
      let e : KeyedRecord = (key n d, h.0) in
      let i = get_in keys_total exact_keys a (key n d) h.0 h.1 in
      let t : has_it b e ≡ true =
      and_from _ _ (and_from _ _ (and_from _ _ ((bytes_eq-Decides n b.0.name).1 (sym named)) h.2) ((same_version_tells h.0.version b.1.version).1 h.3)) h.4 in
      in_contains (devices_of (entries a) b) d (in_map (λ (e : KeyedRecord). e.0.device) (filter (has_it b) (entries a)) e (in_filter (has_it b) (entries a) e i t)),
)
  where
    named : b.0.name ≡ n
    named = (best-found a n b is).0

    there : (e : KeyedRecord) × In e (filter (has_it b) (entries a)) × (e.0.device ≡ d) → HasIt a n b d
    there x =
        let e : KeyedRecord = x.0 in
        let r = of_filter (has_it b) (entries a) e x.1 in
        let content = and_parts _ _ r.1 in
        let version = and_parts _ _ content.0 in
        let valid = and_parts _ _ version.0 in
        let here : e.0.name ≡ n = (bytes_eq-Decides e.0.name b.0.name).0 valid.0 ∙ named in (
          e.1,
          (λ i. get a (key (sym here i) (sym x.2 i))) ∙ in_get keys_total exact_keys a e r.0,
          valid.1,
          (same_version_tells e.1.version b.1.version).0 version.1,
          content.1,
        )
