-- The records of one name, as one is put and one is taken away.
use Rattle.std.proofs.Common.{◌≡◌, true, false, List, [], ◌∷◌, refl, sym, ap, ◌∙◌, inl}
use Rattle.std.specs.Prelude.{bytes_eq, ◌&&◌, cond, filter, map, not}
use Rattle.std.specs.Cmp.{tied_itself}
use Rattle.std.specs.List.{list_all}
use Rattle.std.specs.FinMap.{put}
use Rattle.std.specs.FinMap.Entries.{by_order}
use Rattle.std.specs.declared.cmp.Ordering.TheVariants.{Less, Equal, Greater}
use Rattle.std.proofs.lemmas.Bool.{and_parts, and_from, true≢false}
use Rattle.sync_record.specs.Devices.{Identity}
use Rattle.sync_record.specs.Records.{Name, FileRecord}
use Rattle.folder_core.specs.declared.announcement.Announcement.{Announcement as Entry}
use Rattle.folder_core.specs.Announced.{KeyedRecord, Key, is_of, key, key_cmp}
use Rattle.folder_core.specs.Plain.{Rises, filed}
use Rattle.folder_core.specs.PlainReads.{is_from}
use Rattle.folder_core.proofs.ListTests.{alike_bytes, same_bytes}
use Rattle.folder_core.proofs.Orders.{keys_total}
use Rattle.folder_index.specs.declared.name_entries.NameEntries.{NameEntries}
use Rattle.folder_index.specs.declared.name_entries.NameEntries.TheVariants.{Vacant, Emptied, One, Many}
use Rattle.folder_index.specs.NameEntries.{entries_kept, is_alone, is_one_from, name_of_first}
use Rattle.folder_index.proofs.Counted.{none_after}

pub named_filed : (n : Name) (es : List Entry) → list_all (λ e. bytes_eq e.record.name n) es ≡ list_all (is_of n) (map filed es)
named_filed n [] = refl
named_filed n (e ∷ es) = ap (λ b. bytes_eq e.record.name n && b) (named_filed n es)

pub put_named : (n : Name) (k : Key) (r : FileRecord) (es : List KeyedRecord) → k.name ≡ n → list_all (is_of n) es ≡ true → list_all (is_of n) (put key_cmp k r es) ≡ true
put_named n k r [] named all = ap (λ b. b && true) (alike_bytes k.name n named)
put_named n k r (e ∷ es) named all =
    let rest = put_named n k r es named (and_parts _ _ all).1 in
    let first : is_of n e ≡ true = (and_parts _ _ all).0 in
    let first_new : bytes_eq k.name n ≡ true = alike_bytes k.name n named in
    elim (key_cmp k e.0) as (λ o. list_all (is_of n) (by_order o ((k, r) ∷ e ∷ es) ((e.0, r) ∷ es) (e ∷ put key_cmp k r es)) ≡ true) [
      | Less ↦ and_from (bytes_eq k.name n) (list_all (is_of n) (e ∷ es)) first_new all
      | Equal ↦ and_from (is_of n e) (list_all (is_of n) es) first (and_parts _ _ all).1
      | Greater ↦ and_from (is_of n e) (list_all (is_of n) (put key_cmp k r es)) first rest
    ]

-- the only record of a device is exchanged
pub exchanged : (d : Identity) (r : FileRecord) (e : Entry) → is_from d e ≡ true → list_all (λ e. bytes_eq e.record.name r.name) (e ∷ []) ≡ true → map filed (record { device = d; «record» = r } ∷ []) ≡ put key_cmp (key r.name d) r (map filed (e ∷ []))
exchanged d r e own named =
    let name : e.record.name ≡ r.name = same_bytes e.record.name r.name (and_parts _ _ named).0 in
    let device : e.device ≡ d = same_bytes e.device d own in
    let same : key e.record.name e.device ≡ key r.name d = λ i. key (name i) (device i) in
    ap (λ k. (k, r) ∷ []) (sym same)
    ∙ ap (λ o. by_order o ((key r.name d, r) ∷ filed e ∷ []) ((key e.record.name e.device, r) ∷ []) (filed e ∷ (key r.name d, r) ∷ [])) (sym (ap (key_cmp (key r.name d)) same ∙ tied_itself keys_total (key r.name d)))

first_of : (n : Name) (es : List Entry) (k : KeyedRecord) (ks : List KeyedRecord) → map filed es ≡ k ∷ ks → list_all (is_of n) (map filed es) ≡ true → name_of_first es ≡ n
first_of n [] k ks e all = absurd (true≢false (ap (λ (xs : List KeyedRecord). elim xs [ [] ↦ false | (_ ∷ _) ↦ true ]) (sym e)))
first_of n (x ∷ es) k ks e all = same_bytes x.record.name n (and_parts _ _ all).0

put_some : (k : Key) (r : FileRecord) (es : List KeyedRecord) → (x : KeyedRecord) × (xs : List KeyedRecord) × (put key_cmp k r es ≡ x ∷ xs)
put_some k r [] = ((k, r), [], refl)
put_some k r (e ∷ es) =
    elim (key_cmp k e.0) as (λ o. (x : KeyedRecord) × (xs : List KeyedRecord) × (by_order o ((k, r) ∷ e ∷ es) ((e.0, r) ∷ es) (e ∷ put key_cmp k r es) ≡ x ∷ xs)) [
      | Less ↦ ((k, r), e ∷ es, refl)
      | Equal ↦ ((e.0, r), es, refl)
      | Greater ↦ (e, put key_cmp k r es, refl)
    ]

-- once a record is put, the name is its name
pub name_put : (d : Identity) (r : FileRecord) (es new : List Entry) → list_all (λ e. bytes_eq e.record.name r.name) es ≡ true → map filed new ≡ put key_cmp (key r.name d) r (map filed es) → name_of_first new ≡ r.name
name_put d r es new named placed =
    let some = put_some (key r.name d) r (map filed es) in
    first_of r.name new some.0 some.1 (placed ∙ some.2)
    (ap (list_all (is_of r.name)) placed ∙ put_named r.name (key r.name d) r (map filed es) refl (sym (named_filed r.name es) ∙ named))

-- the name stays where another record is left
pub name_stays : (n : Name) (d : Identity) (es : List Entry) → is_alone d es ≡ false → Rises es → list_all (λ e. bytes_eq e.record.name n) es ≡ true → name_of_first (filter (λ e. not (is_from d e)) es) ≡ name_of_first es
name_stays n d [] alone up named = refl
name_stays n d (e ∷ []) alone up named = ap (λ b. name_of_first (cond (not b) (e ∷ []) [])) alone
name_stays n d (e ∷ f ∷ es) alone up named =
    elim (is_from d e) as (λ b. is_from d e ≡ b → name_of_first (cond (not b) (e ∷ filter (λ e. not (is_from d e)) (f ∷ es)) (filter (λ e. not (is_from d e)) (f ∷ es))) ≡ e.record.name) [
      | true ↦ λ own.
          let other : is_from d f ≡ false = none_after d n e (f ∷ es) up named own f (inl refl) in
          ap (λ b. name_of_first (cond (not b) (f ∷ filter (λ e. not (is_from d e)) es) (filter (λ e. not (is_from d e)) es))) other
          ∙ same_bytes f.record.name n (and_parts _ _ (and_parts _ _ named).1).0
          ∙ sym (same_bytes e.record.name n (and_parts _ _ named).0)
      | false ↦ λ other. refl
    ] refl

pub exchanged_any : (d : Identity) (r : FileRecord) (k : NameEntries) → is_one_from d k ≡ true → list_all (λ e. bytes_eq e.record.name r.name) (entries_kept k) ≡ true → map filed (record { device = d; «record» = r } ∷ []) ≡ put key_cmp (key r.name d) r (map filed (entries_kept k))
exchanged_any d r (Vacant n es) own named = absurd (true≢false (sym own))
exchanged_any d r (Emptied l es) own named = absurd (true≢false (sym own))
exchanged_any d r (One e) own named = exchanged d r e own named
exchanged_any d r (Many es) own named = absurd (true≢false (sym own))
