-- What a change of one group makes of what is announced.
use Rattle.std.proofs.Common.{◌≡◌, Bool, true, false, List, refl, sym, ap, ◌∙◌}
use Rattle.std.specs.Prelude.{bytes_eq, cond, filter, map, not, Option, Some, None}
use Rattle.std.specs.BTreeMap.{is_at}
use Rattle.std.specs.Cmp.{Equal-is, tied_itself}
use Rattle.std.specs.Ordering.{eq_by_cmp, is_eq}
use Rattle.std.specs.FinMap.{insert, remove, put, find, get-insert, get-remove, same_map}
use Rattle.std.specs.FinMap as map
use Rattle.std.specs.FinMap.Entries.{find-put, find-where_key}
use Rattle.std.proofs.lemmas.Bool.{true≢false, false_from_ne_true}
use Rattle.sync_record.specs.Devices.{Identity, bytes_cmp}
use Rattle.sync_record.specs.Records.{Name, FileRecord}
use Rattle.folder_core.specs.declared.announcement.Announcement.{Announcement as Entry}
use Rattle.folder_core.specs.Announced.{Key, key, key_cmp}
use Rattle.folder_core.specs.Plain.{filed}
use Rattle.folder_core.specs.PlainReads.{is_from}
use Rattle.folder_core.proofs.ListTests.{alike_bytes, same_bytes}
use Rattle.folder_core.proofs.ListFilters.{filter_map}
use Rattle.folder_core.proofs.Orders.{bytes_total, keys_total, exact_keys}
use Rattle.folder_core.proofs.PlainOwn.{same_tests}
use Rattle.folder_index.proofs.Listed.{Groups, Sorted, Each, announced_of, at_same, entries_at, get_is}

same_key : (q k : Key) → eq_by_cmp key_cmp q k ≡ true → q ≡ k
same_key q k t = exact_keys q k ((Equal-is (key_cmp q k)).0 t)

other_key : (q : Key) (n : Name) (d : Identity) → is_at (bytes_cmp n) q.name ≡ false → eq_by_cmp key_cmp q (key n d) ≡ false
other_key q n d f =
    false_from_ne_true _ (λ t. true≢false (sym (ap (λ (k : Key). is_at (bytes_cmp n) k.name) (same_key q (key n d) t) ∙ ap is_eq (tied_itself bytes_total n)) ∙ f))

-- of keys of one name the devices decide
device_decides : (q : Key) (n : Name) (d : Identity) → n ≡ q.name → eq_by_cmp key_cmp q (key n d) ≡ bytes_eq q.device d
device_decides q n d same = same_tests _ _
    (λ t. alike_bytes q.device d (ap (λ (k : Key). k.device) (same_key q (key n d) t)))
    (λ t. (λ i. eq_by_cmp key_cmp q (key (same i) (sym (same_bytes q.device d t) i))) ∙ ap is_eq (tied_itself keys_total q))

module _ (me : Identity) (old new : Groups) (s : Sorted old) (t : Sorted new) (each : Each me old) (each_new : Each me new) (n : Name) (d : Identity) (items : List Entry)
    (at_new : (m : Name) → entries_at m new ≡ cond (is_at (bytes_cmp n) m) items (entries_at m old)) where
  here : (q : Key) → is_at (bytes_cmp n) q.name ≡ true → map.get (announced_of new) q ≡ find key_cmp q (map filed items)
  here q a = get_is me new t each_new q ∙ ap (λ es. find key_cmp q (map filed es)) (at_new q.name ∙ ap (λ b. cond b items (entries_at q.name old)) a)

  before : (q : Key) → is_at (bytes_cmp n) q.name ≡ true → find key_cmp q (map filed (entries_at n old)) ≡ map.get (announced_of old) q
  before q a = ap (λ m. find key_cmp q (map filed (entries_at m old))) (at_same n q.name a) ∙ sym (get_is me old s each q)

  elsewhere : (q : Key) → is_at (bytes_cmp n) q.name ≡ false → map.get (announced_of new) q ≡ map.get (announced_of old) q
  elsewhere q f =
      get_is me new t each_new q
      ∙ ap (λ es. find key_cmp q (map filed es)) (at_new q.name ∙ ap (λ b. cond b items (entries_at q.name old)) f)
      ∙ sym (get_is me old s each q)

  -- a record is put among the entries of its name
  pub placed : (r : FileRecord) → map filed items ≡ put key_cmp (key n d) r (map filed (entries_at n old)) → announced_of new ≡ insert (announced_of old) (key n d) r
  placed r is = same_map keys_total exact_keys (announced_of new) (insert (announced_of old) (key n d) r) (λ q.
      elim (is_at (bytes_cmp n) q.name) as (λ b. is_at (bytes_cmp n) q.name ≡ b → map.get (announced_of new) q ≡ map.get (insert (announced_of old) (key n d) r) q) [
        | true ↦ λ a.
            here q a ∙ ap (find key_cmp q) is ∙ find-put key_cmp keys_total q (key n d) r (map filed (entries_at n old))
            ∙ ap (cond (eq_by_cmp key_cmp q (key n d)) (Some r)) (before q a)
            ∙ sym (get-insert keys_total (announced_of old) (key n d) r q)
        | false ↦ λ f.
            elsewhere q f
            ∙ ap (λ b. cond b (Some r) (map.get (announced_of old) q)) (sym (other_key q n d f))
            ∙ sym (get-insert keys_total (announced_of old) (key n d) r q)
      ] refl)

  abbrev is_kept : Key → Bool
  is_kept k = not (bytes_eq k.device d)

  turned : (b : Bool) (o : Option FileRecord) → cond (not b) o None ≡ cond b None o
  turned true o = refl
  turned false o = refl

  -- a device's record of a name is taken away
  pub taken : items ≡ filter (λ e. not (is_from d e)) (entries_at n old) → announced_of new ≡ remove (announced_of old) (key n d)
  taken is = same_map keys_total exact_keys (announced_of new) (remove (announced_of old) (key n d)) (λ q.
      elim (is_at (bytes_cmp n) q.name) as (λ b. is_at (bytes_cmp n) q.name ≡ b → map.get (announced_of new) q ≡ map.get (remove (announced_of old) (key n d)) q) [
        | true ↦ λ a.
            here q a
            ∙ ap (find key_cmp q) (ap (map filed) is ∙ sym (filter_map filed (λ e. is_kept e.0) (entries_at n old)))
            ∙ find-where_key key_cmp is_kept q (λ x e. ap is_kept (sym (exact_keys q x e))) (map filed (entries_at n old))
            ∙ turned (bytes_eq q.device d) (find key_cmp q (map filed (entries_at n old)))
            ∙ (λ i. cond (sym (device_decides q n d (at_same n q.name a)) i) None (before q a i))
            ∙ sym (get-remove keys_total (announced_of old) (key n d) q)
        | false ↦ λ f.
            elsewhere q f
            ∙ ap (λ b. cond b None (map.get (announced_of old) q)) (sym (other_key q n d f))
            ∙ sym (get-remove keys_total (announced_of old) (key n d) q)
      ] refl)

  -- a change of no entry
  pub kept : items ≡ entries_at n old → announced_of new ≡ announced_of old
  kept is = same_map keys_total exact_keys (announced_of new) (announced_of old) (λ q.
      elim (is_at (bytes_cmp n) q.name) as (λ b. is_at (bytes_cmp n) q.name ≡ b → map.get (announced_of new) q ≡ map.get (announced_of old) q) [
        | true ↦ λ a. here q a ∙ ap (λ es. find key_cmp q (map filed es)) is ∙ before q a
        | false ↦ λ f. elsewhere q f
      ] refl)
