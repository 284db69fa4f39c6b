-- What is found of a name in its group is what the folder has of it.
use Rattle.std.proofs.Common.{◌≡◌, ℕ, ◌==◌, Bool, true, false, List, [], ◌∷◌, length, take, refl, rules, sym, ap, subst, ◌∙◌}
use Rattle.std.specs.Prelude.{Contains, bytes_eq, slice_get, ◌&&◌, cond, count_by, filter, map, not, Option, Some, None, is_some, option_and_then, option_map, sum_by}
use Rattle.std.specs.Bool.{passes}
use Rattle.std.specs.BTreeMap.{is_at}
use Rattle.std.specs.Map.{lookup, values_of}
use Rattle.std.specs.Option.{option_map_or}
use Rattle.std.specs.FinMap.{empty, empty_of_len, entries, entries-from_sorted, len-entries}
use Rattle.std.specs.FinMap as map
use Rattle.std.specs.List.{list_all, reduce}
use Rattle.std.proofs.lemmas.Option.{none-some}
use Rattle.std.proofs.lemmas.Bool.{and_parts, true≢false}
use Rattle.sync_record.specs.Devices.{Identity, bytes_cmp}
use Rattle.sync_record.specs.Records.{Name, FileRecord}
use Rattle.folder_core.specs.declared.announcement.Announcement.{Announcement as Entry}
use Rattle.folder_core.specs.Announced.{best, is_by, key, key_cmp}
use Rattle.folder_core.specs.Plain.{Rises, better, devices_with, filed, group_best, is_undominated, listed_bests}
use Rattle.folder_core.specs.PlainPulls.{best_in}
use Rattle.folder_core.specs.PlainReads.{is_from, is_needed_over, needed_names, needed_of, record_from}
use Rattle.folder_core.specs.Reads.{BestEntry, best_with_devices, bests_page, is_after, locals, need_page}
use Rattle.folder_core.specs.States.{is_needed, need}
use Rattle.folder_core.proofs.ListTests.{In, same_bytes}
use Rattle.folder_core.proofs.ListFilters.{filter_filter}
use Rattle.folder_core.proofs.PlainCounts.{own_counted, others_counted}
use Rattle.folder_core.proofs.PlainFound.{best_is, best_is_found, listed_after, named_best}
use Rattle.folder_core.proofs.PlainGroup.{is_named}
use Rattle.folder_core.proofs.PlainNeed.{needed_are, page_is}
use Rattle.folder_core.proofs.PlainOwn.{find_key, local_is}
use Rattle.folder_index.specs.declared.group.Group.{Group}
use Rattle.folder_index.specs.declared.totals.Totals.{Totals}
use Rattle.folder_index.specs.declared.chunks.Chunks.{Chunks}
use Rattle.folder_index.specs.Chunks.{AreChunked, groups_in, keyed}
use Rattle.folder_index.specs.Groups.{name_in, AreNeeded, AreGroups, announced_in, best_of_group, bests_listed, chosen, entries_in, index_of, listed, needed_listed}
use Rattle.folder_index.specs.Indexes.{folder, needs}
use Rattle.folder_index.proofs.Counted.{needed_count, passing}
use Rattle.folder_index.proofs.Listed.{Groups, Sorted, Each, at_is, entries_at, get_is, rises}
use Rattle.folder_index.proofs.Pages.{bests_are_listed, needed_are_listed, part_each, part_listed, part_of, part_sorted}
use Rattle.folder_index.proofs.Written.{each_of, found_at, none_at}

module _ (me : Identity) (gs : Groups) (t : Totals) (are : AreGroups me gs t) (choices : ℕ) where
  sorted : Sorted gs
  sorted = are.ordered

  each : Each me gs
  each = each_of me gs t are

  up : Rises (listed gs)
  up = rises me gs sorted each

  -- ---- a device's record

  twice : (b : Bool) → b ≡ (b && b)
  twice true = refl
  twice false = refl

  pub record_at : (n : Name) (d : Identity) → record_from d (entries_at n gs) ≡ map.get (announced_in gs) (key n d)
  record_at n d =
      sym (get_is me gs sorted each (key n d)
      ∙ find_key n d (entries_at n gs)
      ∙ ap (record_from d) (ap (filter (is_named n)) (sym (at_is me gs sorted each n)) ∙ filter_filter (is_named n) (is_named n) (is_named n) (listed gs) (λ e. twice (is_named n e)) ∙ at_is me gs sorted each n))

  -- ---- the best

  pub best_at : (n : Name) → option_map filed (best_in (entries_at n gs)) ≡ best (entries (announced_in gs)) n
  best_at n =
      sym (ap (λ es. best es n) (entries-from_sorted key_cmp (map filed (listed gs)) (passes _ up))
      ∙ best_is n (listed gs) up
      ∙ ap (λ (es : List Entry). option_map filed (best_in es)) (at_is me gs sorted each n))

  pub best_with_devices_at : (n : Name) → group_best (entries_at n gs) ≡ best_with_devices (folder (index_of me gs choices)) n
  best_with_devices_at n = ap group_best (sym (at_is me gs sorted each n)) ∙ best_is_found me n (listed gs) 0 empty up

  pub group_best_is : (n : Name) (g : Group) → lookup (is_at (bytes_cmp n)) gs ≡ Some g → best_of_group g ≡ best_with_devices (folder (index_of me gs choices)) n
  group_best_is n g found =
      ap (option_map {U = BestEntry} (λ b. (b.record, devices_with (entries_in g) b.record))) (are.groups n g found).best
      ∙ ap group_best (found_at n gs g found)
      ∙ best_with_devices_at n

  pub none_best_is : (n : Name) → lookup (is_at (bytes_cmp n)) gs ≡ None → None ≡ best_with_devices (folder (index_of me gs choices)) n
  none_best_is n none = ap group_best (none_at n gs none) ∙ best_with_devices_at n

  -- ---- the need

  needs_by : (n : Name) (es : List Entry) → es ≡ entries_at n gs → (o : Option Entry) → o ≡ best_in es →
      is_some (option_and_then (λ (b : Entry). cond (is_needed_over (record_from me es) b.record) (Some b) None) o) ≡ option_map_or (is_needed (folder (index_of me gs choices))) (option_map filed o) false
  needs_by n es is None found = refl
  needs_by n es is (Some b) found =
      let all : es ≡ filter (is_named n) (listed gs) = is ∙ sym (at_is me gs sorted each n) in
      let named : b.record.name ≡ n = named_best n (listed gs) up b (subst (λ xs. Some b ≡ reduce better (filter (is_undominated xs) xs)) all found) in
      let own : is_needed_over (record_from me es) b.record ≡ is_needed (folder (index_of me gs choices)) (filed b) =
      ap (λ xs. is_needed_over (record_from me xs) b.record) all
      ∙ ap (λ m. is_needed_over (record_from me (filter (is_named m) (listed gs))) b.record) (sym named)
      ∙ ap (λ r. is_needed_over r b.record) (local_is me (listed gs) 0 empty up b.record.name) in
      elim (is_needed_over (record_from me es) b.record) as (λ x. is_some (cond x (Some b) None) ≡ x) [ true ↦ refl | false ↦ refl ] ∙ own

  pub needs_at : (n : Name) → is_some (needed_of me (entries_at n gs)) ≡ needs (index_of me gs choices) n
  needs_at n =
      needs_by n (entries_at n gs) refl (best_in (entries_at n gs)) refl
      ∙ ap (λ o. option_map_or (is_needed (folder (index_of me gs choices))) o false) (best_at n)

  -- ---- pages

  pub need_page_is : (after : Option Name) (limit : ℕ) → take limit (needed_listed (part_of (is_after after) gs)) ≡ need_page (folder (index_of me gs choices)) after limit
  need_page_is after limit =
      ap (take limit) (sym (needed_are_listed me (part_of (is_after after) gs) (part_sorted (is_after after) gs sorted) (part_each (is_after after) me gs each))
      ∙ ap (λ es. needed_names me es) (part_listed (is_after after) me gs sorted each))
      ∙ page_is me (listed gs) 0 empty up after limit

  pub bests_page_is : (after : Option Name) (limit : ℕ) → take limit (bests_listed (part_of (is_after after) gs)) ≡ bests_page (folder (index_of me gs choices)) after limit
  bests_page_is after limit =
      ap (take limit) (sym (bests_are_listed me (part_of (is_after after) gs) (part_sorted (is_after after) gs sorted) (part_each (is_after after) me gs each))
      ∙ ap listed_bests (part_listed (is_after after) me gs sorted each)
      ∙ listed_after me after (listed gs) 0 empty up)

  -- ---- counts

  pub own_is : (p : FileRecord → Bool) → sum_by (λ (g : Group). length (filter (λ e. is_from me e && p e.record) (entries_in g))) (values_of gs) ≡ count_by p (locals (folder (index_of me gs choices)))
  own_is p = sym (passing (λ e. is_from me e && p e.record) gs) ∙ own_counted me (listed gs) 0 empty up p

  pub others_are : sum_by (λ (g : Group). length (filter (λ e. not (is_from me e)) (entries_in g))) (values_of gs) ≡ count_by (λ e. not (is_by me e)) (entries (announced_in gs))
  others_are = sym (passing (λ e. not (is_from me e)) gs) ∙ others_counted me (listed gs) 0 empty up

  pub needed_is : sum_by (λ (g : Group). cond g.is_needed 1 0) (values_of gs) ≡ length (need (folder (index_of me gs choices)))
  needed_is = sym (needed_count gs) ∙ ap length (sym (needed_are_listed me gs sorted each) ∙ needed_are me (listed gs) 0 empty up)

-- no best is chosen where none is found
pub none_chosen : (g : Group) → best_of_group g ≡ None → chosen g ≡ None
none_chosen g none = by (chosen g) none
  where
    by : (o : Option Entry) → option_map {U = BestEntry} (λ b. (b.record, devices_with (entries_in g) b.record)) o ≡ None → o ≡ None
    by None e = refl
    by (Some b) e = absurd (none-some _ (sym e))

no_entries : (es : List Entry) → (length es == 0) ≡ true → es ≡ []
no_entries [] t = refl
no_entries (e ∷ es) t = absurd (true≢false (sym t ∙ search rules))

none_promised : (b : Bool) → not b ≡ true → b ≡ false
none_promised true e = absurd (true≢false (sym e))
none_promised false e = refl

-- a group that is found without entries and promises
pub empty_group : (o : Option Group) {r : Option Group} → r ≡ o → (b : Bool) → b ≡ option_map_or (λ (g : Group). not g.is_promised && length (entries_in g) == 0) r false → b ≡ true → (g : Group) × (o ≡ Some g) × ((entries_in g) ≡ []) × (g.is_promised ≡ false)
empty_group None {r} is b test t = absurd (true≢false (sym t ∙ test ∙ ap (λ o. option_map_or (λ (g : Group). not g.is_promised && length (entries_in g) == 0) o false) is))
empty_group (Some g) {r} is b test t =
    let both = and_parts (not g.is_promised) (length (entries_in g) == 0) (sym (test ∙ ap (λ o. option_map_or (λ (g : Group). not g.is_promised && length (entries_in g) == 0) o false) is) ∙ t) in
    (g, refl, no_entries (entries_in g) both.1, none_promised g.is_promised both.0)

-- nothing is announced where there are no groups
pub none_announced : announced_in [] ≡ empty
none_announced = empty_of_len (announced_in []) (len-entries (announced_in []) ∙ ap length (entries-from_sorted key_cmp [] tt))

-- a group that is needed has a record, which is of its name
pub are_needed : (me : Identity) (cs : Chunks) (t : Totals) → AreChunked me cs t → (gs : List Group) → ((g : Group) → Contains gs g → In (keyed g) (groups_in cs)) → AreNeeded gs
are_needed me cs t are gs each g there needed =
    let group = each_of me (groups_in cs) t are.are (name_in g) g (each g there) in
    by (entries_in g) refl (sym group.needed ∙ needed) group.named
  where
    by : (es : List Entry) → entries_in g ≡ es → is_some (needed_of me (entries_in g)) ≡ true → list_all (λ e. bytes_eq e.record.name (name_in g)) (entries_in g) ≡ true → (e : Entry) × (slice_get (entries_in g) 0 ≡ Some e) × (e.record.name ≡ name_in g)
    by [] e some named = absurd (true≢false (sym some ∙ ap (λ (es : List Entry). is_some (needed_of me es)) e))
    by (x ∷ es) e some named = (x, ap (λ (es : List Entry). slice_get es 0) e, same_bytes x.record.name (name_in g) (and_parts _ _ (sym (ap (list_all (λ (e : Entry). bytes_eq e.record.name (name_in g))) e) ∙ named)).0)
