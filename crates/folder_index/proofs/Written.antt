-- What a change of one group leaves of what holds of the groups.
use Rattle.std.proofs.Common.{◌≡◌, ◌≢◌, ℕ, ◌+◌, ◌^◌, ◌<◌, ◌≤◌, Bool, true, false, List, [], length, refl, sym, ap, subst, ◌∙◌, arith}
use Rattle.std.specs.Prelude.{bytes_eq, ◌&&◌, cond, filter, map, not, Option, Some, None, is_some, option_map, sum_by, unwrap_or}
use Rattle.std.specs.BTreeMap.{insert_entry, is_at}
use Rattle.std.specs.Map.{lookup, remove_entry, set_value, values_of}
use Rattle.std.specs.Option.{option_map_or}
use Rattle.std.specs.FinMap.{insert, put, remove}
use Rattle.std.proofs.lemmas.Map.Entries.{length-values_of, sum_by-insert_entry, sum_by-remove_entry, sum_by-set_value}
use Rattle.std.proofs.lemmas.Bool.{true≢false}
use Rattle.std.proofs.lemmas.Option.{none-some}
use Rattle.sync_record.specs.Devices.{Identity, bytes_cmp}
use Rattle.sync_record.specs.Records.{Name, FileRecord, is_directory, is_live, is_live_file}
use Rattle.folder_core.specs.declared.announcement.Announcement.{Announcement as Entry}
use Rattle.folder_core.specs.Announced.{key, key_cmp}
use Rattle.folder_core.specs.Plain.{filed}
use Rattle.folder_core.specs.PlainReads.{is_from, needed_of}
use Rattle.folder_core.proofs.ListTests.{alike_bytes, inside, of_map, same_bytes}
use Rattle.folder_core.proofs.Orders.{bytes_total}
use Rattle.folder_index.specs.declared.group.Group.{Group}
use Rattle.folder_index.specs.declared.totals.Totals.{Totals}
use Rattle.folder_index.specs.Groups.{AreGroups, HasRoom, IsChanged, IsGroup, IsSmall, announced_in, deletions_in, directories_in, entries_in, files_in, needed_in, others_in, totals_in, totals_of}
use Rattle.folder_index.proofs.Counted.{at_most_each, no_more, no_more_own, one_more, own_once}
use Rattle.folder_index.proofs.Listed.{Groups, Sorted, Each, at_same, entries_at, in_lookup}
use Rattle.folder_index.proofs.Changes as changes

pub each_of : (me : Identity) (gs : Groups) (t : Totals) → AreGroups me gs t → Each me gs
each_of me gs t are n g i = are.groups n g (in_lookup gs are.ordered n g i)

-- the old sums are those of what a group had
abbrev pub Sums : (Group → ℕ) → ((Group → ℕ) → ℕ) → Group → Groups → Groups → Type 0
Sums f old g gs new = sum_by f (values_of new) + old f ≡ sum_by f (values_of gs) + f g

abbrev pub had : Identity → ((Group → ℕ) → ℕ) → Totals
had me old = record {
  files = old (files_in me);
  directories = old (directories_in me);
  deletions = old (deletions_in me);
  needed = old needed_in;
  others = old (others_in me);
}

-- what a name has in the new groups
abbrev pub HasAt : Name → Option Group → Groups → Groups → Type 0
HasAt n g gs new = (m : Name) → lookup (is_at (bytes_cmp m)) new ≡ cond (is_at (bytes_cmp n) m) g (lookup (is_at (bytes_cmp m)) gs)

module _ (me : Identity) (gs new : Groups) (t u : Totals) (are : AreGroups me gs t) (sorted : Sorted new) (n : Name) (g : Group) where
  pub groups_written : IsGroup me n g → HasAt n (Some g) gs new → (m : Name) (x : Group) → lookup (is_at (bytes_cmp m)) new ≡ Some x → IsGroup me m x
  groups_written group at m x found =
      elim (is_at (bytes_cmp n) m) as (λ b. is_at (bytes_cmp n) m ≡ b → cond b (Some g) (lookup (is_at (bytes_cmp m)) gs) ≡ Some x → IsGroup me m x) [
        | true ↦ λ a s. subst (λ (p : Name × Group). IsGroup me p.0 p.1) (λ i. (at_same n m a i, inside g x s i)) group
        | false ↦ λ a s. are.groups m x s
      ] refl (sym (at m) ∙ found)

  totals_written : (old : (Group → ℕ) → ℕ) → ((f : Group → ℕ) → Sums f old g gs new) → IsChanged t (had me old) (totals_in me g) u → u ≡ totals_of me (values_of new)
  totals_written old sums changed =
      let a : u.files ≡ sum_by (files_in me) (values_of new) = omega (arith, sums (files_in me), changed.files, ap (λ (x : Totals). x.files) are.counted) in
      let b : u.directories ≡ sum_by (directories_in me) (values_of new) = omega (arith, sums (directories_in me), changed.directories, ap (λ (x : Totals). x.directories) are.counted) in
      let c : u.deletions ≡ sum_by (deletions_in me) (values_of new) = omega (arith, sums (deletions_in me), changed.deletions, ap (λ (x : Totals). x.deletions) are.counted) in
      let d : u.needed ≡ sum_by needed_in (values_of new) = omega (arith, sums needed_in, changed.needed, ap (λ (x : Totals). x.needed) are.counted) in
      let e : u.others ≡ sum_by (others_in me) (values_of new) = omega (arith, sums (others_in me), changed.others, ap (λ (x : Totals). x.others) are.counted) in
      λ i. record { files = a i; directories = b i; deletions = c i; needed = d i; others = e i }

  pub are_written : (old : (Group → ℕ) → ℕ) → IsGroup me n g → HasAt n (Some g) gs new → ((f : Group → ℕ) → Sums f old g gs new) → IsChanged t (had me old) (totals_in me g) u → u.others + 1 < 2 ^ 64 → AreGroups me new u
  are_written old group at sums changed room = record {
    ordered = sorted;
    groups = groups_written group at;
    counted = totals_written old sums changed;
    room = room;
  }

-- the sums after a write over the group, and after a new group
pub sums_set : (n : Name) (gs : Groups) (was is : Group) → lookup (is_at (bytes_cmp n)) gs ≡ Some was → (f : Group → ℕ) → Sums f (λ f. f was) is gs (set_value (is_at (bytes_cmp n)) gs is)
sums_set n gs was is found f = sum_by-set_value f (is_at (bytes_cmp n)) gs was is found

pub sums_added : (n : Name) (gs : Groups) (g : Group) → Sorted gs → lookup (is_at (bytes_cmp n)) gs ≡ None → (f : Group → ℕ) → Sums f (λ f. 0) g gs (insert_entry bytes_cmp gs n g)
sums_added n gs g sorted absent f =
    ap (λ o. sum_by f (values_of (insert_entry bytes_cmp gs n g)) + unwrap_or (option_map f o) 0) (sym absent)
    ∙ sum_by-insert_entry f bytes_total gs n g sorted

-- a group without entries is dropped
pub are_dropped : (me : Identity) (gs new : Groups) (t : Totals) → AreGroups me gs t → Sorted new → (n : Name) (g : Group) → lookup (is_at (bytes_cmp n)) gs ≡ Some g → HasAt n None gs new → new ≡ remove_entry (is_at (bytes_cmp n)) gs
    → ((f : Group → ℕ) → sum_by f (values_of (remove_entry (is_at (bytes_cmp n)) gs)) + f g ≡ sum_by f (values_of gs)) → totals_in me g ≡ record { files = 0; directories = 0; deletions = 0; needed = 0; others = 0 } → AreGroups me new t
are_dropped me gs new t are sorted n g found at is sums none = record {
  ordered = sorted;
  groups = λ m x there.
      elim (is_at (bytes_cmp n) m) as (λ b. cond b None (lookup (is_at (bytes_cmp m)) gs) ≡ Some x → IsGroup me m x) [
        | true ↦ λ s. absurd (none-some x s)
        | false ↦ λ s. are.groups m x s
      ] (sym (at m) ∙ there);
  counted = are.counted ∙ (λ i. record { files = same (files_in me) (ap (λ (x : Totals). x.files) none) i; directories = same (directories_in me) (ap (λ (x : Totals). x.directories) none) i; deletions = same (deletions_in me) (ap (λ (x : Totals). x.deletions) none) i; needed = same needed_in (ap (λ (x : Totals). x.needed) none) i; others = same (others_in me) (ap (λ (x : Totals). x.others) none) i });
  room = are.room;
}
  where
    same : (f : Group → ℕ) → f g ≡ 0 → sum_by f (values_of gs) ≡ sum_by f (values_of new)
    same f zero =
        let s = sums f in
        let e : sum_by f (values_of gs) ≡ sum_by f (values_of (remove_entry (is_at (bytes_cmp n)) gs)) = omega arith in
        e ∙ ap (λ l. sum_by f (values_of l)) (sym is)

pub sums_removed : (n : Name) (gs : Groups) (g : Group) → lookup (is_at (bytes_cmp n)) gs ≡ Some g → (f : Group → ℕ) → sum_by f (values_of (remove_entry (is_at (bytes_cmp n)) gs)) + f g ≡ sum_by f (values_of gs)
sums_removed n gs g found f =
    ap (λ o. sum_by f (values_of (remove_entry (is_at (bytes_cmp n)) gs)) + unwrap_or (option_map f o) 0) (sym found)
    ∙ sum_by-remove_entry f (is_at (bytes_cmp n)) gs

-- ---- the entries of a name after a change

moved : (b : Bool) (x y : Option Group) → option_map_or (λ (g : Group). entries_in g) (cond b x y) [] ≡ cond b (option_map_or (λ (g : Group). entries_in g) x []) (option_map_or (λ (g : Group). entries_in g) y [])
moved true x y = refl
moved false x y = refl

pub entries_moved : (n : Name) (o : Option Group) (gs new : Groups) → HasAt n o gs new → (m : Name) → entries_at m new ≡ cond (is_at (bytes_cmp n) m) (option_map_or (λ (g : Group). entries_in g) o []) (entries_at m gs)
entries_moved n o gs new at m = ap (λ o. option_map_or (λ (g : Group). entries_in g) o []) (at m) ∙ moved (is_at (bytes_cmp n) m) o (lookup (is_at (bytes_cmp m)) gs)

pub found_at : (n : Name) (gs : Groups) (g : Group) → lookup (is_at (bytes_cmp n)) gs ≡ Some g → (entries_in g) ≡ entries_at n gs
found_at n gs g found = sym (ap (λ o. option_map_or (λ (g : Group). entries_in g) o []) found)

pub none_at : (n : Name) (gs : Groups) → lookup (is_at (bytes_cmp n)) gs ≡ None → [] ≡ entries_at n gs
none_at n gs none = sym (ap (λ o. option_map_or (λ (g : Group). entries_in g) o []) none)

-- the groups after a change of one
pub each_written : (me : Identity) (gs new : Groups) (t : Totals) → AreGroups me gs t → Sorted new → (n : Name) (g : Group) → IsGroup me n g → HasAt n (Some g) gs new → Each me new
each_written me gs new t are sorted n g group at m x i = groups_written me gs new t t are sorted n g group at m x (in_lookup new sorted m x i)

pub each_without : (me : Identity) (gs new : Groups) (t : Totals) → AreGroups me gs t → Sorted new → (n : Name) → HasAt n None gs new → Each me new
each_without me gs new t are sorted n at m x i =
    elim (is_at (bytes_cmp n) m) as (λ b. cond b None (lookup (is_at (bytes_cmp m)) gs) ≡ Some x → IsGroup me m x) [
      | true ↦ λ s. absurd (none-some x s)
      | false ↦ λ s. are.groups m x s
    ] (sym (at m) ∙ in_lookup new sorted m x i)

module _ (me : Identity) (gs new : Groups) (t : Totals) (are : AreGroups me gs t) (sorted : Sorted new) (n : Name) (g : Group) (group : IsGroup me n g) (at : HasAt n (Some g) gs new) where
  pub placed_is : (d : Identity) (r : FileRecord) → map filed (entries_in g) ≡ put key_cmp (key n d) r (map filed (entries_at n gs)) → announced_in new ≡ insert (announced_in gs) (key n d) r
  placed_is d r is = changes.placed me gs new are.ordered sorted (each_of me gs t are) (each_written me gs new t are sorted n g group at) n d (entries_in g) (entries_moved n (Some g) gs new at) r is

  pub kept_is : (entries_in g) ≡ entries_at n gs → announced_in new ≡ announced_in gs
  kept_is is = changes.kept me gs new are.ordered sorted (each_of me gs t are) (each_written me gs new t are sorted n g group at) n me (entries_in g) (entries_moved n (Some g) gs new at) is

  pub taken_is : (d : Identity) → (entries_in g) ≡ filter (λ e. not (is_from d e)) (entries_at n gs) → announced_in new ≡ remove (announced_in gs) (key n d)
  taken_is d is = changes.taken me gs new are.ordered sorted (each_of me gs t are) (each_written me gs new t are sorted n g group at) n d (entries_in g) (entries_moved n (Some g) gs new at) is

module _ (me : Identity) (gs new : Groups) (t : Totals) (are : AreGroups me gs t) (sorted : Sorted new) (n : Name) (at : HasAt n None gs new) where
  pub dropped_is : [] ≡ entries_at n gs → announced_in new ≡ announced_in gs
  dropped_is is = changes.kept me gs new are.ordered sorted (each_of me gs t are) (each_without me gs new t are sorted n at) n me [] (entries_moved n None gs new at) is

  pub absent_is : (d : Identity) → [] ≡ entries_at n gs → announced_in new ≡ remove (announced_in gs) (key n d)
  absent_is d is = changes.taken me gs new are.ordered sorted (each_of me gs t are) (each_without me gs new t are sorted n at) n d [] (entries_moved n None gs new at) (ap (filter (λ e. not (is_from d e))) is)

-- a name without a group has none
pub nothing_at : (n : Name) (gs : Groups) → lookup (is_at (bytes_cmp n)) gs ≡ None → HasAt n None gs gs
nothing_at n gs none m =
    elim (is_at (bytes_cmp n) m) as (λ b. is_at (bytes_cmp n) m ≡ b → lookup (is_at (bytes_cmp m)) gs ≡ cond b None (lookup (is_at (bytes_cmp m)) gs)) [
      | true ↦ λ a. ap (λ q. lookup (is_at (bytes_cmp q)) gs) (sym (at_same n m a)) ∙ none
      | false ↦ λ a. refl
    ] refl

-- what a group has is told by its entries
pub same_totals : (me : Identity) (n : Name) (was is : Group) → IsGroup me n was → IsGroup me n is → (entries_in is) ≡ (entries_in was) → totals_in me is ≡ totals_in me was
same_totals me n was is group_was group_is same =
    let needed : is.is_needed ≡ was.is_needed = group_is.needed ∙ ap (λ (es : List Entry). is_some (needed_of me es)) same ∙ sym group_was.needed in
    λ i. record {
      files = length (filter (λ e. is_from me e && is_live_file e.record) (same i));
      directories = length (filter (λ e. is_from me e && (is_live e.record && is_directory e.record)) (same i));
      deletions = length (filter (λ e. is_from me e && e.record.deleted) (same i));
      needed = cond (needed i) 1 0;
      others = length (filter (λ e. not (is_from me e)) (same i));
    }

pub unchanged : (t was is : Totals) → is ≡ was → IsChanged t was is t
unchanged t was is same = subst (λ x. IsChanged t was x t) (sym same) (record { files = refl; directories = refl; deletions = refl; needed = refl; others = refl })

-- of no entries there is nothing
pub nothing_in : (me : Identity) (n : Name) (g : Group) → IsGroup me n g → (entries_in g) ≡ [] → totals_in me g ≡ record { files = 0; directories = 0; deletions = 0; needed = 0; others = 0 }
nothing_in me n g group none =
    let needed : g.is_needed ≡ false = group.needed ∙ ap (λ (es : List Entry). is_some (needed_of me es)) none in
    λ i. record {
      files = length (filter (λ e. is_from me e && is_live_file e.record) (none i));
      directories = length (filter (λ e. is_from me e && (is_live e.record && is_directory e.record)) (none i));
      deletions = length (filter (λ e. is_from me e && e.record.deleted) (none i));
      needed = cond (needed i) 1 0;
      others = length (filter (λ e. not (is_from me e)) (none i));
    }

-- ---- room

module _ (me : Identity) (n : Name) (g : Group) (group : IsGroup me n g) where
  few_files : files_in me g ≤ 1
  few_files = own_once me n (λ e. is_live_file e.record) (entries_in g) group.rises group.named

  few_directories : directories_in me g ≤ 1
  few_directories = own_once me n (λ e. is_live e.record && is_directory e.record) (entries_in g) group.rises group.named

  few_deletions : deletions_in me g ≤ 1
  few_deletions = own_once me n (λ e. e.record.deleted) (entries_in g) group.rises group.named

  few_needed : needed_in g ≤ 1
  few_needed = elim g.is_needed as (λ b. cond b 1 0 ≤ 1) [ true ↦ omega arith | false ↦ omega arith ]

  pub small : (was : Group) → others_in me g ≤ others_in me was + 1 → IsSmall (totals_in me was) (totals_in me g)
  small was few = record { files = few_files; directories = few_directories; deletions = few_deletions; needed = few_needed; others = few }

pub small_set : (me : Identity) (n : Name) (d : Identity) (r : FileRecord) (was is : Group) → IsGroup me n is → map filed (entries_in is) ≡ put key_cmp (key n d) r (map filed (entries_in was)) → IsSmall (totals_in me was) (totals_in me is)
small_set me n d r was is group placed = small me n is group was (one_more me (entries_in was) (entries_in is) (key n d) r placed)

pub small_cleared : (me : Identity) (n : Name) (d : Identity) (was is : Group) → IsGroup me n is → (entries_in is) ≡ filter (λ e. not (is_from d e)) (entries_in was) → IsSmall (totals_in me was) (totals_in me is)
small_cleared me n d was is group taken =
    small me n is group was (let a = no_more me d (entries_in was) in let b = ap (λ (es : List Entry). length (filter (λ e. not (is_from me e)) es)) taken in omega arith)

module _ (me : Identity) (gs : Groups) (t : Totals) (are : AreGroups me gs t) (short : length gs < 2 ^ 63) where
  few : (f : Group → ℕ) → ((n : Name) (g : Group) → IsGroup me n g → f g ≤ 1) → sum_by f (values_of gs) + 1 < 2 ^ 64
  few f each =
      let a = at_most_each f (values_of gs) (λ x i. let r = of_map (λ (e : Name × Group). e.1) gs x i in subst (λ y. f y ≤ 1) r.2 (each r.0.0 r.0.1 (each_of me gs t are r.0.0 r.0.1 r.1))) in
      let b = length-values_of gs in
      omega arith

  pub room_at : (n : Name) (g : Group) → lookup (is_at (bytes_cmp n)) gs ≡ Some g → HasRoom t (totals_in me g)
  room_at n g found =
      let s : (f : Group → ℕ) → f g ≤ sum_by f (values_of gs) = λ f. (let e = sums_removed n gs g found f in omega arith) in
      record {
        files = (let e = ap (λ (x : Totals). x.files) are.counted in let a = s (files_in me) in omega arith, let e = ap (λ (x : Totals). x.files) are.counted in let a = few (files_in me) (few_files me) in omega arith);
        directories = (let e = ap (λ (x : Totals). x.directories) are.counted in let a = s (directories_in me) in omega arith, let e = ap (λ (x : Totals). x.directories) are.counted in let a = few (directories_in me) (few_directories me) in omega arith);
        deletions = (let e = ap (λ (x : Totals). x.deletions) are.counted in let a = s (deletions_in me) in omega arith, let e = ap (λ (x : Totals). x.deletions) are.counted in let a = few (deletions_in me) (few_deletions me) in omega arith);
        needed = (let e = ap (λ (x : Totals). x.needed) are.counted in let a = s needed_in in omega arith, let e = ap (λ (x : Totals). x.needed) are.counted in let a = few needed_in (few_needed me) in omega arith);
        others = (let e = ap (λ (x : Totals). x.others) are.counted in let a = s (others_in me) in omega arith, are.room);
      }

  pub room_for_new : HasRoom t (record { files = 0; directories = 0; deletions = 0; needed = 0; others = 0 })
  room_for_new = record {
    files = (omega arith, let e = ap (λ (x : Totals). x.files) are.counted in let a = few (files_in me) (few_files me) in omega arith);
    directories = (omega arith, let e = ap (λ (x : Totals). x.directories) are.counted in let a = few (directories_in me) (few_directories me) in omega arith);
    deletions = (omega arith, let e = ap (λ (x : Totals). x.deletions) are.counted in let a = few (deletions_in me) (few_deletions me) in omega arith);
    needed = (omega arith, let e = ap (λ (x : Totals). x.needed) are.counted in let a = few needed_in (few_needed me) in omega arith);
    others = (omega arith, are.room);
  }

-- the others' records still fit 64 bits after a record is put
pub room_left : (me d : Identity) (r : FileRecord) (was is : Group) (t u : Totals) → map filed (entries_in is) ≡ put key_cmp (key r.name d) r (map filed (entries_in was)) → u.others + others_in me was ≡ t.others + others_in me is
    → t.others + 1 < 2 ^ 64 → (d ≢ me → t.others + 2 < 2 ^ 64) → u.others + 1 < 2 ^ 64
room_left me d r was is t u placed changed room more = by (bytes_eq d me) refl
  where
    by : (b : Bool) → bytes_eq d me ≡ b → u.others + 1 < 2 ^ 64
    by true e = let few = no_more_own me (entries_in was) (entries_in is) (key r.name d) r (same_bytes d me e) placed in omega arith
    by false e =
        let few = one_more me (entries_in was) (entries_in is) (key r.name d) r placed in
        let left = more (λ s. true≢false (sym (alike_bytes d me s) ∙ e)) in
        omega arith
