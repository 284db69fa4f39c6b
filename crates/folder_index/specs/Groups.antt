-- How the records are kept: by name, and of each name by device, with what is chosen of them.
use Rattle.std.specs.Prelude.{[], ◌∷◌, ◌||◌, Contains, bytes_eq, ◌≡◌, ℕ, ◌+◌, ◌<◌, ◌≤◌, ◌^◌, ◌&&◌, IsTrue, List, length, filter, flat_map, not, option_map, if◌then◌else◌, is_some, Option, slice_get}
use Rattle.std.specs.List.{list_all}
use Rattle.std.specs.Option.{option_to_list}
use Rattle.std.specs.BTreeMap.{is_at}
use Rattle.std.specs.Map.{keys_of, lookup, values_of}
use Rattle.std.specs.List.Sorted.{IsStrictlySortedBy}
use Rattle.std.specs.Prelude.{Some, map, sum_by}
use Rattle.std.specs.FinMap.{from_sorted}
use Rattle.std.specs.FinSet as set
use Rattle.sync_record.specs.Devices.{Identity, bytes_cmp}
use Rattle.sync_record.specs.Records.{Name, is_directory, is_live, is_live_file}
use Rattle.folder_core.specs.declared.announcement.Announcement.{Announcement as Entry}
use Rattle.folder_core.specs.Announced.{Announced}
use Rattle.folder_core.specs.Plain.{Rises, devices_with, filed}
use Rattle.folder_core.specs.declared.best.Best.{Best}
use Rattle.folder_core.specs.Reads.{BestEntry}
use Rattle.folder_core.specs.PlainPulls.{best_in}
use Rattle.folder_core.specs.PlainReads.{is_from, needed_of}
use Rattle.folder_index.specs.declared.group.Group.{Group}
use Rattle.folder_index.specs.Indexes.{IndexState, Names}
use Rattle.folder_index.specs.NameEntries.{entries_kept, is_one_from, name_kept, room_kept}
use Rattle.folder_index.specs.declared.totals.Totals.{Totals}

-- the records of the name, by device
abbrev pub entries_in : Group → List Entry
entries_in g = entries_kept g.kept

abbrev pub name_in : Group → Name
name_in g = name_kept g.kept

-- how many more fit without allocating
abbrev pub room_in : Group → ℕ
room_in g = room_kept g.kept

-- the chosen entry
abbrev pub chosen : Group → Option Entry
chosen g = slice_get (entries_in g) g.best_place

-- the best, with the devices that have it
abbrev pub best_of_group : Group → Option BestEntry
best_of_group g = option_map {U = BestEntry} (λ b. (b.record, devices_with (entries_in g) b.record)) (chosen g)

-- What holds of the group of a name: its entries are of the name, by device, and the best and the need are those of the entries.
-- Where room is promised, there is room for one entry more.
pub record IsGroup (me : Identity) (n : Name) (g : Group) : Type 0 where
  pub rises : Rises (entries_in g)
  pub named : IsTrue (list_all (λ e. bytes_eq e.record.name n) (entries_in g))
  pub best : chosen g ≡ best_in (entries_in g)
  pub needed : g.is_needed ≡ is_some (needed_of me (entries_in g))
  pub fits : IsTrue g.is_promised → 1 ≤ room_in g
  pub name : name_in g ≡ n
  pub short : length (entries_in g) < 2 ^ 32

-- all entries, by name and then by device
abbrev pub listed : List (Name × Group) → List Entry
listed gs = flat_map (λ g. entries_in g.1) gs

-- what a group has, counted
abbrev pub files_in : Identity → Group → ℕ
files_in me g = length (filter (λ e. is_from me e && is_live_file e.record) (entries_in g))

abbrev pub directories_in : Identity → Group → ℕ
directories_in me g = length (filter (λ e. is_from me e && (is_live e.record && is_directory e.record)) (entries_in g))

abbrev pub deletions_in : Identity → Group → ℕ
deletions_in me g = length (filter (λ e. is_from me e && e.record.deleted) (entries_in g))

abbrev pub needed_in : Group → ℕ
needed_in g = if g.is_needed then 1 else 0

abbrev pub others_in : Identity → Group → ℕ
others_in me g = length (filter (λ e. not (is_from me e)) (entries_in g))

-- what one group has, counted
abbrev pub totals_in : Identity → Group → Totals
totals_in me g = record {
  files = files_in me g;
  directories = directories_in me g;
  deletions = deletions_in me g;
  needed = needed_in g;
  others = others_in me g;
}

-- what all have
abbrev pub totals_of : Identity → List Group → Totals
totals_of me gs = record {
  files = sum_by (files_in me) gs;
  directories = sum_by (directories_in me) gs;
  deletions = sum_by (deletions_in me) gs;
  needed = sum_by needed_in gs;
  others = sum_by (others_in me) gs;
}

-- What holds of the groups by name.
pub record AreGroups (me : Identity) (gs : List (Name × Group)) (totals : Totals) : Type 0 where
  pub ordered : IsStrictlySortedBy bytes_cmp (keys_of gs)
  pub groups : (n : Name) (g : Group) → lookup (is_at (bytes_cmp n)) gs ≡ Some g → IsGroup me n g
  pub counted : totals ≡ totals_of me (values_of gs)
  pub room : totals.others + 1 < 2 ^ 64

-- what is announced, as it is kept
abbrev pub announced_in : List (Name × Group) → Announced
announced_in gs = from_sorted (map filed (listed gs))

-- the names with room that is promised
abbrev pub promised_in : List (Name × Group) → Names
promised_in [] = set.empty
promised_in (h ∷ gs) = if h.1.is_promised then set.insert (promised_in gs) h.0 else promised_in gs

abbrev pub index_of : Identity → List (Name × Group) → ℕ → IndexState
index_of me gs choices = record { me = me; announced = announced_in gs; choices = choices; promised = promised_in gs }

-- The part is in the totals, and one more of each still fits 64 bits.
pub record HasRoom (t part : Totals) : Type 0 where
  pub files : (part.files ≤ t.files) × (t.files + 1 < 2 ^ 64)
  pub directories : (part.directories ≤ t.directories) × (t.directories + 1 < 2 ^ 64)
  pub deletions : (part.deletions ≤ t.deletions) × (t.deletions + 1 < 2 ^ 64)
  pub needed : (part.needed ≤ t.needed) × (t.needed + 1 < 2 ^ 64)
  pub others : (part.others ≤ t.others) × (t.others + 1 < 2 ^ 64)

-- A part that had this much has one of each at most, or one more of the others' records.
pub record IsSmall (was is : Totals) : Type 0 where
  pub files : is.files ≤ 1
  pub directories : is.directories ≤ 1
  pub deletions : is.deletions ≤ 1
  pub needed : is.needed ≤ 1
  pub others : is.others ≤ was.others + 1

-- The new totals are the old ones, where a part that had this much has that much.
pub record IsChanged (t was is u : Totals) : Type 0 where
  pub files : u.files + was.files ≡ t.files + is.files
  pub directories : u.directories + was.directories ≡ t.directories + is.directories
  pub deletions : u.deletions + was.deletions ≡ t.deletions + is.deletions
  pub needed : u.needed + was.needed ≡ t.needed + is.needed
  pub others : u.others + was.others ≡ t.others + is.others

-- There is room for a record of the device, beside the one that is promised: it takes the place of the only one, or more fit.
abbrev pub HasSpare : Identity → Group → Type 0
HasSpare d g = IsTrue (g.is_promised || not (is_one_from d g.kept)) → (if g.is_promised then 2 else 1) ≤ room_in g

-- the name has a group, where there is
abbrev pub HasSpareAt : Identity → Name → List (Name × Group) → Type 0
HasSpareAt d n gs = (g : Group) × (lookup (is_at (bytes_cmp n)) gs ≡ Some g) × HasSpare d g

-- ---- pages

abbrev pub shown : Best → BestEntry
shown b = (b.record, b.devices)

-- the bests of groups
abbrev pub bests_listed : List (Name × Group) → List BestEntry
bests_listed gs = flat_map (λ h. option_to_list (best_of_group h.1)) gs

-- the names of those that are needed
abbrev pub needed_listed : List (Name × Group) → List Name
needed_listed gs = flat_map (λ h. if h.1.is_needed then h.0 ∷ [] else []) gs

-- where a group is needed, its first record has its name
abbrev pub AreNeeded : List Group → Type 0
AreNeeded gs = (g : Group) → Contains gs g → IsTrue g.is_needed → (e : Entry) × (slice_get (entries_in g) 0 ≡ Some e) × (e.record.name ≡ name_in g)
