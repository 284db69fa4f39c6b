-- What stood in a directory, and what changed in it.
use Rattle.std.specs.Prelude.{◌≡◌, ◌==◌, ◌&&◌, ◌+◌, ◌++◌, ◌≤◌, ℕ, Bool, true, false, not, is_none, bytes_eq, List, [], length, map, filter, find, take, drop, option_map, Option, Some, None, All, Any, Contains}
use Rattle.std.specs.List.Sorted.{IsStrictlySortedBy}
use Rattle.std.specs.Cmp.Lexicographic.{slice_cmp}
use Rattle.std.specs.Ordering.{int_eq, nat_cmp}
use Rattle.std.specs.String.{string_bytes}
use Rattle.folder_look.specs.declared.facts.Entry.{Entry}
use Rattle.folder_look.specs.declared.facts.EntryKind.{EntryKind}
use Rattle.folder_look.specs.declared.facts.EntryKind.TheVariants.{File, Directory, Other}
use Rattle.folder_look.specs.declared.facts.Facts.{Facts}
use Rattle.folder_look.specs.declared.table.Row.{Row}

-- a name, and what is there
abbrev pub Named : Type 0
Named = List ℕ × Facts

abbrev pub no_entries : List Named
no_entries = []

-- ---- what a table has

abbrev pub row_facts : Row → Facts
row_facts row = record { kind = row.kind; size = row.size; modified = row.modified; changed = row.changed; inode = row.inode }

-- the name of a row, of the names one after another
abbrev pub name_of : List ℕ → Row → List ℕ
name_of names row = take row.len (drop row.start names)

abbrev pub named : List ℕ → Row → Named
named names row = (name_of names row, row_facts row)

abbrev pub entries_of : List ℕ → List Row → List Named
entries_of names rows = map (named names) rows

-- each name is among the names one after another
abbrev pub ArePacked : List ℕ → List Row → Type 0
ArePacked names rows = All (λ row. row.start + row.len ≤ length names) rows

-- the names ascend by their bytes, so each is there once
abbrev pub IsTable : List ℕ → List Row → Type 0
IsTable names rows = IsStrictlySortedBy (slice_cmp nat_cmp) (map (name_of names) rows)

-- ---- what changed

abbrev pub same_kind : EntryKind → EntryKind → Bool
same_kind File File = true
same_kind File Directory = false
same_kind File Other = false
same_kind Directory File = false
same_kind Directory Directory = true
same_kind Directory Other = false
same_kind Other File = false
same_kind Other Directory = false
same_kind Other Other = true

-- all that the system says is the same
abbrev pub are_same : Facts → Facts → Bool
are_same a b = same_kind a.kind b.kind && a.size == b.size && int_eq a.modified b.modified && int_eq a.changed b.changed && a.inode == b.inode

-- what is at a name, if anything is
abbrev pub facts_of : List ℕ → List Named → Option Facts
facts_of name entries = option_map (λ e. e.1) (find (λ e. bytes_eq e.0 name) entries)

-- before, something else was at its name, or nothing
abbrev pub is_new : Option Facts → Facts → Bool
is_new None now = true
is_new (Some before) now = not (are_same before now)

-- the entries that are new or others, in a list of entries, than in one of before
abbrev pub news : List Named → List Named → List Named
news before now = filter (λ e. is_new (facts_of e.0 before) e.1) now

-- the entries of before at whose names nothing is now
abbrev pub gone : List Named → List Named → List Named
gone before now = filter (λ e. is_none (facts_of e.0 now)) before

-- the names that are told: those of new and other entries, and those of entries that are gone
abbrev pub changes : List Named → List Named → List (List ℕ)
changes before now = map (λ e. e.0) (news before now) ++ map (λ e. e.0) (gone before now)

-- ---- the table of a list of entries

-- an entry, by its name and what it is
abbrev pub view_of : Entry → Named
view_of e = (string_bytes e.name, e.facts)

-- each entry's name is in the table, and what is in the table is one of the entries
pub record IsOf (entries : List Entry) (table : List Named) : Type 0 where
  pub all : (e : Entry) → Contains entries e → Any (λ t. t.0 ≡ string_bytes e.name) table
  pub no_more : (t : Named) → Contains table t → Contains (map view_of entries) t
