-- What a store lists (own rule).
use Rattle.std.specs.Prelude.{bytes_eq, ◌≡◌, if◌then◌else◌, List, [], map, Option, Some, None, is_none}
use Rattle.std.specs.Map.{lookup}
use Rattle.std.specs.List.Sorted.{IsStrictlySortedBy}
use Rattle.std.specs.Cmp.Lexicographic.{slice_cmp}
use Rattle.std.specs.Ordering.{nat_cmp}
use Rattle.sync_names.specs.Refusal.{refusal}
use Rattle.file_store.specs.declared.node.Kind.{Kind}
use Rattle.file_store.specs.declared.node.Kind.TheVariants as kind
use Rattle.file_store.specs.declared.node.Listed.{Listed}
use Rattle.file_store.specs.declared.node.Listing.{Listing}
use Rattle.file_store.specs.declared.node.Node.{Node}
use Rattle.file_store.specs.declared.node.Node.TheVariants.{Directory, File}
use Rattle.file_store.specs.Names.{Name}

abbrev pub kind_of : Node → Kind
kind_of Directory = kind.Directory
kind_of (File bytes modified) = kind.File

abbrev pub kind_at : Option Node → Option Kind
kind_at None = None
kind_at (Some node) = Some (kind_of node)

-- the kind under which a name is listed
abbrev pub listed_at : List Listed → Name → Option Kind
listed_at entries q = lookup (bytes_eq q) (map (λ e. (e.name, e.kind)) entries)

-- the names ascend by their bytes, so each is there once
abbrev pub AreAscending : List Name → Type 0
AreAscending = IsStrictlySortedBy (slice_cmp nat_cmp)

-- both lists of a listing are in order
pub record IsInOrder (listing : Listing) : Type 0 where
  pub entries : AreAscending (map (λ e. e.name) listing.entries.items)
  pub unread : AreAscending listing.unread.items

-- exactly the safe names of files and directories are listed, each with its kind, and no directory is unread
pub record IsListing (names : Name → Option Node) (listing : Listing) : Type 0 where
  pub order : IsInOrder listing
  pub each : (q : Name) → listed_at listing.entries.items q ≡ (if is_none (refusal q) then kind_at (names q) else None)
  pub unread : listing.unread.items ≡ []
