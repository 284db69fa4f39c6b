-- The groups by name, in chunks.
use Rattle.std.specs.Prelude.{◌≡◌, ◌≤◌, ◌<◌, ◌+◌, ◌++◌, ◌^◌, ℕ, Bool, true, List, [], ◌∷◌, IsTrue, Some, Vec, drop, flat_map, length, map, nat_lt, not, slice_get, take, vec_len}
use Rattle.std.specs.List.{AllByRecursion, list_all}
use Rattle.std.specs.List.Sorted.{IsStrictlySortedBy}
use Rattle.std.specs.Map.{keys_of}
use Rattle.std.specs.Option.{option_map_or}
use Rattle.std.specs.Ordering.{is_gt, is_lt}
use Rattle.std.specs.declared.alloc.Global.{Global}
use Rattle.std.specs.declared.cmp.Ordering.TheVariants.{Less}
use Rattle.sync_record.specs.Devices.{Identity, bytes_cmp}
use Rattle.sync_record.specs.Records.{Name}
use Rattle.folder_index.specs.declared.chunks.Chunks.{Chunks}
use Rattle.folder_index.specs.declared.chunks.Spot.{Spot}
use Rattle.folder_index.specs.declared.group.Group.{Group}
use Rattle.folder_index.specs.Groups.{AreGroups, name_in}
use Rattle.folder_index.specs.declared.totals.Totals.{Totals}

abbrev pub keyed : Group → Name × Group
keyed g = (name_in g, g)

abbrev pub Chunk : Type 0
Chunk = Vec Group Global

abbrev pub in_chunk : Chunk → List (Name × Group)
in_chunk c = map keyed c.items

-- the groups, by name
abbrev pub groups_in : Chunks → List (Name × Group)
groups_in cs = flat_map in_chunk cs.chunks.items

-- no chunk is empty
abbrev pub AreFilled : Chunks → Type 0
AreFilled cs = IsTrue (list_all (λ c. nat_lt 0 (vec_len c)) cs.chunks.items)

-- the groups are counted, and there are fewer than 2^63
pub record IsCounted (cs : Chunks) : Type 0 where
  pub all : cs.count ≡ length (groups_in cs)
  pub few : cs.count < 2 ^ 63

-- no chunk is empty, and the names rise
pub record IsSearchable (cs : Chunks) : Type 0 where
  pub filled : AreFilled cs
  pub ordered : IsStrictlySortedBy bytes_cmp (keys_of (groups_in cs))

-- What holds of the groups in chunks.
pub record AreChunked (me : Identity) (cs : Chunks) (totals : Totals) : Type 0 where
  pub filled : AreFilled cs
  pub counted : IsCounted cs
  pub are : AreGroups me (groups_in cs) totals

-- the chunk with a number, or none
abbrev pub chunk_at : Chunks → ℕ → List (Name × Group)
chunk_at cs i = option_map_or in_chunk (slice_get cs.chunks.items i) []

-- the groups before a spot, and those from it on
abbrev pub before : Spot → Chunks → List (Name × Group)
before s cs = flat_map in_chunk (take s.chunk cs.chunks.items) ++ take s.place (chunk_at cs s.chunk)

abbrev pub from_on : Spot → Chunks → List (Name × Group)
from_on s cs = drop s.place (chunk_at cs s.chunk) ++ flat_map in_chunk (drop (s.chunk + 1) cs.chunks.items)

-- the group of the name is at the spot
pub record IsAt (n : Name) (s : Spot) (cs : Chunks) : Type 0 where
  pub chunk : Chunk
  pub at : slice_get cs.chunks.items s.chunk ≡ Some chunk
  pub group : Group
  pub is : slice_get chunk.items s.place ≡ Some group
  pub named : name_in group ≡ n

-- the names before the spot are lesser, and those from it on are greater
pub record IsGap (n : Name) (s : Spot) (cs : Chunks) : Type 0 where
  pub inside : 0 < vec_len cs.chunks → s.chunk < vec_len cs.chunks
  pub fits : s.place ≤ length (chunk_at cs s.chunk)
  pub lesser : AllByRecursion (λ m. bytes_cmp m n ≡ Less) (keys_of (before s cs))
  pub greater : AllByRecursion (λ m. bytes_cmp n m ≡ Less) (keys_of (from_on s cs))

-- the first of the groups has the name or a lesser one
abbrev pub begins_by : Name → List Group → Bool
begins_by n [] = true
begins_by n (g ∷ gs) = not (is_gt (bytes_cmp (name_in g) n))

abbrev pub is_lesser : Name → Group → Bool
is_lesser n g = is_lt (bytes_cmp (name_in g) n)
