-- What the pages of an index say together (Block Exchange Protocol v1, "Index" and "Index Update").
use Rattle.std.specs.Prelude.{◌≡◌, ◌⊎◌, ℕ, ◌<◌, ◌≤◌, true, List, fold, Option, Some, None}
use Rattle.std.specs.Option.{option_or}
use mathlib.Core.List.{IsPrefix}
use Rattle.sync_record.specs.Records.{Name, FileRecord}
use Rattle.folder_core.specs.Announced.{last_of}
use Rattle.folder_core.specs.States.{local}
use Rattle.folder_calls.specs.Shared.{CallerView, now}
use Rattle.index_sender.specs.Pages.{Progress}
use Rattle.index_sender.specs.declared.page.Page.{Page}
use Rattle.index_sender.specs.declared.page.Page.TheVariants.{Index, IndexUpdate, Nothing}

-- a record for each name that has one
abbrev pub RecordMap : Type 0
RecordMap = Name → Option FileRecord

-- an Index replaces the whole map, an update replaces or adds its names; of several records of a name the last counts
abbrev pub lay : RecordMap → Page → RecordMap
lay below (Index rs) n = last_of n rs
lay below (IndexUpdate rs) n = option_or (last_of n rs) (below n)
lay below Nothing n = below n

-- pages laid over each other, the first one over nothing
abbrev pub overlay : List Page → RecordMap
overlay pages = fold lay (λ n. None) pages

-- the same folder, later or at the same point: the history goes on from what was seen
pub record GoesOn (before after : CallerView) : Type 0 where
  pub opening : before.opening ≡ after.opening
  pub seen : IsPrefix before.seen after.seen

-- Pages that were given from a start on, at a point of the folder: laid over each other they have, for each name whose local
-- sequence is above the start and at most the cursor, just the local record; and all else that they have was replaced since
-- by a local record that is still to come.
pub record KeepsUp (start : ℕ) (pages : List Page) (progress : Progress) (v : CallerView) : Type 0 where
  pub all : (n : Name) (r : FileRecord) → local (now v) n ≡ Some r → start < r.sequence → r.sequence ≤ progress.cursor → overlay pages n ≡ Some r
  pub only : (n : Name) (r : FileRecord) → overlay pages n ≡ Some r → (start < r.sequence) × (r.sequence ≤ progress.cursor)
      × ((local (now v) n ≡ Some r) ⊎ ((q : FileRecord) × (local (now v) n ≡ Some q) × (progress.cursor < q.sequence)))
  pub from : start ≤ progress.cursor
  pub given : (progress.cursor ≡ start) ⊎ (progress.cursor ≤ (now v).last)
  pub owed : progress.owes_index ≡ true → progress.cursor ≡ start
