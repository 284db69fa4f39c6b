-- What a folder has of another device once it heard that device's index (Block Exchange Protocol v1, "Index" and "Index Update"; which
-- records come is own rule).
use Rattle.std.specs.Prelude.{◌≡◌, ◌≢◌, ⊤, ℕ, ℤ, nat_lt, if◌then◌else◌, Bool, true, false, IsTrue, List, [], ◌∷◌, Option, Some, None}
use Rattle.std.specs.FinMap.{get}
use Rattle.std.specs.List.{AllByRecursion}
use Rattle.std.specs.Option.{option_or}
use Rattle.sync_version.specs.Versions.{Dominates}
use Rattle.sync_record.specs.Devices.{Identity}
use Rattle.sync_record.specs.Infos.{natural}
use Rattle.sync_record.specs.Records.{FileRecord, Name}
use Rattle.sync_record.specs.Validity.{is_valid}
use Rattle.folder_core.specs.Announced.{key}
use Rattle.folder_core.specs.States.{FolderState, local}
use Rattle.folder_core.specs.declared.answer.Answer.TheVariants.{Applied}
use Rattle.folder_core.specs.declared.change.Change.TheVariants.{IndexFull, IndexMore}
use Rattle.folder_calls.specs.Adds.{Asked, Asks}
use Rattle.folder_calls.specs.Shared.{CallerView, now}
use Rattle.index_sender.specs.Overlay.{KeepsUp, RecordMap, overlay}
use Rattle.index_sender.specs.Pages.{Progress, sending_from}
use Rattle.index_sender.specs.declared.page.Page.{Page}
use Rattle.index_sender.specs.declared.page.Page.TheVariants.{Index, IndexUpdate, Nothing}

-- what a folder has of a device
abbrev pub told_by : Identity → FolderState → RecordMap
told_by d s n = get s.announced (key n d)

-- a record of greater sequence
abbrev pub above : ℕ → Option FileRecord → Option FileRecord
above sequence None = None
above sequence (Some r) = if nat_lt sequence r.sequence then Some r else None

-- What a folder has of a device that sent it its index, by what that device has and by what the folder had of it: just the same;
-- or, from a start on, the records of greater sequence in place of what it had.
abbrev pub after_index : Option ℤ → RecordMap → RecordMap → RecordMap
after_index None theirs had n = theirs n
after_index (Some start) theirs had n = option_or (above (natural start) (theirs n)) (had n)

-- the changes that pages of a device are
abbrev pub changes_of : Identity → List Page → List Asked
changes_of d [] = []
changes_of d (Index rs ∷ pages) = (IndexFull d rs, Applied) ∷ changes_of d pages
changes_of d (IndexUpdate rs ∷ pages) = (IndexMore d rs, Applied) ∷ changes_of d pages
changes_of d (Nothing ∷ pages) = changes_of d pages

-- the first page is an Index
abbrev pub IsIndexFirst : List Page → Type 0
IsIndexFirst [] = ⊥
IsIndexFirst (Index rs ∷ pages) = ⊤
IsIndexFirst (IndexUpdate rs ∷ pages) = ⊥
IsIndexFirst (Nothing ∷ pages) = ⊥

abbrev pub IsUpdate : Page → Type 0
IsUpdate (Index rs) = ⊥
IsUpdate (IndexUpdate rs) = ⊤
IsUpdate Nothing = ⊤

-- pages without a start begin with an Index, which may be still to come; from a start on all are updates
abbrev pub BeginsAs : Option ℤ → Bool → List Page → Type 0
BeginsAs None true pages = pages ≡ []
BeginsAs None false pages = IsIndexFirst pages
BeginsAs (Some start) owes pages = (owes ≡ false) × AllByRecursion IsUpdate pages

-- Pages of a device were given from a start on, up to a point of its folder, and each was made the change that it is of another.
pub record SendsSoFar (d : Identity) (start : Option ℤ) (progress : Progress) (from old new : CallerView) : Type 0 where
  pub pages : List Page
  pub begins : BeginsAs start progress.owes_index pages
  pub keeps : KeepsUp (sending_from start).cursor pages progress from
  pub asks : Asks old (changes_of d pages) new

-- The same until nothing was left: laid over each other the pages have for each name the local record, if its sequence is above the
-- start.
pub record Sends (d : Identity) (start : Option ℤ) (from old new : CallerView) : Type 0 where
  pub pages : List Page
  pub begins : BeginsAs start false pages
  pub have : (n : Name) → overlay pages n ≡ above (sending_from start).cursor (local (now from) n)
  pub asks : Asks old (changes_of d pages) new

-- a device's record of the name dominates each valid record of the name that a folder has of others; so it does where there is none
abbrev pub IsNewest : FolderState → Identity → Name → Option FileRecord → Type 0
IsNewest s d n mine =
    (e : Identity) (q : FileRecord) → d ≢ e → told_by e s n ≡ Some q → IsTrue (is_valid q)
    → (r : FileRecord) × (mine ≡ Some r) × Dominates r.version q.version
