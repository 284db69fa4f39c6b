-- What is appended of a folder's records (own rule).
use Rattle.std.specs.Prelude.{◌≡◌, ◌≤◌, ℕ, List, [], ◌∷◌, ◌++◌, flat_map, Option, Some, None}
use Rattle.folder_calls.specs.Shared.{CallerView, IsLegalView, now}
use Rattle.folder_core.specs.States.{FolderState, local}
use Rattle.index_sender.specs.Overlay.{GoesOn}
use Rattle.index_sender.specs.Pages.{Gives, Progress, records_of}
use Rattle.index_sender.specs.declared.page.Page.{Page}
use Rattle.index_sender.specs.declared.page.Page.TheVariants.{Index, IndexUpdate, Nothing}
use Rattle.node_journal.specs.declared.frame.Frame.{Frame}
use Rattle.node_saver.specs.Frames.{records_frame}
use Rattle.node_saver.specs.declared.frames.SavedFolder.{SavedFolder}
use Rattle.sync_record.specs.Infos.{info_of, record_of}
use Rattle.sync_record.specs.Records.{Name, FileRecord}

-- the records of a page, unless it is none
abbrev pub told : Page → Option (List FileRecord)
told (Index rs) = Some rs
told (IndexUpdate rs) = Some rs
told Nothing = None

-- the records of these pages were appended, one page after the other, each as a frame of the folder
pub data Saves {J : Type 0} (appends : J → Frame → J → Type 0) (f : SavedFolder) (first : J) : List Page → J → Type 0 where
  none : Saves appends f first [] first
  one_more : (pages : List Page) (page : Page) (mid last : J) → Saves appends f first pages mid → appends mid (records_frame f (records_of page)) last
      → Saves appends f first (pages ++ page ∷ []) last

-- A sender that was so far gave these pages, one after the other, each of the folder at a point that is no earlier than that of the page before.
pub data AreGiven (first : CallerView) (old : Progress) : List Page → CallerView → Progress → Type 0 where
  none_given : AreGiven first old [] first old
  one_given : (pages : List Page) (page : Page) (before after : CallerView) (mid new : Progress) → AreGiven first old pages before mid
      → GoesOn before after → IsLegalView after → Gives (now after) mid page new → AreGiven first old (pages ++ page ∷ []) after new

-- the records of these pages, one page after the other
abbrev pub records_in : List Page → List FileRecord
records_in pages = flat_map records_of pages

-- the record is read from its message as it was
abbrev pub IsReadAgain : FileRecord → Type 0
IsReadAgain r = record_of (info_of r) ≡ r

-- no local record is above the sequence
abbrev pub HasAll : FolderState → ℕ → Type 0
HasAll s last = (n : Name) (r : FileRecord) → local s n ≡ Some r → r.sequence ≤ last
