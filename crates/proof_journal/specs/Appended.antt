-- What a journal has of a folder's own records (own rule).
use Rattle.std.specs.Prelude.{◌≡◌, ⊤, ℕ, false, List, [], ◌∷◌, map}
use Rattle.std.specs.List.{AllByRecursion}
use Rattle.std.specs.List.Sorted.{IsStrictlySortedBy}
use Rattle.std.specs.Ordering.{nat_cmp}
use Rattle.folder_calls.specs.Shared.{CallerView}
use Rattle.index_sender.specs.Overlay.{KeepsUp}
use Rattle.index_sender.specs.Pages.{Progress, records_of}
use Rattle.index_sender.specs.declared.page.Page.{Page}
use Rattle.index_sender.specs.declared.page.Page.TheVariants.{Index, IndexUpdate, Nothing}
use Rattle.node_journal.specs.declared.frame.Frame.{Frame}
use Rattle.node_journal.specs.declared.part.Part.{Part}
use Rattle.node_replay.specs.Told.{parts_of}
use Rattle.node_saver.specs.Frames.{records_frame}
use Rattle.node_saver.specs.Saving.{IsReadAgain, records_in}
use Rattle.node_saver.specs.declared.frames.SavedFolder.{SavedFolder}
use Rattle.sync_record.specs.Infos.{natural}

-- the page adds to those before it
abbrev pub IsUpdate : Page → Type 0
IsUpdate (Index rs) = ⊥
IsUpdate (IndexUpdate rs) = ⊤
IsUpdate Nothing = ⊤

-- Pages as a sender with a start gives them: updates alone, of records in rising sequence, which are read again as they were.
pub record AreUpdates (pages : List Page) : Type 0 where
  pub updates : AllByRecursion IsUpdate pages
  pub rise : IsStrictlySortedBy nat_cmp (map (λ r. r.sequence) (records_in pages))
  pub again : AllByRecursion IsReadAgain (records_in pages)

-- A sender that began behind the start has given these pages: they are updates, they keep up with the folder at this point, and no Index is owed.
pub record IsSending (start : ℕ) (pages : List Page) (progress : Progress) (point : CallerView) : Type 0 where
  pub updates : AreUpdates pages
  pub keeps : KeepsUp start pages progress point
  pub owes : progress.owes_index ≡ false

-- the part tells no record, and no last sequence
abbrev pub IsSilent : Part → Type 0
IsSilent p = (p.records ≡ []) × (natural p.last ≡ 0)

-- the frame tells no record of the folder of this id
abbrev pub TellsNone : List ℕ → Frame → Type 0
TellsNone id frame = AllByRecursion IsSilent (parts_of id (frame ∷ []))

-- These frames have these pages of the folder, in their order, and between them only frames that tell none of its records.
pub data HavePages (f : SavedFolder) : List Page → List Frame → Type 0 where
  no_page : HavePages f [] []
  one_page : (page : Page) (pages : List Page) (frames : List Frame) → HavePages f pages frames → HavePages f (page ∷ pages) (records_frame f (records_of page) ∷ frames)
  other : (frame : Frame) (pages : List Page) (frames : List Frame) → TellsNone f.id frame → HavePages f pages frames → HavePages f pages (frame ∷ frames)
