-- What is saved of a folder at once, and the folder at each end of it (own rule).
use Rattle.std.specs.Prelude.{◌≡◌, ⊤, false, List, [], ◌∷◌, ◌++◌, flat_map}
use Rattle.std.specs.List.{AllByRecursion}
use Rattle.folder_calls.specs.Shared.{CallerView, IsLegalView, now}
use Rattle.folder_core.specs.States.{FolderState}
use Rattle.index_sender.specs.Overlay.{KeepsUp}
use Rattle.index_sender.specs.Pages.{Progress}
use Rattle.index_sender.specs.declared.page.Page.{Page}
use Rattle.node_journal.specs.declared.frame.Frame.{Frame}
use Rattle.node_saver.specs.Frames.{closing_frame}
use Rattle.node_saver.specs.Saving.{HasAll}
use Rattle.node_saver.specs.declared.frames.SavedFolder.{SavedFolder}
use Rattle.proof_journal.specs.Appended.{AreUpdates, HavePages}
use Rattle.proof_journal.specs.Own.{SameOwn}

-- What a saver wrote at once: these pages of the folder, in these frames and one that ends the batch; and what its caller and its
-- sender then were.
pub record Batch : Type 0 where
  pub pages : List Page
  pub body : List Frame
  pub view : CallerView
  pub progress : Progress

-- its frames, with the one that ends it
abbrev pub frames_of : Batch → List Frame
frames_of b = b.body ++ closing_frame ∷ []

-- the frames of these batches, one batch after the other
abbrev pub all_frames : List Batch → List Frame
all_frames bs = flat_map frames_of bs

-- No frame before the last one is whole; the pages stand in them; and with those before, which were told, they keep up with the folder, of
-- which no record is left.
pub record IsBatch (f : SavedFolder) (s : FolderState) (told : List Page) (b : Batch) : Type 0 where
  pub legal : IsLegalView b.view
  pub opened : SameOwn s b.view.opening
  pub keeps : KeepsUp s.last (told ++ b.pages) b.progress b.view
  pub all : HasAll (now b.view) b.progress.cursor
  pub updates : AreUpdates (told ++ b.pages)
  pub have : HavePages f b.pages b.body
  pub none_whole : AllByRecursion (λ g. g.is_whole ≡ false) b.body

-- batches one after the other, each behind the pages of those before
abbrev pub AreBatches : SavedFolder → FolderState → List Page → List Batch → Type 0
AreBatches f s told [] = ⊤
AreBatches f s told (b ∷ bs) = IsBatch f s told b × AreBatches f s (told ++ b.pages) bs

-- the folder at the end of the last batch; where there is none, as it was before
abbrev pub at_end : FolderState → List Batch → FolderState
at_end s [] = s
at_end s (b ∷ bs) = at_end (now b.view) bs
