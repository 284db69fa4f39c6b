-- Pages of a device's index (Block Exchange Protocol v1, "Index" and "Index Update"; how many records a page has, and when
-- the whole index is sent, are own rules).
use Rattle.std.specs.Prelude.{◌≡◌, ℕ, Bool, true, false, ℤ, List, [], ◌∷◌, length, nat_le, nat_lt, if◌then◌else◌, Option, Some, None}
use Rattle.sync_record.specs.Infos.{natural}
use Rattle.sync_record.specs.Records.{FileRecord}
use Rattle.folder_core.specs.Reads.{LocalSince, Reads}
use Rattle.folder_core.specs.States.{FolderState}
use Rattle.index_sender.specs.declared.page.Page.{Page}
use Rattle.index_sender.specs.declared.page.Page.TheVariants.{Index, IndexUpdate, Nothing}

-- how far a sender is: the sequence up to which it has given the local records, and whether its Index is still to come
pub record Progress : Type 0 where
  pub cursor : ℕ
  pub owes_index : Bool

-- without a start the first page is an Index; with one, which is 0 where it is negative, all are updates
abbrev pub sending_from : Option ℤ → Progress
sending_from None = record { cursor = 0; owes_index = true }
sending_from (Some start) = record { cursor = natural start; owes_index = false }

-- the most records of a page
abbrev pub max_page_records : ℕ
max_page_records = 1000

-- the sequence of the last record, or the given one where there is none
abbrev pub last_sequence : ℕ → List FileRecord → ℕ
last_sequence sequence [] = sequence
last_sequence sequence (r ∷ rs) = last_sequence r.sequence rs

-- the page of these records: an Index, also without any, if it is still to come, and then an update where there are any
abbrev pub page_of : Bool → List FileRecord → Page
page_of true rs = Index rs
page_of false [] = Nothing
page_of false (r ∷ rs) = IndexUpdate (r ∷ rs)

-- after a page the cursor is the last sequence of it, and the Index has come
abbrev pub after_page : Progress → List FileRecord → Progress
after_page old rs = record { cursor = last_sequence old.cursor rs; owes_index = false }

-- what a sender gives of a folder: the page of the local records that a read after its cursor gives
pub record Gives (s : FolderState) (old : Progress) (page : Page) (new : Progress) : Type 0 where
  pub records : List FileRecord
  pub read : Reads s (LocalSince old.cursor max_page_records) records
  pub page_is : page ≡ page_of old.owes_index records
  pub new_is : new ≡ after_page old records

-- of records in rising sequence those up to a sequence
abbrev pub up_to : ℕ → List FileRecord → List FileRecord
up_to sequence [] = []
up_to sequence (r ∷ rs) = if nat_le r.sequence sequence then r ∷ up_to sequence rs else []

-- The same where only the records up to a sequence are kept: the page has no other, and others wait for that.
pub record GivesKept (kept : ℕ) (s : FolderState) (old : Progress) (page : Page) (is_waiting : Bool) (new : Progress) : Type 0 where
  pub records : List FileRecord
  pub read : Reads s (LocalSince old.cursor max_page_records) records
  pub page_is : page ≡ page_of old.owes_index (up_to kept records)
  pub waiting_is : is_waiting ≡ nat_lt (length (up_to kept records)) (length records)
  pub new_is : new ≡ after_page old (up_to kept records)

-- the records of a page
abbrev pub records_of : Page → List FileRecord
records_of (Index rs) = rs
records_of (IndexUpdate rs) = rs
records_of Nothing = []
