-- What is left of a journal that was cut (own rule).
use Rattle.std.specs.Prelude.{◌≡◌, ◌≢◌, ℕ, ◌≤◌, List, [], ◌∷◌, length, take, drop, if◌then◌else◌}
use Rattle.node_journal.specs.declared.frame.Frame.{Frame}
use Rattle.node_journal.specs.declared.header.JournalHeader.{JournalHeader}
use Rattle.node_journal.specs.declared.kept.JournalEnd.TheVariants.{Broken}
use Rattle.node_journal.specs.declared.kept.KeptFrames.{KeptFrames}
use Rattle.node_journal.specs.Format.{header_bytes, header_len, journal_bytes}
use Rattle.node_journal.specs.Journals.{HasHeader}
use Rattle.node_journal.specs.Reading.{Reads}

-- a frame, and those that count of the others
abbrev pub front_of : Frame → List Frame → List Frame
front_of f [] = if f.is_whole then f ∷ [] else []
front_of f (g ∷ gs) = f ∷ g ∷ gs

-- the frames up to the last one that is whole
abbrev pub up_to_whole : List Frame → List Frame
up_to_whole [] = []
up_to_whole (f ∷ fs) = front_of f (up_to_whole fs)

-- The bytes are read as a beginning of these frames, of so many at least, up to the last whole one of them; and new ones may follow it.
pub record IsBeginning (h : JournalHeader) (frames : List Frame) (least : ℕ) (bytes : List ℕ) : Type 0 where
  pub header : HasHeader h bytes
  pub count : ℕ
  pub enough : least ≤ count
  pub read : KeptFrames
  pub reads : Reads (header_bytes h) header_len (drop header_len bytes) read
  pub is : read.frames ≡ up_to_whole (take count frames)
  pub len : read.len ≡ length (journal_bytes h read.frames)
  pub end : read.end ≢ Broken
