-- What a connection leaves (own rule).
use Rattle.std.specs.Prelude.{ℕ, List, Option}
use Rattle.bep_frames.specs.declared.frame.Message.{Message}
use Rattle.sync_record.specs.Devices.{Identity}
use Rattle.folder_calls.specs.Shared.{CallerView}
use Rattle.peer_conn.specs.Words.{IsEndedOf}
use Rattle.peer_conn.specs.declared.ends.Ended.{Ended}
use Rattle.peer_conn.specs.declared.ends.Taker.{Taker}
use Rattle.peer_conn.specs.declared.known.SeatName.TheVariants.{Indexer, Server, Requester}
use Rattle.peer_reader.specs.Reading.{ReadsTo}
use Rattle.peer_reader.specs.declared.folder.ReaderFolder.{ReaderFolder}
use Rattle.peer_reader.specs.declared.reading.ReaderEnd.{ReaderEnd}

-- the three seats of the taker's queue, which have ended
abbrev pub AreEnded : Taker Message → Ended Message → Ended Message → Ended Message → Type 0
AreEnded t i s r = IsEndedOf t Indexer i × IsEndedOf t Server s × IsEndedOf t Requester r

module _ {W F : Type 0} (view : W → CallerView) (folder : W → F) where
  -- The peer's bytes were read, up to some of them, and the folders are as the reader of these left them.
  abbrev pub HasReadAll : Identity → Option (List ℕ) → List (ReaderFolder W) → ReaderEnd → List (ReaderFolder W) → Type 0
  HasReadAll peer given olds end news = (left : Option (List ℕ)) × ReadsTo view folder peer given left olds end.why news end.counts
