-- What a journal's bytes are (own rule): a header, and the frames that count.
use Rattle.std.specs.Prelude.{◌≡◌, ◌≢◌, ℕ, List, ◌++◌, drop}
use Rattle.sync_record.specs.Devices.{Identity}
use Rattle.node_journal.specs.declared.header.JournalHeader.{JournalHeader}
use Rattle.node_journal.specs.declared.reading.Journal.{Journal}
use Rattle.node_journal.specs.Format.{HasDigests, header_bytes, header_len}
use Rattle.node_journal.specs.Reading.{Reads}

-- the bytes begin with this header
pub record HasHeader (h : JournalHeader) (bytes : List ℕ) : Type 0 where
  pub digests : HasDigests h
  pub begins : bytes ≡ header_bytes h ++ drop header_len bytes

-- they are this journal of the device
pub record IsJournal (me : Identity) (bytes : List ℕ) (j : Journal) : Type 0 where
  pub header : HasHeader j.header bytes
  pub device : j.header.device ≡ me
  pub frames : Reads (header_bytes j.header) header_len (drop header_len bytes) j.kept

-- they begin with the header of another device
pub record IsOtherDevice (me : Identity) (bytes : List ℕ) : Type 0 where
  pub header : JournalHeader
  pub has : HasHeader header bytes
  pub other : header.device ≢ me
