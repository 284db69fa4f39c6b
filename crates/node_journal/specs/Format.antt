-- The bytes of a journal (own rule): a header, and frames one after another.
use Rattle.std.specs.Prelude.{◌≡◌, ◌≢◌, ℕ, ◌+◌, ◌<◌, ◌^◌, List, [], ◌∷◌, ◌++◌, length, take, codes, Ok}
use Rattle.std.specs.Int.{w32, w64, to_be_bytes}
use Rattle.sha2.specs.Sha256.{sha256}
use Rattle.bep_messages.specs.Forms.{form}
use Rattle.bep_messages.specs.Values.{decoded}
use Rattle.node_journal.specs.declared.frame.Frame.{Frame}
use Rattle.node_journal.specs.declared.header.JournalHeader.{JournalHeader}
use Rattle.node_journal.specs.Messages.{frame_of, frame_parts}
use Rattle.node_journal.specs.Tables.{frame_table}

-- ---- the header

-- the first line, with its line feed
abbrev pub first_line : List ℕ
first_line = codes "bepd journal 1" ++ 10 ∷ []

-- the device and the state's digest, of 32 bytes each
abbrev pub header_bytes : JournalHeader → List ℕ
header_bytes h = first_line ++ h.device ++ h.state_digest

abbrev pub header_len : ℕ
header_len = 79

-- both have their 32 bytes
pub record HasDigests (h : JournalHeader) : Type 0 where
  pub device : length h.device ≡ 32
  pub state_digest : length h.state_digest ≡ 32

-- ---- a frame

-- the first 8 bytes of the SHA-256 digest of the header, the offset in 8 bytes, big-endian, and the body
unfoldable pub checksum : List ℕ → ℕ → List ℕ → List ℕ
checksum header offset body = take 8 (sha256 (header ++ to_be_bytes w64 offset ++ body))

-- a body after its length in 4 bytes, big-endian, and its checksum
abbrev pub body_bytes : List ℕ → ℕ → List ℕ → List ℕ
body_bytes header offset body = to_be_bytes w32 (length body) ++ (checksum header offset body ++ body)

-- the message of a frame
abbrev pub frame_body : Frame → List ℕ
frame_body f = form frame_table (frame_parts f)

-- a frame at an offset of the journal that has these bytes as header
abbrev pub frame_bytes : List ℕ → ℕ → Frame → List ℕ
frame_bytes header offset f = body_bytes header offset (frame_body f)

-- its message has a byte, and less than 2^32, and is read as the frame
pub record IsWritable (f : Frame) : Type 0 where
  pub some : frame_body f ≢ []
  pub fits : length (frame_body f) < 2 ^ 32
  pub again : decoded frame_table frame_of (frame_body f) ≡ Ok f

-- ---- a journal

-- frames from an offset on, one after another
abbrev pub frames_bytes : List ℕ → ℕ → List Frame → List ℕ
frames_bytes header offset [] = []
frames_bytes header offset (f ∷ fs) = frame_bytes header offset f ++ frames_bytes header (offset + length (frame_bytes header offset f)) fs

abbrev pub journal_bytes : JournalHeader → List Frame → List ℕ
journal_bytes h fs = header_bytes h ++ frames_bytes (header_bytes h) header_len fs
