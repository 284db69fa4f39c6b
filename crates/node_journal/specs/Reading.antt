-- What is read of a journal (own rule): the longest run of frames that ends with a whole one.
use Rattle.std.specs.Prelude.{◌≡◌, ℕ, ◌+◌, ◌<◌, ◌≤◌, ◌==◌, nat_lt, List, [], ◌∷◌, length, take, drop, bytes_eq, Result, Ok, Err, if◌then◌else◌}
use Rattle.std.specs.Int.{w32, from_be_bytes}
use Rattle.bep_messages.specs.declared.fault.MessageFault.{MessageFault}
use Rattle.bep_messages.specs.Values.{decoded}
use Rattle.node_journal.specs.declared.found.Found.{Found}
use Rattle.node_journal.specs.declared.found.Found.TheVariants.{Cut, NoFrame, Framed}
use Rattle.node_journal.specs.declared.frame.Frame.{Frame}
use Rattle.node_journal.specs.declared.kept.JournalEnd.{JournalEnd}
use Rattle.node_journal.specs.declared.kept.JournalEnd.TheVariants.{Whole, Torn, Broken}
use Rattle.node_journal.specs.declared.kept.KeptFrames.{KeptFrames}
use Rattle.node_journal.specs.Format.{checksum}
use Rattle.node_journal.specs.Messages.{frame_of}
use Rattle.node_journal.specs.Tables.{frame_table}

-- ---- what stands at an offset

-- the length and the checksum before a body
abbrev pub front_len : ℕ
front_len = 12

-- the number that four bytes are, big-endian
abbrev pub number32 : List ℕ → ℕ
number32 bytes = from_be_bytes w32 bytes

-- a frame with a body of so many bytes, if the body is a frame's
abbrev pub framed : ℕ → Result Frame MessageFault → Found
framed n (Ok f) = Framed f (front_len + n)
framed n (Err e) = NoFrame

unfoldable pub body_at : List ℕ → Found
body_at body = framed (length body) (decoded frame_table frame_of body)

-- No frame where the length is 0 or the checksum is that of other bytes; less than a frame where the body is shorter.
unfoldable pub sized_at : List ℕ → ℕ → ℕ → List ℕ → List ℕ → Found
sized_at header offset len sum after =
    if len == 0 then NoFrame
    else if nat_lt (length after) len then Cut
    else if bytes_eq (checksum header offset (take len after)) sum then body_at (take len after) else NoFrame

unfoldable pub frame_at : List ℕ → ℕ → List ℕ → Found
frame_at header offset bytes =
    if nat_lt (length bytes) front_len then Cut
    else sized_at header offset (number32 (take 4 bytes)) (take 8 (drop 4 bytes)) (drop 8 (drop 4 bytes))

-- a frame has a byte at least, and no more than are there
abbrev pub IsWithin : ℕ → Found → Type 0
IsWithin len Cut = Unit {0}
IsWithin len NoFrame = Unit {0}
IsWithin len (Framed f size) = (0 < size) × (size ≤ len)

-- ---- which frames count

-- less than a frame is left
abbrev pub end_of : List ℕ → JournalEnd
end_of [] = Whole
end_of (b ∷ bytes) = Torn

-- frames stand before the end that don't count
abbrev pub torn : JournalEnd → JournalEnd
torn Whole = Torn
torn Torn = Torn
torn Broken = Broken

-- no frame counts from the offset on
abbrev pub nothing : ℕ → JournalEnd → KeptFrames
nothing offset end = record { frames = []; len = offset; end = end }

-- A frame before others, at this offset and of this size: it counts if it is whole, or if one of the others counts.
abbrev pub counted : Frame → ℕ → ℕ → KeptFrames → List Frame → KeptFrames
counted f offset size k [] =
    if f.is_whole then record { frames = f ∷ []; len = offset + size; end = k.end } else nothing offset (torn k.end)
counted f offset size k (g ∷ gs) = record { frames = f ∷ g ∷ gs; len = k.len; end = k.end }

abbrev pub with_first : Frame → ℕ → ℕ → KeptFrames → KeptFrames
with_first f offset size k = counted f offset size k k.frames

-- This is read of these bytes of a journal, which stand there from the offset on.
pub data Reads (header : List ℕ) : ℕ → List ℕ → KeptFrames → Type 0 where
  Ends : (offset : ℕ) (bytes : List ℕ) → frame_at header offset bytes ≡ Cut → Reads header offset bytes (nothing offset (end_of bytes))
  Breaks : (offset : ℕ) (bytes : List ℕ) → frame_at header offset bytes ≡ NoFrame → Reads header offset bytes (nothing offset Broken)
  Goes : (offset : ℕ) (bytes : List ℕ) (f : Frame) (size : ℕ) (k : KeptFrames) → frame_at header offset bytes ≡ Framed f size →
      Reads header (offset + size) (drop size bytes) k → Reads header offset bytes (with_first f offset size k)
