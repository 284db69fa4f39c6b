-- What is first in some bytes, as functions that compute. That they find what the grammar says, and nothing
-- else, is the law `one_reading`.
use Rattle.std.specs.Prelude.{ℕ, ◌==◌, Bool, true, false, ℤ, pos, negsuc, List, length, take, drop, nat_eq, nat_lt, nat_le, Result, Ok, Err, if◌then◌else◌}
use Rattle.std.specs.List.{starts_with}
use Rattle.bep_messages.specs.declared.fault.MessageFault.{MessageFault}
use Rattle.bep_messages.specs.declared.hello.Hello.{Hello}
use Rattle.bep_messages.specs.declared.header.Header.{Header}
use Rattle.bep_messages.specs.Protocol.{hello_table, header_table}
use Rattle.bep_messages.specs.Structs.{hello, header}
use Rattle.bep_messages.specs.Values.{decoded}
use Rattle.bep_frames.specs.declared.fault.FrameFault.{FrameFault}
use Rattle.bep_frames.specs.declared.fault.FrameFault.TheVariants.{BadMagic, TooLong, Compressed, BadHeader, BadBody}
use Rattle.bep_frames.specs.declared.frame.Frame.{Frame}
use Rattle.bep_frames.specs.declared.frame.Frame.TheVariants.{Hello as HelloFrame}
use Rattle.bep_frames.specs.Carried.{carried}
use Rattle.bep_frames.specs.Grammar.{magic, max_message_bytes, number16, number32}

-- bytes are missing; a whole frame, and the rest; a fault
pub data Step : Type 0 where
  More : Step
  Whole : (frame : Frame) (rest : List ℕ) → Step
  Broken : (fault : FrameFault) → Step

-- so many bytes, and those after them, once they are there
unfoldable pub piece_at : ℕ → List ℕ → (List ℕ → List ℕ → Step) → Step
piece_at n bytes next = if nat_lt (length bytes) n then More else next (take n bytes) (drop n bytes)

-- the bytes after their length of 16 bits, and those after them, once they are there
unfoldable pub sized16_at : List ℕ → (List ℕ → List ℕ → Step) → Step
sized16_at bytes next = piece_at 2 bytes (λ size after. piece_at (number16 size) after next)

-- ---- a Hello

abbrev pub hello_found : List ℕ → Result Hello MessageFault → Step
hello_found rest (Ok m) = Whole (HelloFrame m) rest
hello_found rest (Err f) = Broken BadBody

unfoldable pub hello_read : List ℕ → List ℕ → Step
hello_read body rest = hello_found rest (decoded hello_table hello body)

unfoldable pub hello_sized : List ℕ → Step
hello_sized bytes = sized16_at bytes hello_read

unfoldable pub hello_front : List ℕ → List ℕ → Step
hello_front front bytes = if starts_with nat_eq front magic then hello_sized bytes else Broken BadMagic

unfoldable pub hello_at : List ℕ → Step
hello_at bytes = piece_at 4 bytes hello_front

-- ---- a later frame

abbrev pub message_found : List ℕ → Result Frame FrameFault → Step
message_found rest (Ok f) = Whole f rest
message_found rest (Err e) = Broken e

unfoldable pub message_read : ℤ → List ℕ → List ℕ → Step
message_read kind body rest = message_found rest (carried kind body)

unfoldable pub message_sized : ℤ → List ℕ → List ℕ → Step
message_sized kind size bytes =
    if nat_le (number32 size) max_message_bytes then piece_at (number32 size) bytes (message_read kind) else Broken TooLong

unfoldable pub message_at : ℤ → List ℕ → Step
message_at kind bytes = piece_at 4 bytes (message_sized kind)

abbrev pub is_zero : ℤ → Bool
is_zero (pos n) = n == 0
is_zero (negsuc n) = false

abbrev pub header_found : List ℕ → Result Header MessageFault → Step
header_found rest (Ok h) = if is_zero h.compression then message_at h.kind rest else Broken Compressed
header_found rest (Err f) = Broken BadHeader

unfoldable pub header_read : List ℕ → List ℕ → Step
header_read text rest = header_found rest (decoded header_table header text)

unfoldable pub later_at : List ℕ → Step
later_at bytes = sized16_at bytes header_read

-- ---- the frame that is first, where a Hello is due and where none is

abbrev pub frame_at : Bool → List ℕ → Step
frame_at true bytes = hello_at bytes
frame_at false bytes = later_at bytes
