-- The grammar of frames: which bytes are which frame, and what is wrong where bytes show a fault
-- (Block Exchange Protocol v1, "Pre-authentication Messages" and "Post-authentication Messages").
use Rattle.std.specs.Prelude.{◌≡◌, ◌≢◌, ℕ, ◌<◌, ◌≤◌, Bool, true, false, pos, List, [], ◌∷◌, ◌++◌, length, take, Ok}
use Rattle.std.specs.Int.{w16, w32, from_be_bytes}
use Rattle.bep_messages.specs.declared.hello.Hello.{Hello}
use Rattle.bep_messages.specs.declared.header.Header.{Header}
use Rattle.bep_messages.specs.Protocol.{hello_table, header_table}
use Rattle.bep_messages.specs.Structs.{hello, header}
use Rattle.bep_messages.specs.Values.{decoded}
use Rattle.bep_frames.specs.declared.fault.FrameFault.{FrameFault}
use Rattle.bep_frames.specs.declared.fault.FrameFault.TheVariants.{BadMagic, TooLong, Compressed, BadHeader, BadBody, OutOfMemory}
use Rattle.bep_frames.specs.declared.frame.Frame.{Frame}
use Rattle.bep_frames.specs.declared.frame.Frame.TheVariants.{Hello as HelloFrame, Message as MessageFrame, Unknown}
use Rattle.bep_frames.specs.Carried.{Carries}

-- 0x2EA7D90B
abbrev pub magic : List ℕ
magic = 46 ∷ 167 ∷ 217 ∷ 11 ∷ []

-- the most bytes of a Hello, since its length has 16 bits, and of any other message
abbrev pub max_hello_bytes : ℕ
max_hello_bytes = 65535

abbrev pub max_message_bytes : ℕ
max_message_bytes = 500000000

-- the numbers that two and four bytes are, big-endian
abbrev pub number16 : List ℕ → ℕ
number16 bytes = from_be_bytes w16 bytes

abbrev pub number32 : List ℕ → ℕ
number32 bytes = from_be_bytes w32 bytes

-- some bytes after their length, which has 16 bits
pub record IsSized16 (bytes held : List ℕ) : Type 0 where
  pub size : List ℕ
  pub split : bytes ≡ size ++ held
  pub width : length size ≡ 2
  pub size_is : length held ≡ number16 size

-- the same where the length has 32 bits
pub record IsSized32 (bytes held : List ℕ) : Type 0 where
  pub size : List ℕ
  pub split : bytes ≡ size ++ held
  pub width : length size ≡ 4
  pub size_is : length held ≡ number32 size

-- a Hello: the magic, and the message after its length
pub record IsHello (bytes : List ℕ) (m : Hello) : Type 0 where
  pub sized : List ℕ
  pub body : List ℕ
  pub split : bytes ≡ magic ++ sized
  pub sized_is : IsSized16 sized body
  pub reads : decoded hello_table hello body ≡ Ok m

-- a header after its length, and what follows it
pub record HasHeader (bytes : List ℕ) (h : Header) (after : List ℕ) : Type 0 where
  pub sized : List ℕ
  pub text : List ℕ
  pub split : bytes ≡ sized ++ after
  pub sized_is : IsSized16 sized text
  pub reads : decoded header_table header text ≡ Ok h

-- any later frame: a header that says no compression, and the message after its length
pub record IsLater (bytes : List ℕ) (f : Frame) : Type 0 where
  pub says : Header
  pub sized : List ℕ
  pub body : List ℕ
  pub header : HasHeader bytes says sized
  pub plain : says.compression ≡ pos 0
  pub sized_is : IsSized32 sized body
  pub short : length body ≤ max_message_bytes
  pub carries : Carries says.kind body f

-- a frame, where a Hello is due and where none is
abbrev pub IsFrame : Bool → List ℕ → Frame → Type 0
IsFrame true bytes (HelloFrame m) = IsHello bytes m
IsFrame true bytes (MessageFrame m) = ⊥
IsFrame true bytes (Unknown k) = ⊥
IsFrame false bytes f = IsLater bytes f

-- a frame, and then the rest
pub record Begins (due : Bool) (bytes : List ℕ) (f : Frame) (rest : List ℕ) : Type 0 where
  pub spelling : List ℕ
  pub split : bytes ≡ spelling ++ rest
  pub frame : IsFrame due spelling f

-- ---- faults

-- a whole Hello that can't be read
pub record HasBadHello (bytes : List ℕ) : Type 0 where
  pub sized : List ℕ
  pub body : List ℕ
  pub after : List ℕ
  pub split : bytes ≡ magic ++ (sized ++ after)
  pub sized_is : IsSized16 sized body
  pub bad : (m : Hello) → decoded hello_table hello body ≢ Ok m

-- a whole header that can't be read
pub record HasBadHeader (bytes : List ℕ) : Type 0 where
  pub sized : List ℕ
  pub text : List ℕ
  pub after : List ℕ
  pub split : bytes ≡ sized ++ after
  pub sized_is : IsSized16 sized text
  pub bad : (h : Header) → decoded header_table header text ≢ Ok h

-- a header that says compression, whatever else
pub record IsCompressed (bytes : List ℕ) : Type 0 where
  pub says : Header
  pub after : List ℕ
  pub header : HasHeader bytes says after
  pub compressed : says.compression ≢ pos 0

-- the length of a message that is too long
pub record IsTooLong (bytes : List ℕ) : Type 0 where
  pub says : Header
  pub size : List ℕ
  pub after : List ℕ
  pub header : HasHeader bytes says (size ++ after)
  pub plain : says.compression ≡ pos 0
  pub width : length size ≡ 4
  pub long : max_message_bytes < number32 size

-- a whole message that is nothing under its type
pub record HasBadBody (bytes : List ℕ) : Type 0 where
  pub says : Header
  pub sized : List ℕ
  pub body : List ℕ
  pub after : List ℕ
  pub header : HasHeader bytes says (sized ++ after)
  pub plain : says.compression ≡ pos 0
  pub sized_is : IsSized32 sized body
  pub short : length body ≤ max_message_bytes
  pub bad : (f : Frame) → Carries says.kind body f → ⊥

-- the bytes show this fault, where a Hello is due and where none is
abbrev pub Shows : Bool → List ℕ → FrameFault → Type 0
Shows true bytes BadMagic = (4 ≤ length bytes) × (take 4 bytes ≢ magic)
Shows true bytes TooLong = ⊥
Shows true bytes Compressed = ⊥
Shows true bytes BadHeader = ⊥
Shows true bytes BadBody = HasBadHello bytes
Shows true bytes OutOfMemory = ⊥
Shows false bytes BadMagic = ⊥
Shows false bytes TooLong = IsTooLong bytes
Shows false bytes Compressed = IsCompressed bytes
Shows false bytes BadHeader = HasBadHeader bytes
Shows false bytes BadBody = HasBadBody bytes
Shows false bytes OutOfMemory = ⊥

-- less than a whole frame, and no fault yet
pub record IsPartial (due : Bool) (bytes : List ℕ) : Type 0 where
  pub no_frame : (f : Frame) (rest : List ℕ) → Begins due bytes f rest → ⊥
  pub no_fault : (e : FrameFault) → Shows due bytes e → ⊥
