-- What a writer sends (Block Exchange Protocol v1, "Pre-authentication Messages" and "Post-authentication Messages").
use Rattle.std.specs.Prelude.{◌≡◌, ◌⊎◌, ℕ, ◌<◌, List, [], ◌∷◌, ◌++◌, length, Bool, if◌then◌else◌, Option, Some, None, flat_map}
use Rattle.std.specs.Io.KnownBytes.{Appends}
use Rattle.bep_messages.specs.declared.hello.Hello.{Hello}
use Rattle.bep_frames.specs.declared.frame.Message.{Message}
use Rattle.bep_frames.specs.declared.frame.Message.TheVariants.{Response}
use Rattle.bep_frames.specs.declared.fault.WriteFault.{WriteFault}
use Rattle.bep_frames.specs.declared.fault.WriteFault.TheVariants.{TooLong}
use Rattle.bep_frames.specs.Grammar.{max_hello_bytes, max_message_bytes}
use Rattle.bep_frames.specs.Written.{hello_body, hello_frame, body_of, message_frame}
use Rattle.peer_conn.specs.declared.known.SeatName.TheVariants.{Indexer, Server, Requester}
use Rattle.peer_conn.specs.declared.known.Sent.{Sent}
use Rattle.peer_conn.specs.declared.writer.Filled.{Filled}
use Rattle.peer_conn.specs.declared.writer.Filled.TheVariants.{All, Enough, UpTo}
use Rattle.peer_conn.specs.declared.writer.WriterFault.{WriterFault}
use Rattle.peer_conn.specs.declared.writer.WriterFault.TheVariants.{Frame, Write}
use Rattle.peer_conn.specs.Rule.{of}

-- the frames of messages, one after the other
abbrev pub frames : List (Sent Message) → List ℕ
frames order = flat_map (λ x. message_frame x.message) order

-- from what was taken before to what was taken after: these bytes, and then the frame of each message taken between, were
-- written
pub record HasWritten (before after : List (Sent Message)) (front : List ℕ) (old new : Option (List ℕ)) : Type 0 where
  pub order : List (Sent Message)
  pub taken : after ≡ before ++ order
  pub written : Appends old new (front ++ frames order)

-- the last message taken has no frame, for this fault; the same was written of those before it
pub record StopsAt (before after : List (Sent Message)) (front : List ℕ) (old new : Option (List ℕ)) (why : WriteFault) : Type 0 where
  pub last : Sent Message
  pub sent : List (Sent Message)
  pub taken : after ≡ sent ++ last ∷ []
  pub others : HasWritten before sent front old new
  pub long : why ≡ TooLong → max_message_bytes < length (body_of last.message)

-- why a writer stops; after a failed write nothing is known of what was written
abbrev pub Stops : List (Sent Message) → List (Sent Message) → List ℕ → Option (List ℕ) → Option (List ℕ) → WriterFault → Type 0
Stops before after front old new (Frame why) = StopsAt before after front old new why
Stops before after front old new (Write error) = (order : List (Sent Message)) × (after ≡ before ++ order)

-- the Hello has no frame, for this fault; nothing was taken or written
pub record StopsAtHello (hello : Hello) (before after : List (Sent Message)) (old new : Option (List ℕ)) (why : WriteFault) : Type 0 where
  pub taken : after ≡ before
  pub written : new ≡ old
  pub long : why ≡ TooLong → max_hello_bytes < length (hello_body hello)

-- the same of a writer that begins with a Hello
abbrev pub StopsOrBegins : Hello → List (Sent Message) → List (Sent Message) → Option (List ℕ) → Option (List ℕ) → WriterFault → Type 0
StopsOrBegins hello before after old new (Frame why) = StopsAtHello hello before after old new why ⊎ StopsAt before after (hello_frame hello) old new why
StopsOrBegins hello before after old new (Write error) = (order : List (Sent Message)) × (after ≡ before ++ order)

-- what was taken of each seat is all that it put
pub record IsAll (taken : List (Sent Message)) (indexer server requester : List Message) : Type 0 where
  pub indexer_is : of Indexer taken ≡ indexer
  pub server_is : of Server taken ≡ server
  pub requester_is : of Requester taken ≡ requester

-- the data that the frame of a message ends with (Block Exchange Protocol v1, "Response"), which are a Response's
abbrev pub data_of : Message → List ℕ
data_of (Response m) = m.payload
data_of _ = []

-- the data that a filled buffer ends before
abbrev pub data_if : Bool → Message → List ℕ
data_if is_lent m = if is_lent then data_of m else []

abbrev pub given_of : Option Message → List ℕ
given_of None = []
given_of (Some m) = data_of m

abbrev pub lent_of : Filled → List ℕ
lent_of All = []
lent_of Enough = []
lent_of (UpTo m) = data_of m
