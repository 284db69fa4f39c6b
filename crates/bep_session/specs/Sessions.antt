-- What a session is, and what its calls do to it (own rule).
use Rattle.std.specs.Prelude.{◌≡◌, ◌≢◌, ◌⊎◌, ℕ, ℤ, List, [], ◌∷◌, ◌++◌, Bool, true, false, None, Result, Ok, Err}
use Rattle.bep_frames.specs.declared.fault.FrameFault.{FrameFault}
use Rattle.bep_frames.specs.declared.frame.Frame.{Frame}
use Rattle.bep_frames.specs.Grammar.{Begins, Shows}
use Rattle.bep_frames.specs.Memory.{FrameTakesMemory}
use Rattle.bep_frames.specs.Stream.{Stream, stream}
use Rattle.bep_session.specs.declared.event.Event.{Event}
use Rattle.bep_session.specs.declared.conversation.Stage.{Stage}
use Rattle.bep_session.specs.declared.conversation.Stage.TheVariants.{Opening, Running, Over}
use Rattle.bep_session.specs.declared.conversation.Conversation.{Conversation}
use Rattle.bep_session.specs.Events.{after_frames, after_frame, over, after_stream}
use Rattle.bep_session.specs.Ids.{opened}

-- whether the Hello is due, the bytes after the last whole frame, and what the frames so far left behind
pub record View : Type 0 where
  pub hello : Bool
  pub rest : List ℕ
  pub conversation : Conversation

-- nothing was fed, said or asked yet
abbrev pub begun : ℕ → View
begun moment = record { hello = true; rest = []; conversation = record { stage = Opening; asks = []; said = moment; received = moment } }

-- one that has ended keeps no bytes
abbrev pub ended_view : Conversation → View
ended_view t = record { hello = false; rest = []; conversation = t }

abbrev pub still_due : Bool → List Frame → Bool
still_due due [] = due
still_due due (f ∷ frames) = false

abbrev pub rest_of : Result (List ℕ) FrameFault → List ℕ
rest_of (Ok rest) = rest
rest_of (Err e) = []

abbrev pub left_at : Stage → Bool → Stream → Conversation → View
left_at Opening due s t = record { hello = still_due due s.frames; rest = rest_of s.end; conversation = t }
left_at Running due s t = record { hello = still_due due s.frames; rest = rest_of s.end; conversation = t }
left_at Over due s t = ended_view t

-- a session after a piece came, and the events that came of it
pub record Fed : Type 0 where
  pub session : View
  pub events : List Event

-- the frames of a stream, where the Hello is due or not
unfoldable pub fed_stream : Bool → Conversation → Stream → ℕ → Fed
fed_stream due t s moment =
    let outcomes = after_stream moment t s in
    record { session = left_at outcomes.conversation.stage due s outcomes.conversation; events = outcomes.events }

abbrev pub fed_at : Stage → View → List ℕ → ℕ → Fed
fed_at Opening v piece moment = fed_stream v.hello v.conversation (stream v.hello (v.rest ++ piece)) moment
fed_at Running v piece moment = fed_stream v.hello v.conversation (stream v.hello (v.rest ++ piece)) moment
fed_at Over v piece moment = record { session = v; events = [] }

unfoldable pub fed : View → List ℕ → ℕ → Fed
fed v piece moment = fed_at v.conversation.stage v piece moment

-- ---- out of memory

-- the bytes are the spellings of these frames, and then what is left
abbrev pub Leaves : Bool → List ℕ → List Frame → List ℕ → Type 0
Leaves due bytes [] left = bytes ≡ left
Leaves due bytes (f ∷ frames) left = (next : List ℕ) × Begins due bytes f next × Leaves false next frames left

-- the last of these frames has an event
pub record EndsWithEvent (moment : ℕ) (t : Conversation) (frames : List Frame) : Type 0 where
  pub before : List Frame
  pub last : Frame
  pub split : frames ≡ before ++ last ∷ []
  pub event : (after_frame moment (after_frames moment t before).conversation last).event ≢ None

-- the session goes on after these frames, and what is left begins with a frame that takes memory, or shows a fault
pub record GoesOnTo (due : Bool) (moment : ℕ) (t : Conversation) (frames : List Frame) (left : List ℕ) : Type 0 where
  pub live : (after_frames moment t frames).conversation.stage ≢ Over
  pub next : FrameTakesMemory (still_due due frames) left ⊎ ((e : FrameFault) × Shows (still_due due frames) left e)

-- What takes memory after these frames: keeping the piece, before the first; the event of the last of them; the frame that is
-- next; or the event of a fault.
abbrev pub NeedsMemory : Bool → ℕ → Conversation → List Frame → List ℕ → Type 0
NeedsMemory due moment t frames left = (frames ≡ []) ⊎ EndsWithEvent moment t frames ⊎ GoesOnTo due moment t frames left

-- Memory was out in a piece: some of its first frames were received, then memory was needed, and the session has ended.
pub record RunsOutOfMemory (old : View) (piece : List ℕ) (moment : ℕ) (new : View) : Type 0 where
  pub frames : List Frame
  pub left : List ℕ
  pub leaves : Leaves old.hello (old.rest ++ piece) frames left
  pub needs : NeedsMemory old.hello moment old.conversation frames left
  pub session : new ≡ ended_view (over (after_frames moment old.conversation frames).conversation)

-- after a message was said; after an id was opened
abbrev pub said_at : View → ℕ → View
said_at v moment = record v { conversation = record v.conversation { said = moment } }

abbrev pub with_open : View → ℤ → View
with_open v id = record v { conversation = record v.conversation { asks = opened v.conversation.asks id } }
