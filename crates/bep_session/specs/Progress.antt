-- How far the frames of a piece were received (own rule).
use Rattle.std.specs.Prelude.{◌≡◌, ◌≢◌, ℕ, Bool, List, [], ◌++◌, None, Ok}
use Rattle.bep_frames.specs.declared.frame.Frame.{Frame}
use Rattle.bep_frames.specs.State.{State, fed, remaining}
use Rattle.bep_frames.specs.Stream.{Stream, ended}
use Rattle.bep_session.specs.declared.event.Event.{Event}
use Rattle.bep_session.specs.declared.conversation.Stage.TheVariants.{Over}
use Rattle.bep_session.specs.declared.conversation.Conversation.{Conversation}
use Rattle.bep_session.specs.Events.{after_frames, over, after_stream}
use Rattle.bep_session.specs.Sessions.{Leaves, NeedsMemory, still_due}

-- a reader has given all frames, and shows no fault
pub record IsDrained (reader : State) : Type 0 where
  pub fault : reader.fault ≡ None
  pub nothing : remaining (fed reader []) ≡ ended (Ok reader.rest)

-- where the session goes on, its reader has given the whole stream
pub record GoesOn (due : Bool) (s : Stream) (reader : State) : Type 0 where
  pub drained : IsDrained reader
  pub end : s.end ≡ Ok reader.rest
  pub due_is : reader.hello ≡ still_due due s.frames

-- all frames of a stream were received
pub record IsRead (moment : ℕ) (due : Bool) (s : Stream) (t u : Conversation) (before after : List Event) (reader : State) : Type 0 where
  pub conversation : u ≡ (after_stream moment t s).conversation
  pub events : after ≡ before ++ (after_stream moment t s).events
  pub goes_on : u.stage ≢ Over → GoesOn due s reader

-- some of the first frames of these bytes were received, and then memory was out
pub record IsCutShort (moment : ℕ) (due : Bool) (bytes : List ℕ) (t u : Conversation) : Type 0 where
  pub frames : List Frame
  pub left : List ℕ
  pub leaves : Leaves due bytes frames left
  pub needs : NeedsMemory due moment t frames left
  pub conversation : over u ≡ over (after_frames moment t frames).conversation
