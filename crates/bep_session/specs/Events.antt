-- What the messages of a connection mean (Block Exchange Protocol v1, "Post-authentication Messages"; which may come first, and which
-- Responses answer a Request: own rule).
use Rattle.std.specs.Prelude.{ℕ, List, [], ◌∷◌, ◌++◌, Bool, true, false, Option, Some, None, Result, Ok, Err, if◌then◌else◌}
use Rattle.std.specs.Option.{option_to_list}
use Rattle.bep_messages.specs.declared.response.Response.{Response}
use Rattle.bep_frames.specs.declared.fault.FrameFault.{FrameFault}
use Rattle.bep_frames.specs.declared.frame.Frame.{Frame}
use Rattle.bep_frames.specs.declared.frame.Frame.TheVariants.{Hello, Message as MessageFrame, Unknown}
use Rattle.bep_frames.specs.declared.frame.Message.{Message}
use Rattle.bep_frames.specs.declared.frame.Message.TheVariants.{ClusterConfig, Index, IndexUpdate, Request, Response as ResponseMessage, DownloadProgress, Ping, Close}
use Rattle.bep_frames.specs.Stream.{Stream}
use Rattle.bep_session.specs.declared.event.Event.{Event}
use Rattle.bep_session.specs.declared.event.Event.TheVariants.{PeerHello, PeerConfig, Full, More, Asked, Answered, UnknownResponse, Skipped, PeerClosed, Ended}
use Rattle.bep_session.specs.declared.fault.SessionFault.{SessionFault}
use Rattle.bep_session.specs.declared.fault.SessionFault.TheVariants.{NotClusterConfigFirst}
use Rattle.bep_session.specs.declared.conversation.Stage.{Stage}
use Rattle.bep_session.specs.declared.conversation.Stage.TheVariants.{Opening, Running, Over}
use Rattle.bep_session.specs.declared.conversation.Conversation.{Conversation}
use Rattle.bep_session.specs.Faults.{session_fault}
use Rattle.bep_session.specs.Ids.{closed, is_open}

-- what a frame leaves behind, and the event that it is
pub record Outcome : Type 0 where
  pub conversation : Conversation
  pub event : Option Event

abbrev pub without_event : Conversation → Outcome
without_event t = record { conversation = t; event = None }

abbrev pub with_event : Conversation → Event → Outcome
with_event t e = record { conversation = t; event = Some e }

-- after the end nothing is read
abbrev pub over : Conversation → Conversation
over t = record t { stage = Over }

-- a Response: its id is free again, if it was open
abbrev pub after_response : Conversation → Response → Outcome
after_response t m = if is_open t.asks m.id
    then with_event (record t { asks = closed t.asks m.id }) (Answered m)
    else with_event t (UnknownResponse m.id)

-- a message that may come
abbrev pub after_message : Conversation → Message → Outcome
after_message t (ClusterConfig m) = with_event (record t { stage = Running }) (PeerConfig m)
after_message t (Index m) = with_event t (Full m)
after_message t (IndexUpdate m) = with_event t (More m)
after_message t (Request m) = with_event t (Asked m)
after_message t (ResponseMessage m) = after_response t m
after_message t (DownloadProgress m) = without_event t
after_message t (Ping m) = without_event t
after_message t (Close m) = with_event (over t) (PeerClosed m.reason)

-- the messages that may come first
abbrev pub may_begin : Message → Bool
may_begin (ClusterConfig m) = true
may_begin (Index m) = false
may_begin (IndexUpdate m) = false
may_begin (Request m) = false
may_begin (ResponseMessage m) = false
may_begin (DownloadProgress m) = false
may_begin (Ping m) = false
may_begin (Close m) = true

-- a message, where a ClusterConfig is due and where one came
abbrev pub after_message_at : Stage → Conversation → Message → Outcome
after_message_at Opening t m = if may_begin m then after_message t m else with_event (over t) (Ended NotClusterConfigFirst)
after_message_at Running t m = after_message t m
after_message_at Over t m = without_event t

-- a frame
abbrev pub after_live_frame : Stage → Conversation → Frame → Outcome
after_live_frame stage t (Hello m) = with_event t (PeerHello m)
after_live_frame stage t (MessageFrame m) = after_message_at stage t m
after_live_frame stage t (Unknown kind) = with_event t (Skipped kind)

-- a frame that is received at a moment; after the end nothing is read
abbrev pub after_frame_at : Stage → ℕ → Conversation → Frame → Outcome
after_frame_at Opening moment t f = after_live_frame Opening (record t { received = moment }) f
after_frame_at Running moment t f = after_live_frame Running (record t { received = moment }) f
after_frame_at Over moment t f = without_event t

unfoldable pub after_frame : ℕ → Conversation → Frame → Outcome
after_frame moment t f = after_frame_at t.stage moment t f

-- ---- streams

-- what frames, or a whole stream, leave behind, and their events in order
pub record Outcomes : Type 0 where
  pub conversation : Conversation
  pub events : List Event

abbrev pub then_outcomes : Outcome → Outcomes → Outcomes
then_outcomes first later = record { conversation = later.conversation; events = option_to_list first.event ++ later.events }

unfoldable pub after_frames : ℕ → Conversation → List Frame → Outcomes
after_frames moment t [] = record { conversation = t; events = [] }
after_frames moment t (f ∷ frames) = then_outcomes (after_frame moment t f) (after_frames moment (after_frame moment t f).conversation frames)

-- the event of a fault
abbrev pub fault_events : Option SessionFault → List Event
fault_events None = []
fault_events (Some fault) = Ended fault ∷ []

-- the end of a stream that has not been closed: a rest means nothing yet, a fault is the last event
abbrev pub after_end : Outcomes → Result (List ℕ) FrameFault → Outcomes
after_end outcomes (Ok rest) = outcomes
after_end outcomes (Err e) = record { conversation = over outcomes.conversation; events = outcomes.events ++ fault_events (session_fault e) }

abbrev pub after_end_at : Stage → Outcomes → Result (List ℕ) FrameFault → Outcomes
after_end_at Opening outcomes end = after_end outcomes end
after_end_at Running outcomes end = after_end outcomes end
after_end_at Over outcomes end = outcomes

unfoldable pub after_stream : ℕ → Conversation → Stream → Outcomes
after_stream moment t s =
    let outcomes = after_frames moment t s.frames in
    after_end_at outcomes.conversation.stage outcomes s.end
