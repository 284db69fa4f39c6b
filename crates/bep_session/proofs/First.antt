-- Which message may be the first.
use Rattle.std.proofs.Common.{◌≡◌, ℕ, Bool, true, false, Some, refl, ap}
use Rattle.std.specs.Prelude.{if◌then◌else◌}
use Rattle.bep_messages.specs.declared.response.Response.{Response}
use Rattle.bep_frames.specs.declared.frame.Frame.{Frame}
use Rattle.bep_frames.specs.declared.frame.Frame.TheVariants.{Hello, Message as MessageFrame, Unknown}
use Rattle.bep_frames.specs.declared.frame.Message.{Message}
use Rattle.bep_frames.specs.declared.frame.Message.TheVariants.{ClusterConfig, Index, IndexUpdate, Request, Response as ResponseMessage, DownloadProgress, Ping, Close}
use Rattle.bep_session.specs.declared.event.Event.TheVariants.{Answered, Ended, UnknownResponse}
use Rattle.bep_session.specs.declared.fault.SessionFault.TheVariants.{NotClusterConfigFirst}
use Rattle.bep_session.specs.declared.conversation.Stage.{Stage}
use Rattle.bep_session.specs.declared.conversation.Stage.TheVariants.{Opening, Running, Over}
use Rattle.bep_session.specs.declared.conversation.Conversation.{Conversation}
use Rattle.bep_session.specs.Events.{Outcome, after_message, may_begin, after_frame, after_frame_at, over, with_event}
use Rattle.bep_session.specs.Ids.{closed, is_open}

abbrev IsFirst : Outcome → Type 0
IsFirst m = m.event ≡ Some (Ended NotClusterConfigFirst)

is_at : (stage : Stage) (moment : ℕ) (t : Conversation) (m : Message) → stage ≡ Opening → may_begin m ≡ false → IsFirst (after_frame_at stage moment t (MessageFrame m))
is_at Opening moment t m e may = ap (λ (b : Bool). (if b then after_message (record t { received = moment }) m else with_event (over (record t { received = moment })) (Ended NotClusterConfigFirst)).event) may
is_at Running moment t m e may = absurd cc
is_at Over moment t m e may = absurd cc

pub is_first : (moment : ℕ) (t : Conversation) (m : Message) → t.stage ≡ Opening → may_begin m ≡ false → (after_frame moment t (MessageFrame m)).event ≡ Some (Ended NotClusterConfigFirst)
unfolding after_frame
is_first moment t m e may = is_at t.stage moment t m e may

answered_never : (b : Bool) (t u : Conversation) (m : Response) → IsFirst (if b then with_event u (Answered m) else with_event t (UnknownResponse m.id)) → ⊥
answered_never true t u m e = cc
answered_never false t u m e = cc

heard_never : (t : Conversation) (m : Message) → IsFirst (after_message t m) → ⊥
heard_never t (ClusterConfig m) e = cc
heard_never t (Index m) e = cc
heard_never t (IndexUpdate m) e = cc
heard_never t (Request m) e = cc
heard_never t (ResponseMessage m) e = answered_never (is_open t.asks m.id) t (record t { asks = closed t.asks m.id }) m e
heard_never t (DownloadProgress m) e = cc
heard_never t (Ping m) e = cc
heard_never t (Close m) e = cc

abbrev Begins : Stage → Frame → Type 0
Begins stage f = (stage ≡ Opening) × ((m : Message) × (f ≡ MessageFrame m) × (may_begin m ≡ false))

opening_only : (b : Bool) (t : Conversation) (m : Message) → may_begin m ≡ b → IsFirst (if b then after_message t m else with_event (over t) (Ended NotClusterConfigFirst)) → Begins Opening (MessageFrame m)
opening_only true t m may e = absurd (heard_never t m e)
opening_only false t m may e = (refl, (m, refl, may))

only_at : (stage : Stage) (moment : ℕ) (t : Conversation) (f : Frame) → IsFirst (after_frame_at stage moment t f) → Begins stage f
only_at Opening moment t (Hello m) e = absurd cc
only_at Opening moment t (MessageFrame m) e = opening_only (may_begin m) (record t { received = moment }) m refl e
only_at Opening moment t (Unknown kind) e = absurd cc
only_at Running moment t (Hello m) e = absurd cc
only_at Running moment t (MessageFrame m) e = absurd (heard_never (record t { received = moment }) m e)
only_at Running moment t (Unknown kind) e = absurd cc
only_at Over moment t f e = absurd cc

pub only_first : (moment : ℕ) (t : Conversation) (f : Frame) → (after_frame moment t f).event ≡ Some (Ended NotClusterConfigFirst) → (t.stage ≡ Opening) × ((m : Message) × (f ≡ MessageFrame m) × (may_begin m ≡ false))
unfolding after_frame
only_first moment t f e = only_at t.stage moment t f e
