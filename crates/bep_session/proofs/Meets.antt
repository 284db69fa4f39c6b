-- What a frame and a Response mean, by cases.
use Rattle.std.proofs.Common.{◌≡◌, ◌≢◌, ℕ, ℤ, Bool, true, false, List, refl, sym, ap, ◌∙◌}
use Rattle.std.specs.Prelude.{if◌then◌else◌}
use Rattle.bep_messages.specs.declared.response.Response.{Response}
use Rattle.bep_messages.specs.declared.ping.Ping.{Ping}
use Rattle.bep_frames.specs.declared.frame.Frame.{Frame}
use Rattle.bep_frames.specs.declared.frame.Frame.TheVariants.{Message as MessageFrame}
use Rattle.bep_frames.specs.declared.frame.Message.TheVariants.{Ping as PingMessage}
use Rattle.bep_session.specs.declared.event.Event.TheVariants.{Answered, UnknownResponse}
use Rattle.bep_session.specs.declared.conversation.Stage.{Stage}
use Rattle.bep_session.specs.declared.conversation.Stage.TheVariants.{Opening, Running, Over}
use Rattle.bep_session.specs.declared.conversation.Conversation.{Conversation}
use Rattle.bep_session.specs.Events.{Outcome, after_response, after_live_frame, after_frame, after_frame_at, without_event, with_event}
use Rattle.bep_session.specs.Ids.{closed, is_open}

pub answered_open : (t : Conversation) (m : Response) (asks : List ℤ) → is_open t.asks m.id ≡ true → asks ≡ closed t.asks m.id → with_event (record t { asks = asks }) (Answered m) ≡ after_response t m
answered_open t m asks is e =
    ap (λ (ids : List ℤ). with_event (record t { asks = ids }) (Answered m)) e
    ∙ sym (ap (λ (b : Bool). if b then with_event (record t { asks = closed t.asks m.id }) (Answered m) else with_event t (UnknownResponse m.id)) is)

pub answered_unknown : (t : Conversation) (m : Response) (asks : List ℤ) (id : ℤ) → is_open t.asks m.id ≡ false → asks ≡ t.asks → id ≡ m.id → with_event (record t { asks = asks }) (UnknownResponse id) ≡ after_response t m
answered_unknown t m asks id is e same =
    ap (λ (ids : List ℤ). with_event (record t { asks = ids }) (UnknownResponse id)) e
    ∙ ap (λ (i : ℤ). with_event t (UnknownResponse i)) same
    ∙ sym (ap (λ (b : Bool). if b then with_event (record t { asks = closed t.asks m.id }) (Answered m) else with_event t (UnknownResponse m.id)) is)

live_at : (stage : Stage) (moment : ℕ) (t : Conversation) (f : Frame) (m : Outcome) → stage ≢ Over → m ≡ after_live_frame stage (record t { received = moment }) f → m ≡ after_frame_at stage moment t f
live_at Opening moment t f m ne e = e
live_at Running moment t f m ne e = e
live_at Over moment t f m ne e = absurd (ne refl)

pub met_live : (moment : ℕ) (t : Conversation) (f : Frame) (m : Outcome) → t.stage ≢ Over → m ≡ after_live_frame t.stage (record t { received = moment }) f → m ≡ after_frame moment t f
unfolding after_frame
met_live moment t f m ne e = live_at t.stage moment t f m ne e

over_at : (stage : Stage) (moment : ℕ) (t : Conversation) (f : Frame) → stage ≡ Over → after_frame_at stage moment t f ≡ without_event t
over_at Opening moment t f e = absurd cc
over_at Running moment t f e = absurd cc
over_at Over moment t f e = refl

pub met_over : (moment : ℕ) (t : Conversation) (f : Frame) → t.stage ≡ Over → after_frame moment t f ≡ without_event t
unfolding after_frame
met_over moment t f e = over_at t.stage moment t f e

ping_at : (stage : Stage) (moment : ℕ) (t : Conversation) (m : Ping) → stage ≡ Running → without_event (record t { received = moment }) ≡ after_frame_at stage moment t (MessageFrame (PingMessage m))
ping_at Opening moment t m e = absurd cc
ping_at Running moment t m e = refl
ping_at Over moment t m e = absurd cc

pub met_ping : (moment : ℕ) (t : Conversation) (f : Frame) (m : Ping) → t.stage ≡ Running → f ≡ MessageFrame (PingMessage m) → without_event (record t { received = moment }) ≡ after_frame moment t f
unfolding after_frame
met_ping moment t f m running is = ping_at t.stage moment t m running ∙ sym (ap (after_frame_at t.stage moment t) is)
