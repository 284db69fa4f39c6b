-- What events come to does not depend on which ids were open, nor on when they came.
use Rattle.std.proofs.Common.{◌≡◌, ◌++◌, ◌∷◌, [], ℕ, ℤ, cond, List, Bool, true, false, Result, Ok, Err, refl, sym, ◌∙◌, ap, subst, append_assoc, append-nil}
use Rattle.std.specs.Option.{option_to_list}
use Rattle.bep_frames.specs.declared.fault.FrameFault.{FrameFault}
use Rattle.bep_frames.specs.declared.frame.Frame.{Frame}
use Rattle.bep_frames.specs.declared.frame.Frame.TheVariants.{Hello, Message as MessageFrame, Unknown}
use Rattle.bep_frames.specs.declared.frame.Message.{Message}
use Rattle.bep_frames.specs.declared.frame.Message.TheVariants as message
use Rattle.bep_frames.specs.Stream.{Stream, stream, stream_within}
use Rattle.bep_messages.specs.declared.response.Response.{Response}
use Rattle.bep_session.specs.declared.conversation.Conversation.{Conversation}
use Rattle.bep_session.specs.declared.conversation.Stage.{Stage}
use Rattle.bep_session.specs.declared.conversation.Stage.TheVariants.{Opening, Running, Over}
use Rattle.bep_session.specs.declared.event.Event.{Event}
use Rattle.bep_session.specs.declared.event.Event.TheVariants.{PeerHello, PeerConfig, Full, More, Asked, Answered, UnknownResponse, Skipped, PeerClosed, Ended}
use Rattle.bep_session.specs.Events.{Outcome, Outcomes, with_event, after_end_at, after_frame, after_frame_at, after_frames, after_message, after_message_at, after_stream, fault_events}
use Rattle.bep_session.specs.Faults.{session_fault}
use Rattle.bep_session.specs.Ids.{closed, is_open}
use Rattle.bep_session.specs.Runs.{Act, Feeds, Opens, Says, Ticks, acted, run}
use Rattle.bep_session.specs.Sessions.{Fed, View, begun, fed, fed_at, fed_stream, left_at}
use Rattle.peer_reader.specs.Effects.{Effect, Heard, after_event}
use Rattle.peer_reader.specs.Reading.{after_events, fed_of, then_effect}
use Rattle.peer_reader.specs.Streams.{stream_events}
use Rattle.sync_record.specs.Devices.{Identity}

-- ---- the events that mean something to the folders

-- a Response means nothing to them, whether its id was open or not
abbrev pub bare : Event → Event
bare (PeerHello m) = PeerHello m
bare (PeerConfig m) = PeerConfig m
bare (Full m) = Full m
bare (More m) = More m
bare (Asked m) = Asked m
bare (Answered m) = UnknownResponse m.id
bare (UnknownResponse id) = UnknownResponse id
bare (Skipped kind) = Skipped kind
bare (PeerClosed reason) = PeerClosed reason
bare (Ended fault) = Ended fault

abbrev pub bare_all : List Event → List Event
bare_all [] = []
bare_all (e ∷ es) = bare e ∷ bare_all es

bare_all-append : (xs ys : List Event) → bare_all (xs ++ ys) ≡ bare_all xs ++ bare_all ys
bare_all-append [] ys = refl
bare_all-append (x ∷ xs) ys = ap (λ l. bare x ∷ l) (bare_all-append xs ys)

-- ---- frames of two conversations that have come as far

abbrev IsAs : Outcome → Outcome → Type 0
IsAs a b = (a.conversation.stage ≡ b.conversation.stage) × (bare_all (option_to_list a.event) ≡ bare_all (option_to_list b.event))

abbrev AreAs : Outcomes → Outcomes → Type 0
AreAs a b = (a.conversation.stage ≡ b.conversation.stage) × (bare_all a.events ≡ bare_all b.events)

-- a Response, whichever ids are open
response_as : (b c : Bool) (t u : Conversation) (asks asks' : List ℤ) (m : Response) → t.stage ≡ u.stage
    → IsAs (cond b (with_event (record t { asks = asks }) (Answered m)) (with_event t (UnknownResponse m.id)))
    (cond c (with_event (record u { asks = asks' }) (Answered m)) (with_event u (UnknownResponse m.id)))
response_as true true t u asks asks' m e = (e, refl)
response_as true false t u asks asks' m e = (e, refl)
response_as false true t u asks asks' m e = (e, refl)
response_as false false t u asks asks' m e = (e, refl)

message_as : (t u : Conversation) (m : Message) → t.stage ≡ u.stage → IsAs (after_message t m) (after_message u m)
message_as t u (message.ClusterConfig m) e = (refl, refl)
message_as t u (message.Index m) e = (e, refl)
message_as t u (message.IndexUpdate m) e = (e, refl)
message_as t u (message.Request m) e = (e, refl)
message_as t u (message.Response m) e = response_as (is_open t.asks m.id) (is_open u.asks m.id) t u (closed t.asks m.id) (closed u.asks m.id) m e
message_as t u (message.DownloadProgress m) e = (e, refl)
message_as t u (message.Ping m) e = (e, refl)
message_as t u (message.Close m) e = (refl, refl)

-- the first message of a known type
first_as : (t u : Conversation) (m : Message) → t.stage ≡ u.stage → IsAs (after_message_at Opening t m) (after_message_at Opening u m)
first_as t u (message.ClusterConfig m) e = (refl, refl)
first_as t u (message.Index m) e = (refl, refl)
first_as t u (message.IndexUpdate m) e = (refl, refl)
first_as t u (message.Request m) e = (refl, refl)
first_as t u (message.Response m) e = (refl, refl)
first_as t u (message.DownloadProgress m) e = (refl, refl)
first_as t u (message.Ping m) e = (refl, refl)
first_as t u (message.Close m) e = (refl, refl)

frame_at_as : (s : Stage) (m m' : ℕ) (t u : Conversation) (f : Frame) → t.stage ≡ u.stage → IsAs (after_frame_at s m t f) (after_frame_at s m' u f)
frame_at_as Opening m m' t u (Hello h) e = (e, refl)
frame_at_as Opening m m' t u (MessageFrame x) e = first_as (record t { received = m }) (record u { received = m' }) x e
frame_at_as Opening m m' t u (Unknown kind) e = (e, refl)
frame_at_as Running m m' t u (Hello h) e = (e, refl)
frame_at_as Running m m' t u (MessageFrame x) e = message_as (record t { received = m }) (record u { received = m' }) x e
frame_at_as Running m m' t u (Unknown kind) e = (e, refl)
frame_at_as Over m m' t u f e = (e, refl)

frame_as : (m m' : ℕ) (t u : Conversation) (f : Frame) → t.stage ≡ u.stage → IsAs (after_frame m t f) (after_frame m' u f)
unfolding after_frame
frame_as m m' t u f e = subst (λ (s : Stage). IsAs (after_frame_at t.stage m t f) (after_frame_at s m' u f)) e (frame_at_as t.stage m m' t u f e)

frames_as : (m m' : ℕ) (t u : Conversation) (fs : List Frame) → t.stage ≡ u.stage → AreAs (after_frames m t fs) (after_frames m' u fs)
unfolding after_frames
frames_as m m' t u [] e = (e, refl)
frames_as m m' t u (f ∷ fs) e =
    let one = frame_as m m' t u f e in
    let rest = frames_as m m' (after_frame m t f).conversation (after_frame m' u f).conversation fs one.0 in (
      rest.0,
      bare_all-append (option_to_list (after_frame m t f).event) (after_frames m (after_frame m t f).conversation fs).events
          ∙ ap (λ l. l ++ bare_all (after_frames m (after_frame m t f).conversation fs).events) one.1
          ∙ ap (λ l. bare_all (option_to_list (after_frame m' u f).event) ++ l) rest.1
          ∙ sym (bare_all-append (option_to_list (after_frame m' u f).event) (after_frames m' (after_frame m' u f).conversation fs).events),
    )

-- ---- streams

end_as : (s : Stage) (a b : Outcomes) (end : Result (List ℕ) FrameFault) → AreAs a b → AreAs (after_end_at s a end) (after_end_at s b end)
end_as Opening a b (Ok rest) h = h
end_as Opening a b (Err e) h = (
  refl,
  bare_all-append a.events (fault_events (session_fault e)) ∙ ap (λ l. l ++ bare_all (fault_events (session_fault e))) h.1
      ∙ sym (bare_all-append b.events (fault_events (session_fault e))),
)
end_as Running a b (Ok rest) h = h
end_as Running a b (Err e) h = (
  refl,
  bare_all-append a.events (fault_events (session_fault e)) ∙ ap (λ l. l ++ bare_all (fault_events (session_fault e))) h.1
      ∙ sym (bare_all-append b.events (fault_events (session_fault e))),
)
end_as Over a b end h = h

stream_as : (m m' : ℕ) (t u : Conversation) (s : Stream) → t.stage ≡ u.stage → AreAs (after_stream m t s) (after_stream m' u s)
unfolding after_stream
stream_as m m' t u s e =
    let a = after_frames m t s.frames in
    let b = after_frames m' u s.frames in
    let h = frames_as m m' t u s.frames e in
    subst (λ (x : Stage). AreAs (after_end_at a.conversation.stage a s.end) (after_end_at x b s.end)) h.0 (end_as a.conversation.stage a b s.end h)

-- ---- sessions

-- two sessions that have come as far, whatever is open in them
pub record IsAlike (v w : View) : Type 0 where
  pub hello : v.hello ≡ w.hello
  pub rest : v.rest ≡ w.rest
  pub stage : v.conversation.stage ≡ w.conversation.stage

pub record FedAlike (a b : Fed) : Type 0 where
  pub session : IsAlike a.session b.session
  pub events : bare_all a.events ≡ bare_all b.events

left_alike : (s : Stage) (due : Bool) (x : Stream) (t u : Conversation) → t.stage ≡ u.stage → IsAlike (left_at s due x t) (left_at s due x u)
left_alike Opening due x t u e = record { hello = refl; rest = refl; stage = e }
left_alike Running due x t u e = record { hello = refl; rest = refl; stage = e }
left_alike Over due x t u e = record { hello = refl; rest = refl; stage = e }

fed_stream_alike : (due : Bool) (t u : Conversation) (x : Stream) (m m' : ℕ) → t.stage ≡ u.stage → FedAlike (fed_stream due t x m) (fed_stream due u x m')
unfolding fed_stream
fed_stream_alike due t u x m m' e =
    let a = after_stream m t x in
    let b = after_stream m' u x in
    let h = stream_as m m' t u x e in
    record {
      session = subst (λ (s : Stage). IsAlike (left_at a.conversation.stage due x a.conversation) (left_at s due x b.conversation)) h.0
          (left_alike a.conversation.stage due x a.conversation b.conversation h.0);
      events = h.1;
    }

fed_at_alike : (s : Stage) (v w : View) (piece : List ℕ) (m m' : ℕ) → IsAlike v w → FedAlike (fed_at s v piece m) (fed_at s w piece m')
fed_at_alike Opening v w piece m m' h =
    subst (λ (x : Bool). FedAlike (fed_stream v.hello v.conversation (stream v.hello (v.rest ++ piece)) m) (fed_stream x w.conversation (stream x (w.rest ++ piece)) m')) h.hello
    (subst (λ (x : List ℕ). FedAlike (fed_stream v.hello v.conversation (stream v.hello (v.rest ++ piece)) m) (fed_stream v.hello w.conversation (stream v.hello (x ++ piece)) m')) h.rest
    (fed_stream_alike v.hello v.conversation w.conversation (stream v.hello (v.rest ++ piece)) m m' h.stage))
fed_at_alike Running v w piece m m' h =
    subst (λ (x : Bool). FedAlike (fed_stream v.hello v.conversation (stream v.hello (v.rest ++ piece)) m) (fed_stream x w.conversation (stream x (w.rest ++ piece)) m')) h.hello
    (subst (λ (x : List ℕ). FedAlike (fed_stream v.hello v.conversation (stream v.hello (v.rest ++ piece)) m) (fed_stream v.hello w.conversation (stream v.hello (x ++ piece)) m')) h.rest
    (fed_stream_alike v.hello v.conversation w.conversation (stream v.hello (v.rest ++ piece)) m m' h.stage))
fed_at_alike Over v w piece m m' h = record { session = h; events = refl }

fed_alike : (v w : View) (piece : List ℕ) (m m' : ℕ) → IsAlike v w → FedAlike (fed v piece m) (fed w piece m')
unfolding fed
fed_alike v w piece m m' h =
    subst (λ (s : Stage). FedAlike (fed_at v.conversation.stage v piece m) (fed_at s w piece m')) h.stage (fed_at_alike v.conversation.stage v w piece m m' h)

-- nothing is fed to a session that began
fed_nothing : (fed (begun 0) [] 0).events ≡ []
unfolding fed fed_stream after_stream after_frames stream stream_within
fed_nothing = refl

begun_alike : (moment : ℕ) → IsAlike (begun moment) (fed (begun 0) [] 0).session
unfolding fed fed_stream after_stream after_frames stream stream_within
begun_alike moment = record { hello = refl; rest = refl; stage = refl }

-- ---- all that happens

abbrev pub CutsEvents : Type 0
CutsEvents = (v : View) (a b : List ℕ) (moment : ℕ) → (fed v (a ++ b) moment).events ≡ (fed v a moment).events ++ (fed (fed v a moment).session b moment).events

abbrev pub CutsSessions : Type 0
CutsSessions = (v : View) (a b : List ℕ) (moment : ℕ) → (fed v (a ++ b) moment).session ≡ (fed (fed v a moment).session b moment).session

run_bare : CutsEvents → CutsSessions → (acts : List Act) (v : View) (bytes : List ℕ) → IsAlike v (fed (begun 0) bytes 0).session
    → bare_all (fed (begun 0) bytes 0).events ++ bare_all (run v acts).events ≡ bare_all (fed (begun 0) (bytes ++ fed_of acts) 0).events
unfolding run
run_bare events sessions [] v bytes h =
    append-nil (bare_all (fed (begun 0) bytes 0).events) ∙ ap (λ b. bare_all (fed (begun 0) b 0).events) (sym (append-nil bytes))
run_bare events sessions (Feeds piece moment ∷ acts) v bytes h =
    let before = fed (begun 0) bytes 0 in
    let one = fed v piece moment in
    let like = fed_alike v before.session piece moment 0 h in
    let cut = events (begun 0) bytes piece 0 in
    let alike = subst (λ (w : View). IsAlike one.session w) (sym (sessions (begun 0) bytes piece 0)) like.session in
    let later = run_bare events sessions acts one.session (bytes ++ piece) alike in
    let joined : bare_all (fed (begun 0) (bytes ++ piece) 0).events ≡ bare_all before.events ++ bare_all one.events
    = ap bare_all cut ∙ bare_all-append before.events (fed before.session piece 0).events ∙ ap (λ l. bare_all before.events ++ l) (sym like.events) in
    ap (λ l. bare_all before.events ++ l) (bare_all-append one.events (run one.session acts).events)
    ∙ sym (append_assoc (bare_all before.events) (bare_all one.events) (bare_all (run one.session acts).events))
    ∙ ap (λ l. l ++ bare_all (run one.session acts).events) (sym joined)
    ∙ later
    ∙ ap (λ b. bare_all (fed (begun 0) b 0).events) (append_assoc bytes piece (fed_of acts))
run_bare events sessions (Opens id ∷ acts) v bytes h =
    run_bare events sessions acts (acted v (Opens id)).session bytes (record { hello = h.hello; rest = h.rest; stage = h.stage })
run_bare events sessions (Says moment ∷ acts) v bytes h =
    run_bare events sessions acts (acted v (Says moment)).session bytes (record { hello = h.hello; rest = h.rest; stage = h.stage })
run_bare events sessions (Ticks moment ∷ acts) v bytes h = run_bare events sessions acts v bytes h

-- the events of a stream that is fed at once
fed_is_stream : (bytes : List ℕ) → (fed (begun 0) bytes 0).events ≡ stream_events bytes
unfolding fed fed_stream
fed_is_stream bytes = refl

pub run_is_stream : CutsEvents → CutsSessions → (moment : ℕ) (acts : List Act) → bare_all (run (begun moment) acts).events ≡ bare_all (stream_events (fed_of acts))
run_is_stream events sessions moment acts =
    ap (λ l. bare_all l ++ bare_all (run (begun moment) acts).events) (sym fed_nothing)
    ∙ run_bare events sessions acts (begun moment) [] (begun_alike moment)
    ∙ ap bare_all (fed_is_stream (fed_of acts))

-- ---- what they come to

effect_bare : (peer : Identity) (fs : List Heard) (e : Event) → after_event peer fs (bare e) ≡ after_event peer fs e
effect_bare peer fs (PeerHello m) = refl
effect_bare peer fs (PeerConfig m) = refl
effect_bare peer fs (Full m) = refl
effect_bare peer fs (More m) = refl
effect_bare peer fs (Asked m) = refl
effect_bare peer fs (Answered m) = refl
effect_bare peer fs (UnknownResponse id) = refl
effect_bare peer fs (Skipped kind) = refl
effect_bare peer fs (PeerClosed reason) = refl
effect_bare peer fs (Ended fault) = refl

pub effects_bare : (peer : Identity) (es : List Event) (fs : List Heard) → after_events peer fs (bare_all es) ≡ after_events peer fs es
effects_bare peer [] fs = refl
effects_bare peer (e ∷ es) fs =
    ap (λ (x : Effect). then_effect x (after_events peer x.folders (bare_all es))) (effect_bare peer fs e)
    ∙ ap (λ (x : Effect). then_effect (after_event peer fs e) x) (effects_bare peer es (after_event peer fs e).folders)

pub same_effect : (peer : Identity) (fs : List Heard) (es ds : List Event) → bare_all es ≡ bare_all ds → after_events peer fs es ≡ after_events peer fs ds
same_effect peer fs es ds h = sym (effects_bare peer es fs) ∙ ap (after_events peer fs) h ∙ effects_bare peer ds fs
