-- A piece that is cut in two.
use Rattle.std.proofs.Common.{◌≡◌, ◌≢◌, ℕ, Bool, List, [], ◌++◌, Result, Ok, Err, refl, sym, ap, ◌∙◌, append_assoc, append-nil}
use Rattle.bep_frames.specs.declared.fault.FrameFault.{FrameFault}
use Rattle.bep_frames.specs.declared.frame.Frame.{Frame}
use Rattle.bep_frames.specs.State.{with_front}
use Rattle.bep_frames.specs.Stream.{Stream, ended, stream}
use Rattle.bep_session.specs.declared.event.Event.{Event}
use Rattle.bep_session.specs.declared.conversation.Stage.{Stage}
use Rattle.bep_session.specs.declared.conversation.Stage.TheVariants.{Opening, Running, Over}
use Rattle.bep_session.specs.declared.conversation.Conversation.{Conversation}
use Rattle.bep_session.specs.Events.{Outcomes, after_end_at, fault_events, after_frames, over, after_stream}
use Rattle.bep_session.specs.Faults.{session_fault}
use Rattle.bep_session.specs.Sessions.{Fed, View, ended_view, fed, fed_stream, left_at, rest_of, still_due}
use Rattle.bep_session.proofs.Feeds.{ended_live, fed_live, fed_over, left_over}
use Rattle.bep_session.proofs.Longer.{later, still_due-append, stream_longer}
use Rattle.bep_session.proofs.Outcomes.{told_fault, told-append, told_over}

-- events in front
abbrev pub events_first : List Event → Outcomes → Outcomes
events_first events told = record { conversation = told.conversation; events = events ++ told.events }

end_first : (stage : Stage) (events : List Event) (told : Outcomes) (end : Result (List ℕ) FrameFault) → after_end_at stage (events_first events told) end ≡ events_first events (after_end_at stage told end)
end_first Opening events told (Ok rest) = refl
end_first Opening events told (Err e) = ap (λ (l : List Event). record { conversation = over told.conversation; events = l }) (append_assoc events told.events (fault_events (session_fault e)))
end_first Running events told (Ok rest) = refl
end_first Running events told (Err e) = ap (λ (l : List Event). record { conversation = over told.conversation; events = l }) (append_assoc events told.events (fault_events (session_fault e)))
end_first Over events told end = refl

-- frames in front of a stream
pub after_stream-front : (moment : ℕ) (t : Conversation) (frames : List Frame) (s : Stream) → after_stream moment t (with_front frames s) ≡ events_first (after_frames moment t frames).events (after_stream moment (after_frames moment t frames).conversation s)
unfolding after_stream
after_stream-front moment t frames s =
    let first = after_frames moment t frames in
    let told = after_frames moment first.conversation s.frames in
    ap (λ (x : Outcomes). after_end_at x.conversation.stage x s.end) (told-append moment t frames s.frames)
    ∙ end_first told.conversation.stage first.events told s.end

left-front : (stage : Stage) (due : Bool) (frames : List Frame) (s : Stream) (t : Conversation) → left_at stage due (with_front frames s) t ≡ left_at stage (still_due due frames) s t
left-front Opening due frames s t = ap (λ (b : Bool). record { hello = b; rest = rest_of s.end; conversation = t }) (still_due-append due frames s.frames)
left-front Running due frames s t = ap (λ (b : Bool). record { hello = b; rest = rest_of s.end; conversation = t }) (still_due-append due frames s.frames)
left-front Over due frames s t = refl

abbrev pub fed_first : List Event → Fed → Fed
fed_first events f = record { session = f.session; events = events ++ f.events }

pub fed_stream-front : (due : Bool) (t : Conversation) (frames : List Frame) (s : Stream) (moment : ℕ) → fed_stream due t (with_front frames s) moment
    ≡ fed_first (after_frames moment t frames).events (fed_stream (still_due due frames) (after_frames moment t frames).conversation s moment)
unfolding fed_stream
fed_stream-front due t frames s moment =
    let told = after_stream moment (after_frames moment t frames).conversation s in
    ap (λ (x : Outcomes). record { session = left_at x.conversation.stage due (with_front frames s) x.conversation; events = x.events }) (after_stream-front moment t frames s)
    ∙ ap (λ (v : View). record { session = v; events = (after_frames moment t frames).events ++ told.events }) (left-front told.conversation.stage due frames s told.conversation)

-- ---- after the end

pub told_stopped : (moment : ℕ) (t : Conversation) (s : Stream) → t.stage ≡ Over → after_stream moment t s ≡ record { conversation = t; events = [] }
unfolding after_stream
told_stopped moment t s closed =
    ap (λ (x : Outcomes). after_end_at x.conversation.stage x s.end) (told_over moment t s.frames closed) ∙ stopped t.stage s.end closed
  where
    stopped : (stage : Stage) (end : Result (List ℕ) FrameFault) → stage ≡ Over → after_end_at stage (record { conversation = t; events = [] }) end ≡ record { conversation = t; events = [] }
    stopped Opening end e = absurd cc
    stopped Running end e = absurd cc
    stopped Over end e = refl

pub stream_stopped : (due : Bool) (t : Conversation) (s : Stream) (moment : ℕ) → t.stage ≡ Over → fed_stream due t s moment ≡ record { session = ended_view t; events = [] }
unfolding fed_stream
stream_stopped due t s moment closed =
    ap (λ (x : Outcomes). record { session = left_at x.conversation.stage due s x.conversation; events = x.events }) (told_stopped moment t s closed)
    ∙ ap (λ (v : View). record { session = v; events = [] }) (left_over t.stage due s t closed)

-- ---- two pieces

abbrev pub then_fed : Fed → List ℕ → ℕ → Fed
then_fed first b moment = fed_first first.events (fed first.session b moment)

fault_live : (due : Bool) (t : Conversation) (e : FrameFault) (moment : ℕ) → t.stage ≢ Over → fed_stream due t (ended (Err e)) moment ≡ record { session = ended_view (over t); events = fault_events (session_fault e) }
unfolding fed_stream after_frames
fault_live due t e moment live =
    ap (λ (x : Outcomes). record { session = left_at x.conversation.stage due (ended (Err e)) x.conversation; events = x.events }) (told_fault moment t [] e live)

bare : (due : Bool) (t : Conversation) (end : Result (List ℕ) FrameFault) (b : List ℕ) (moment : ℕ) → t.stage ≢ Over
    → then_fed (fed_stream due t (ended end) moment) b moment ≡ fed_stream due t (later due end b) moment
bare due t (Ok rest) b moment live =
    ap (λ (x : Fed). then_fed x b moment) (ended_live due t rest moment live)
    ∙ ap (fed_first []) (fed_live (record { hello = due; rest = rest; conversation = t }) b moment live)
bare due t (Err e) b moment live =
    let fault = fault_live due t e moment live in
    let events = fault_events (session_fault e) in
    ap (λ (x : Fed). then_fed x b moment) fault
    ∙ ap (fed_first events) (fed_over (ended_view (over t)) b moment refl)
    ∙ ap (λ (l : List Event). record { session = ended_view (over t); events = l }) (append-nil events)
    ∙ sym fault

-- what more bytes make of a stream without frames
bare_at : (stage : Stage) (due : Bool) (t : Conversation) (end : Result (List ℕ) FrameFault) (b : List ℕ) (moment : ℕ) → t.stage ≡ stage
    → then_fed (fed_stream due t (ended end) moment) b moment ≡ fed_stream due t (later due end b) moment
bare_at Over due t end b moment is =
    ap (λ (x : Fed). then_fed x b moment) (stream_stopped due t (ended end) moment is)
    ∙ ap (fed_first []) (fed_over (ended_view t) b moment is)
    ∙ sym (stream_stopped due t (later due end b) moment is)
bare_at Opening due t end b moment is = bare due t end b moment (λ closed. absurd cc)
bare_at Running due t end b moment is = bare due t end b moment (λ closed. absurd cc)

first_then : (events : List Event) (x : Fed) (b : List ℕ) (moment : ℕ) → then_fed (fed_first events x) b moment ≡ fed_first events (then_fed x b moment)
first_then events x b moment =
    ap (λ (l : List Event). record { session = (fed x.session b moment).session; events = l }) (append_assoc events x.events (fed x.session b moment).events)

pub cut_stream : (due : Bool) (t : Conversation) (s : Stream) (b : List ℕ) (moment : ℕ) → then_fed (fed_stream due t s moment) b moment ≡ fed_stream due t (with_front s.frames (later (still_due due s.frames) s.end b)) moment
cut_stream due t s b moment =
    let first = after_frames moment t s.frames in
    let bare_due = still_due due s.frames in
    let whole : fed_stream due t s moment ≡ fed_first first.events (fed_stream bare_due first.conversation (ended s.end) moment) =
    ap (λ (l : List Frame). fed_stream due t (record { frames = l; end = s.end }) moment) (sym (append-nil s.frames)) ∙ fed_stream-front due t s.frames (ended s.end) moment in
    ap (λ (x : Fed). then_fed x b moment) whole
    ∙ first_then first.events (fed_stream bare_due first.conversation (ended s.end) moment) b moment
    ∙ ap (fed_first first.events) (bare_at first.conversation.stage bare_due first.conversation s.end b moment refl)
    ∙ sym (fed_stream-front due t s.frames (later bare_due s.end b) moment)

cut_live : (v : View) (a b : List ℕ) (moment : ℕ) → v.conversation.stage ≢ Over → fed v (a ++ b) moment ≡ then_fed (fed v a moment) b moment
cut_live v a b moment live =
    let due = v.hello in
    fed_live v (a ++ b) moment live
    ∙ ap (λ (l : List ℕ). fed_stream due v.conversation (stream due l) moment) (sym (append_assoc v.rest a b))
    ∙ ap (λ (s : Stream). fed_stream due v.conversation s moment) (stream_longer due (v.rest ++ a) b)
    ∙ sym (cut_stream due v.conversation (stream due (v.rest ++ a)) b moment)
    ∙ ap (λ (x : Fed). then_fed x b moment) (sym (fed_live v a moment live))

cut_at : (stage : Stage) (v : View) (a b : List ℕ) (moment : ℕ) → v.conversation.stage ≡ stage → fed v (a ++ b) moment ≡ then_fed (fed v a moment) b moment
cut_at Over v a b moment is =
    fed_over v (a ++ b) moment is
    ∙ ap (fed_first []) (sym (fed_over v b moment is))
    ∙ ap (λ (x : Fed). then_fed x b moment) (sym (fed_over v a moment is))
cut_at Opening v a b moment is = cut_live v a b moment (λ closed. absurd cc)
cut_at Running v a b moment is = cut_live v a b moment (λ closed. absurd cc)

-- a piece that is cut in two
pub cut_fed : (v : View) (a b : List ℕ) (moment : ℕ) → fed v (a ++ b) moment ≡ then_fed (fed v a moment) b moment
cut_fed v a b moment = cut_at v.conversation.stage v a b moment refl
