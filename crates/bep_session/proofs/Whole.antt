-- All that happens on a connection, by the whole stream.
use Rattle.std.proofs.Common.{◌≡◌, ◌≢◌, ℕ, Bool, true, List, [], ◌∷◌, ◌++◌, length, drop, Result, Ok, Err, refl, sym, ap, subst, ◌∙◌}
use Rattle.std.proofs.Math.Seq.{drop-append_seam}
use Rattle.bep_frames.specs.declared.fault.FrameFault.{FrameFault}
use Rattle.bep_frames.specs.declared.frame.Frame.{Frame}
use Rattle.bep_frames.specs.State.{with_front}
use Rattle.bep_frames.specs.Stream.{Stream, stream}
use Rattle.bep_frames.proofs.Readings.{empty_more, stream_more}
use Rattle.bep_session.specs.declared.event.Event.{Event}
use Rattle.bep_session.specs.declared.conversation.Stage.{Stage}
use Rattle.bep_session.specs.declared.conversation.Stage.TheVariants.{Opening, Running, Over}
use Rattle.bep_session.specs.declared.conversation.Conversation.{Conversation}
use Rattle.bep_session.specs.Events.{Outcomes, after_end_at, after_frames, after_stream}
use Rattle.bep_session.specs.Runs.{Act, Feeds, Opens, Says, Ticks, arriving, run, events_of_run}
use Rattle.bep_session.specs.Sessions.{Fed, View, begun, fed, fed_stream, left_at, rest_of, said_at, still_due, with_open}
use Rattle.bep_session.proofs.Cut.{told_stopped}
use Rattle.bep_session.proofs.Feeds.{fed_live, fed_over, left_live}
use Rattle.bep_session.proofs.Longer.{later, still_due-append, stream_longer}

-- so much of a stream came: these bytes follow its frames, and the Hello is due or not
record IsAt (before : List ℕ) (hello : Bool) (rest : List ℕ) : Type 0 where
  end : (stream true before).end ≡ Ok rest
  due : hello ≡ still_due true (stream true before).frames

abbrev Follows : List ℕ → View → Type 0
Follows before v = v.conversation.stage ≢ Over → IsAt before v.hello v.rest

-- ---- the frames that a piece makes whole

longer : (before : List ℕ) (hello : Bool) (rest piece : List ℕ) → IsAt before hello rest → stream true (before ++ piece) ≡ with_front (stream true before).frames (stream hello (rest ++ piece))
longer before hello rest piece at =
    let frames = (stream true before).frames in
    stream_longer true before piece
    ∙ ap (λ (end : Result (List ℕ) FrameFault). with_front frames (later (still_due true frames) end piece)) at.end
    ∙ ap (λ (b : Bool). with_front frames (stream b (rest ++ piece))) (sym at.due)

arriving_is : (before : List ℕ) (hello : Bool) (rest piece : List ℕ) → IsAt before hello rest → arriving before piece ≡ stream hello (rest ++ piece)
arriving_is before hello rest piece at =
    let frames = (stream true before).frames in
    let more = stream hello (rest ++ piece) in
    ap (λ (s : Stream). record { frames = drop (length frames) s.frames; end = s.end }) (longer before hello rest piece at)
    ∙ ap (λ (l : List Frame). record { frames = l; end = more.end }) (drop-append_seam frames more.frames)

-- ---- what they leave

live_end_at : (stage : Stage) (told : Outcomes) (end : Result (List ℕ) FrameFault) → told.conversation.stage ≡ stage → (after_end_at stage told end).conversation.stage ≢ Over → end ≡ Ok (rest_of end)
live_end_at stage told (Ok rest) is live = refl
live_end_at Opening told (Err e) is live = absurd (live refl)
live_end_at Running told (Err e) is live = absurd (live refl)
live_end_at Over told (Err e) is live = absurd (live is)

live_end : (moment : ℕ) (t : Conversation) (s : Stream) → (after_stream moment t s).conversation.stage ≢ Over → s.end ≡ Ok (rest_of s.end)
unfolding after_stream
live_end moment t s live = live_end_at (after_frames moment t s.frames).conversation.stage (after_frames moment t s.frames) s.end refl live

left_talk : (stage : Stage) (due : Bool) (s : Stream) (t : Conversation) → (left_at stage due s t).conversation ≡ t
left_talk Opening due s t = refl
left_talk Running due s t = refl
left_talk Over due s t = refl

left_is_at : (before : List ℕ) (hello : Bool) (rest piece : List ℕ) (t : Conversation) (moment : ℕ) → IsAt before hello rest → Follows (before ++ piece) (fed_stream hello t (stream hello (rest ++ piece)) moment).session
unfolding fed_stream
left_is_at before hello rest piece t moment at = λ goes_on.
    let s = stream hello (rest ++ piece) in
    let told = after_stream moment t s in
    let live : told.conversation.stage ≢ Over = subst (λ (u : Conversation). u.stage ≢ Over) (left_talk told.conversation.stage hello s told.conversation) goes_on in
    let all = longer before hello rest piece at in
    subst (λ (v : View). IsAt (before ++ piece) v.hello v.rest) (sym (left_live told.conversation.stage hello s told.conversation live)) (record {
      end = ap (λ (x : Stream). x.end) all ∙ live_end moment t s live;
      due = ap (λ (b : Bool). still_due b s.frames) at.due
          ∙ sym (still_due-append true (stream true before).frames s.frames)
          ∙ ap (λ (x : Stream). still_due true x.frames) (sym all);
    })

record IsTold (before piece : List ℕ) (moment : ℕ) (t : Conversation) (f : Fed) : Type 0 where
  events : f.events ≡ (after_stream moment t (arriving before piece)).events
  conversation : f.session.conversation ≡ (after_stream moment t (arriving before piece)).conversation
  follows : Follows (before ++ piece) f.session

live_told : (before piece : List ℕ) (v : View) (moment : ℕ) → IsAt before v.hello v.rest → IsTold before piece moment v.conversation (fed_stream v.hello v.conversation (stream v.hello (v.rest ++ piece)) moment)
unfolding fed_stream
live_told before piece v moment at =
    let s = stream v.hello (v.rest ++ piece) in
    let told = after_stream moment v.conversation s in
    let same : told ≡ after_stream moment v.conversation (arriving before piece) = ap (after_stream moment v.conversation) (sym (arriving_is before v.hello v.rest piece at)) in
    record {
      events = ap (λ (x : Outcomes). x.events) same;
      conversation = left_talk told.conversation.stage v.hello s told.conversation ∙ ap (λ (x : Outcomes). x.conversation) same;
      follows = left_is_at before v.hello v.rest piece v.conversation moment at;
    }

told_live : (before piece : List ℕ) (v : View) (moment : ℕ) → v.conversation.stage ≢ Over → Follows before v → IsTold before piece moment v.conversation (fed v piece moment)
told_live before piece v moment live h = subst (IsTold before piece moment v.conversation) (sym (fed_live v piece moment live)) (live_told before piece v moment (h live))

told_at : (stage : Stage) (before piece : List ℕ) (v : View) (moment : ℕ) → v.conversation.stage ≡ stage → Follows before v → IsTold before piece moment v.conversation (fed v piece moment)
told_at Opening before piece v moment is h = told_live before piece v moment (λ closed. absurd cc) h
told_at Running before piece v moment is h = told_live before piece v moment (λ closed. absurd cc) h
told_at Over before piece v moment is h =
    let stopped = told_stopped moment v.conversation (arriving before piece) is in
    subst (IsTold before piece moment v.conversation) (sym (fed_over v piece moment is)) (record {
      events = ap (λ (x : Outcomes). x.events) (sym stopped);
      conversation = ap (λ (x : Outcomes). x.conversation) (sym stopped);
      follows = λ live. absurd (live is);
    })

-- ---- all that happens

gives : (before : List ℕ) (v : View) (acts : List Act) → Follows before v → (run v acts).events ≡ events_of_run before v.conversation acts
unfolding run events_of_run
gives before v [] h = refl
gives before v (Feeds piece moment ∷ acts) h =
    let told = told_at v.conversation.stage before piece v moment refl h in
    let all = after_stream moment v.conversation (arriving before piece) in
    ap (λ (l : List Event). (fed v piece moment).events ++ l) (gives (before ++ piece) (fed v piece moment).session acts told.follows)
    ∙ ap (λ (t : Conversation). (fed v piece moment).events ++ events_of_run (before ++ piece) t acts) told.conversation
    ∙ ap (λ (l : List Event). l ++ events_of_run (before ++ piece) all.conversation acts) told.events
gives before v (Opens id ∷ acts) h = gives before (with_open v id) acts h
gives before v (Says moment ∷ acts) h = gives before (said_at v moment) acts h
gives before v (Ticks moment ∷ acts) h = gives before v acts h

pub session_gives : (moment : ℕ) (acts : List Act) → (run (begun moment) acts).events ≡ events_of_run [] (begun moment).conversation acts
session_gives moment acts =
    let none = stream_more true [] (empty_more true) in
    gives [] (begun moment) acts (λ live. record {
      end = ap (λ (s : Stream). s.end) none;
      due = ap (λ (s : Stream). still_due true s.frames) (sym none);
    })
