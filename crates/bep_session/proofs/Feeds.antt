-- A piece that is fed to a session, by what its reader gives.
use Rattle.std.proofs.Common.{◌≡◌, ◌≢◌, ℕ, Bool, List, [], ◌++◌, Option, None, Result, Ok, refl, sym, ap, subst, ◌∙◌}
use Rattle.bep_frames.specs.declared.fault.FrameFault.{FrameFault}
use Rattle.bep_frames.specs.State.{State, grown, remaining, to_give, fed as reader_fed}
use Rattle.bep_frames.specs.Stream.{Stream, ended, stream}
use Rattle.bep_session.specs.declared.event.Event.{Event}
use Rattle.bep_session.specs.declared.conversation.Stage.{Stage}
use Rattle.bep_session.specs.declared.conversation.Stage.TheVariants.{Opening, Running, Over}
use Rattle.bep_session.specs.declared.conversation.Conversation.{Conversation}
use Rattle.bep_session.specs.Events.{Outcomes, after_frames, over, after_stream}
use Rattle.bep_session.specs.Progress.{IsCutShort, IsDrained, IsRead}
use Rattle.bep_session.specs.Sessions.{Fed, Leaves, RunsOutOfMemory, View, ended_view, fed, fed_at, fed_stream, left_at, rest_of, still_due}
use Rattle.bep_session.proofs.Outcomes.{told_rest}

-- ---- what `fed` is

over_at : (stage : Stage) (v : View) (piece : List ℕ) (moment : ℕ) → stage ≡ Over → fed_at stage v piece moment ≡ record { session = v; events = [] }
over_at Opening v piece moment e = absurd cc
over_at Running v piece moment e = absurd cc
over_at Over v piece moment e = refl

pub fed_over : (v : View) (piece : List ℕ) (moment : ℕ) → v.conversation.stage ≡ Over → fed v piece moment ≡ record { session = v; events = [] }
unfolding fed
fed_over v piece moment e = over_at v.conversation.stage v piece moment e

live_at : (stage : Stage) (v : View) (piece : List ℕ) (moment : ℕ) → stage ≢ Over → fed_at stage v piece moment ≡ fed_stream v.hello v.conversation (stream v.hello (v.rest ++ piece)) moment
live_at Opening v piece moment live = refl
live_at Running v piece moment live = refl
live_at Over v piece moment live = absurd (live refl)

pub fed_live : (v : View) (piece : List ℕ) (moment : ℕ) → v.conversation.stage ≢ Over → fed v piece moment ≡ fed_stream v.hello v.conversation (stream v.hello (v.rest ++ piece)) moment
unfolding fed
fed_live v piece moment live = live_at v.conversation.stage v piece moment live

pub left_live : (stage : Stage) (due : Bool) (s : Stream) (t : Conversation) → stage ≢ Over → left_at stage due s t ≡ record { hello = still_due due s.frames; rest = rest_of s.end; conversation = t }
left_live Opening due s t live = refl
left_live Running due s t live = refl
left_live Over due s t live = absurd (live refl)

pub left_over : (stage : Stage) (due : Bool) (s : Stream) (t : Conversation) → stage ≡ Over → left_at stage due s t ≡ ended_view t
left_over Opening due s t e = absurd cc
left_over Running due s t e = absurd cc
left_over Over due s t e = refl

-- ---- a piece without bytes

told_nothing : (moment : ℕ) (t : Conversation) (rest : List ℕ) → after_stream moment t (ended (Ok rest)) ≡ record { conversation = t; events = [] }
unfolding after_frames
told_nothing moment t rest = told_rest moment t [] rest

pub ended_live : (due : Bool) (t : Conversation) (rest : List ℕ) (moment : ℕ) → t.stage ≢ Over → fed_stream due t (ended (Ok rest)) moment ≡ record { session = record { hello = due; rest = rest; conversation = t }; events = [] }
unfolding fed_stream
ended_live due t rest moment live =
    ap (λ (told : Outcomes). record { session = left_at told.conversation.stage due (ended (Ok rest)) told.conversation; events = told.events }) (told_nothing moment t rest)
    ∙ ap (λ (v : View). record { session = v; events = [] }) (left_live t.stage due (ended (Ok rest)) t live)

nothing_at : (stage : Stage) (v : View) (moment : ℕ) → v.conversation.stage ≡ stage → stream v.hello (v.rest ++ []) ≡ ended (Ok v.rest) → fed_at stage v [] moment ≡ record { session = v; events = [] }
nothing_at Over v moment is e = refl
nothing_at Opening v moment is e = ap (λ (s : Stream). fed_stream v.hello v.conversation s moment) e ∙ ended_live v.hello v.conversation v.rest moment (λ closed. absurd cc)
nothing_at Running v moment is e = ap (λ (s : Stream). fed_stream v.hello v.conversation s moment) e ∙ ended_live v.hello v.conversation v.rest moment (λ closed. absurd cc)

pub fed_nothing : (v : View) (moment : ℕ) → stream v.hello (v.rest ++ []) ≡ ended (Ok v.rest) → fed v [] moment ≡ record { session = v; events = [] }
unfolding fed
fed_nothing v moment e = nothing_at v.conversation.stage v moment refl e

-- ---- by the reader

stream_of : (reader : State) (piece : List ℕ) → reader.fault ≡ None → remaining (reader_fed reader piece) ≡ stream reader.hello (reader.rest ++ piece)
stream_of reader piece e = ap (λ (f : Option FrameFault). to_give reader.hello (grown reader.rest piece f) f) e

abbrev pub view_of : State → Conversation → View
view_of reader t = record { hello = reader.hello; rest = reader.rest; conversation = t }

pub nothing_fed : (reader : State) (t : Conversation) (moment : ℕ) → IsDrained reader → fed (view_of reader t) [] moment ≡ record { session = view_of reader t; events = [] }
nothing_fed reader t moment drained = fed_nothing (view_of reader t) moment (sym (stream_of reader [] drained.fault) ∙ drained.nothing)

module _ (reader new : State) (t u : Conversation) (piece : List ℕ) (moment : ℕ) (before after : List Event) (drained : IsDrained reader) (live : t.stage ≢ Over) where
  abbrev given : Stream
  given = remaining (reader_fed reader piece)

  fed_given : fed (view_of reader t) piece moment ≡ fed_stream reader.hello t given moment
  fed_given = fed_live (view_of reader t) piece moment live ∙ ap (λ (s : Stream). fed_stream reader.hello t s moment) (sym (stream_of reader piece drained.fault))

  pub read_events : before ≡ [] → IsRead moment reader.hello given t u before after new → after ≡ (fed (view_of reader t) piece moment).events
  unfolding fed_stream
  read_events none h = h.events ∙ ap (λ (l : List Event). l ++ (after_stream moment t given).events) none ∙ ap (λ (f : Fed). f.events) (sym fed_given)

  session_given : (v : View) → IsRead moment reader.hello given t u before after new → left_at u.stage reader.hello given u ≡ v → v ≡ (fed (view_of reader t) piece moment).session
  unfolding fed_stream
  session_given v h e = sym e ∙ ap (λ (w : Conversation). left_at w.stage reader.hello given w) h.conversation ∙ ap (λ (f : Fed). f.session) (sym fed_given)

  pub read_over : IsRead moment reader.hello given t u before after new → u.stage ≡ Over → ended_view u ≡ (fed (view_of reader t) piece moment).session
  read_over h closed = session_given (ended_view u) h (left_over u.stage reader.hello given u closed)

  pub read_on : IsRead moment reader.hello given t u before after new → u.stage ≢ Over → view_of new u ≡ (fed (view_of reader t) piece moment).session
  read_on h on =
      let more = h.goes_on on in
      session_given (view_of new u) h (left_live u.stage reader.hello given u on
      ∙ ap (λ (b : Bool). record { hello = b; rest = rest_of given.end; conversation = u }) (sym more.due_is)
      ∙ ap (λ (end : Result (List ℕ) FrameFault). record { hello = new.hello; rest = rest_of end; conversation = u }) more.end)

  pub cut_short : IsCutShort moment reader.hello (reader_fed reader piece).rest t u → RunsOutOfMemory (view_of reader t) piece moment (ended_view (over u))
  cut_short h = record {
    frames = h.frames;
    left = h.left;
    leaves = subst (λ (f : Option FrameFault). Leaves reader.hello (grown reader.rest piece f) h.frames h.left) drained.fault h.leaves;
    needs = h.needs;
    session = ap ended_view h.conversation;
  }
