-- A frame that is fed alone is heard alone.
use Rattle.std.proofs.Common.{◌≡◌, ℕ, Bool, true, false, List, [], ◌∷◌, ◌++◌, Result, Some, Ok, Err, IfOk, OnOk, ◌⊎◌, inl, inr, ℤ, refl, sym, ap, subst, ◌∙◌, append-nil}
use Rattle.std.specs.Prelude.{if◌then◌else◌}
use Rattle.std.specs.Option.{option_to_list}
use Rattle.bep_frames.specs.declared.fault.FrameFault.{FrameFault}
use Rattle.bep_messages.specs.declared.cluster_config.ClusterConfig.{ClusterConfig}
use Rattle.bep_messages.specs.declared.hello.Hello.{Hello}
use Rattle.bep_frames.specs.declared.frame.Frame.{Frame}
use Rattle.bep_frames.specs.declared.frame.Frame.TheVariants.{Hello as HelloFrame, Message as MessageFrame}
use Rattle.bep_frames.specs.declared.frame.Message.{Message}
use Rattle.bep_frames.specs.declared.frame.Message.TheVariants.{ClusterConfig as ConfigMessage, Index as IndexMessage, IndexUpdate as UpdateMessage, Request as RequestMessage, Response as ResponseMessage}
use Rattle.bep_frames.specs.Grammar.{IsFrame}
use Rattle.bep_frames.specs.Stream.{Splits, Stream, stream, stream_within}
use Rattle.bep_session.specs.declared.conversation.Conversation.{Conversation}
use Rattle.bep_session.specs.declared.conversation.Stage.{Stage}
use Rattle.bep_session.specs.declared.conversation.Stage.TheVariants.{Opening, Running, Over}
use Rattle.bep_session.specs.Events.{Outcome, Outcomes, after_end_at, after_frame, after_frame_at, after_frames, after_message, after_stream}
use Rattle.bep_messages.specs.declared.index.Index.{Index}
use Rattle.bep_messages.specs.declared.index_update.IndexUpdate.{IndexUpdate}
use Rattle.bep_session.specs.declared.event.Event.{Event}
use Rattle.bep_session.specs.declared.event.Event.TheVariants.{Answered, Asked, Full, More, UnknownResponse}
use Rattle.bep_session.specs.Ids.{closed, is_open}
use Rattle.bep_messages.specs.declared.request.Request.{Request}
use Rattle.bep_messages.specs.declared.response.Response.{Response}
use Rattle.bep_session.specs.Sessions.{Fed, View, fed, fed_at, fed_stream, left_at, said_at}
use Rattle.proof_layers.specs.Heard.{HasHeardNothing, HearsAlone, IsLive, IsOpen}

-- each byte list has one reading
pub record Reading : Type 0 where
  pub read : (due : Bool) (bytes : List ℕ) → Splits due bytes (stream due bytes).frames (stream due bytes).end
  pub only : (due : Bool) (bytes : List ℕ) (frames : List Frame) (end : Result (List ℕ) FrameFault) →
      Splits due bytes frames end → (frames ≡ (stream due bytes).frames) × (end ≡ (stream due bytes).end)

abbrev alone : Frame → Stream
alone f = record { frames = f ∷ []; end = Ok [] }

nothing : Reading → Splits false [] [] (Ok [])
unfolding stream stream_within
nothing reading = reading.read false []

-- the stream of one frame
pub one-frame : Reading → (due : Bool) (frame : List ℕ) (f : Frame) → IsFrame due frame f → stream due frame ≡ alone f
one-frame reading due frame f is =
    let split : Splits due frame (f ∷ []) (Ok []) = ([], record { spelling = frame; split = sym (append-nil frame); frame = is }, nothing reading) in
    let e = reading.only due frame (f ∷ []) (Ok []) split in
    λ i. record { frames = sym e.0 i; end = sym e.1 i }

-- an end without a fault adds nothing
end-of : (stage : Stage) (o : Outcomes) → after_end_at stage o (Ok []) ≡ o
end-of Opening o = refl
end-of Running o = refl
end-of Over o = refl

abbrev whole : Outcome → Fed
whole o = record { session = record { hello = false; rest = []; conversation = o.conversation }; events = option_to_list o.event }

left-of : (stage : Stage) (due : Bool) (f : Frame) (t : Conversation) → IsLive stage → left_at stage due (alone f) t ≡ record { hello = false; rest = []; conversation = t }
left-of Opening due f t live = refl
left-of Running due f t live = refl
left-of Over due f t live = absurd live

live-fed : (stage : Stage) (v : View) (piece : List ℕ) (moment : ℕ) → IsLive stage → fed_at stage v piece moment ≡ fed_stream v.hello v.conversation (stream v.hello (v.rest ++ piece)) moment
live-fed Opening v piece moment live = refl
live-fed Running v piece moment live = refl
live-fed Over v piece moment live = absurd live

one-fed : (due : Bool) (t : Conversation) (f : Frame) (moment : ℕ) → IsLive (after_frame moment t f).conversation.stage
    → fed_stream due t (alone f) moment ≡ whole (after_frame moment t f)
unfolding fed_stream after_stream after_frames
one-fed due t f moment live =
    let o = after_frame moment t f in
    let made : Outcomes = record { conversation = o.conversation; events = option_to_list o.event ++ [] } in
    let last : after_end_at o.conversation.stage made (Ok []) ≡ made = end-of o.conversation.stage made in
    ap (λ (oc : Outcomes). let r : Fed = record { session = left_at oc.conversation.stage due (alone f) oc.conversation; events = oc.events } in r) last
    ∙ (λ i. record { session = left-of o.conversation.stage due f o.conversation live i; events = append-nil (option_to_list o.event) i })

-- a frame that is fed to a session between two frames
pub heard : Reading → (v : View) (frame : List ℕ) (f : Frame) (moment : ℕ) → v.rest ≡ [] → IsLive v.conversation.stage → IsFrame v.hello frame f
    → IsLive (after_frame moment v.conversation f).conversation.stage → fed v frame moment ≡ whole (after_frame moment v.conversation f)
unfolding fed
heard reading v frame f moment between live is after =
    live-fed v.conversation.stage v frame moment live
    ∙ ap (λ r. fed_stream v.hello v.conversation (stream v.hello (r ++ frame)) moment) between
    ∙ ap (λ s. fed_stream v.hello v.conversation s moment) (one-frame reading v.hello frame f is)
    ∙ one-fed v.hello v.conversation f moment after

-- what a feed returned, of a frame that is fed alone
pub fed-alone : {X E : Type 0} (items : X → List Event) → Reading → (v new : View) (frame : List ℕ) (f : Frame) (moment : ℕ) (result : Result X E)
    → v.rest ≡ [] → IsLive v.conversation.stage → IsFrame v.hello frame f → IsLive (after_frame moment v.conversation f).conversation.stage
    → IfOk result (λ x. items x ≡ (fed v frame moment).events) → OnOk result (new ≡ (fed v frame moment).session)
    → IfOk result (λ x. HearsAlone v f moment (items x) new)
fed-alone items reading v new frame f moment (Ok x) between live is after events session =
    let e = heard reading v frame f moment between live is after in
    record { events_are = events ∙ ap (λ (r : Fed). r.events) e; session = session ∙ ap (λ (r : Fed). r.session) e }
fed-alone items reading v new frame f moment (Err fault) between live is after events session = tt

-- after the Hello a ClusterConfig is due, and then none
after-hello : (t : Conversation) (m : Hello) (moment : ℕ) → t.stage ≡ Opening → (after_frame moment t (HelloFrame m)).conversation.stage ≡ Opening
unfolding after_frame
after-hello t m moment e = ap (λ st. (after_frame_at st moment t (HelloFrame m)).conversation.stage) e ∙ e

after-config : (t : Conversation) (m : ClusterConfig) (moment : ℕ) → t.stage ≡ Opening
    → (after_frame moment t (MessageFrame (ConfigMessage m))).conversation.stage ≡ Running
unfolding after_frame
after-config t m moment e = ap (λ st. (after_frame_at st moment t (MessageFrame (ConfigMessage m))).conversation.stage) e

live-opening : (stage : Stage) → stage ≡ Opening → IsLive stage
live-opening stage e = subst IsLive (sym e) tt

live-running : (stage : Stage) → stage ≡ Running → IsLive stage
live-running stage e = subst IsLive (sym e) tt

-- what a session hears of a frame
abbrev pub Hears : View → List ℕ → ℕ → List Event → View → Type 0
Hears v frame moment events new =
    (f : Frame) → v.rest ≡ [] → IsLive v.conversation.stage → IsFrame v.hello frame f
    → IsLive (after_frame moment v.conversation f).conversation.stage → HearsAlone v f moment events new

-- a Hello and a ClusterConfig are heard one after the other
pub greeted : (v mid new : View) (first second : List ℕ) (m : Hello) (config : ClusterConfig) (moment : ℕ) (events more : List Event) → HasHeardNothing v
    → IsFrame true first (HelloFrame m) → IsFrame false second (MessageFrame (ConfigMessage config))
    → Hears v first moment events mid → Hears mid second moment more new → IsOpen new
greeted v mid new first second m config moment events more nothing one two hears after =
    let f = HelloFrame m in
    let g = MessageFrame (ConfigMessage config) in
    let stage = after-hello v.conversation m moment nothing.stage in
    let h = hears f nothing.rest (live-opening v.conversation.stage nothing.stage) (subst (λ b. IsFrame b first f) (sym nothing.hello) one)
    (live-opening (after_frame moment v.conversation f).conversation.stage stage) in
    let due : mid.conversation.stage ≡ Opening = ap (λ (w : View). w.conversation.stage) h.session ∙ stage in
    let end = after-config mid.conversation config moment due in
    let k = after g (ap (λ (w : View). w.rest) h.session) (live-opening mid.conversation.stage due)
    (subst (λ b. IsFrame b second g) (sym (ap (λ (w : View). w.hello) h.session)) two)
    (live-running (after_frame moment mid.conversation g).conversation.stage end) in
    record {
      hello = ap (λ (w : View). w.hello) k.session;
      rest = ap (λ (w : View). w.rest) k.session;
      stage = ap (λ (w : View). w.conversation.stage) k.session ∙ end;
    }

-- ---- an index

open-still : (v new : View) (f : Frame) (moment : ℕ) (o : Outcome) → after_frame moment v.conversation f ≡ o → o.conversation.stage ≡ Running
    → (events : List Event) → HearsAlone v f moment events new → IsOpen new
open-still v new f moment o is runs events h = record {
  hello = ap (λ (w : View). w.hello) h.session;
  rest = ap (λ (w : View). w.rest) h.session;
  stage = ap (λ (w : View). w.conversation.stage) h.session ∙ ap (λ (x : Outcome). x.conversation.stage) is ∙ runs;
}

abbrev received : Conversation → ℕ → Conversation
received t moment = record t { received = moment }

-- what a message is to a session that is open
running-hears : (t : Conversation) (m : Message) (moment : ℕ) → t.stage ≡ Running
    → after_frame moment t (MessageFrame m) ≡ after_message (received t moment) m
unfolding after_frame
running-hears t m moment e = ap (λ st. after_frame_at st moment t (MessageFrame m)) e

module _ (v new : View) (moment : ℕ) (events : List Event) (opened : IsOpen v) where
  abbrev IsHeard : Message → Type 0
  IsHeard m = IsOpen v → IsLive (after_frame moment v.conversation (MessageFrame m)).conversation.stage → HearsAlone v (MessageFrame m) moment events new

  heard-outcome : (m : Message) (o : Outcome) → after_message (received v.conversation moment) m ≡ o → o.conversation.stage ≡ Running → IsHeard m
      → (events ≡ option_to_list o.event) × IsOpen new
  heard-outcome m o is runs hears =
      let f = MessageFrame m in
      let e : after_frame moment v.conversation f ≡ o = running-hears v.conversation m moment opened.stage ∙ is in
      let stage : (after_frame moment v.conversation f).conversation.stage ≡ Running = ap (λ (x : Outcome). x.conversation.stage) e ∙ runs in
      let h = hears opened (live-running (after_frame moment v.conversation f).conversation.stage stage) in
      (h.events_are ∙ ap (λ (x : Outcome). option_to_list x.event) e, open-still v new f moment o e runs events h)

  heard-as : (m : Message) (event : Event) → after_message (received v.conversation moment) m ≡ record { conversation = received v.conversation moment; event = Some event }
      → IsHeard m → (events ≡ event ∷ []) × IsOpen new
  heard-as m event is hears = heard-outcome m (record { conversation = received v.conversation moment; event = Some event }) is opened.stage hears

  pub index-heard : (m : Message) (index : Index) → m ≡ IndexMessage index → IsHeard m
      → (events ≡ Full index ∷ []) × IsOpen new
  index-heard m index is hears = heard-as m (Full index) (ap (after_message (received v.conversation moment)) is) hears

  pub update-heard : (m : Message) (update : IndexUpdate) → m ≡ UpdateMessage update → IsHeard m
      → (events ≡ More update ∷ []) × IsOpen new
  update-heard m update is hears = heard-as m (More update) (ap (after_message (received v.conversation moment)) is) hears

  pub request-heard : (q : Request) → IsHeard (RequestMessage q) → events ≡ Asked q ∷ []
  request-heard q hears = (heard-as (RequestMessage q) (Asked q) refl hears).0

  -- a Response answers a Request that is open, or none
  pub response-heard : (r : Response) → IsHeard (ResponseMessage r) → (events ≡ Answered r ∷ []) ⊎ (events ≡ UnknownResponse r.id ∷ [])
  response-heard r hears = by (is_open v.conversation.asks r.id) refl
    where
      t : Conversation
      t = received v.conversation moment

      answers : Outcome
      answers = record { conversation = record t { asks = closed t.asks r.id }; event = Some (Answered r) }

      unknown : Outcome
      unknown = record { conversation = t; event = Some (UnknownResponse r.id) }

      by : (b : Bool) → is_open v.conversation.asks r.id ≡ b → (events ≡ Answered r ∷ []) ⊎ (events ≡ UnknownResponse r.id ∷ [])
      by true e = inl (heard-outcome (ResponseMessage r) answers (ap (λ b. if b then answers else unknown) e) opened.stage hears).0
      by false e = inr (heard-outcome (ResponseMessage r) unknown (ap (λ b. if b then answers else unknown) e) opened.stage hears).0

-- to say something leaves a session between two messages
pub said-open : (v : View) (moment : ℕ) → IsOpen v → IsOpen (said_at v moment)
said-open v moment opened = record { hello = opened.hello; rest = opened.rest; stage = opened.stage }

-- the last of one
pub last-one : {X : Type 0} (xs : List X) (x y : X) → y ∷ [] ≡ xs ++ x ∷ [] → x ≡ y
last-one [] x y e = cc
last-one (z ∷ []) x y e = cc
last-one (z ∷ w ∷ ws) x y e = cc

-- what holds anyway holds if there is a value
pub OnOk-holds : {X E : Type 0} {P : Type 0} (r : Result X E) → P → OnOk r P
OnOk-holds (Ok x) p = p
OnOk-holds (Err e) p = tt

pub full-inside : (a b : Index) → Full a ≡ Full b → a ≡ b
full-inside a b e = cc

pub more-inside : (a b : IndexUpdate) → More a ≡ More b → a ≡ b
more-inside a b e = cc

pub asked-inside : (a b : Request) → Asked a ≡ Asked b → a ≡ b
asked-inside a b e = cc

-- the one that answers is the one that was said
pub answered-is : (r heard : Response) (id : ℤ) (events before : List Event) (last : Event) → (events ≡ Answered r ∷ []) ⊎ (events ≡ UnknownResponse id ∷ [])
    → events ≡ before ++ last ∷ [] → last ≡ Answered heard → heard ≡ r
answered-is r heard id events before last (inl e) is popped = let same = last-one before last (Answered r) (sym e ∙ is) in cc
answered-is r heard id events before last (inr e) is popped = let same = last-one before last (UnknownResponse id) (sym e ∙ is) in cc
