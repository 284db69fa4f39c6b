-- Frames that are received one after the other.
use Rattle.std.proofs.Common.{◌≡◌, ◌≢◌, ℕ, Bool, false, List, [], ◌∷◌, ◌++◌, Option, None, Some, Result, Ok, Err, refl, sym, ap, subst, ◌∙◌, inl, inr, append_assoc, append-nil}
use Rattle.std.specs.Prelude.{OnErr}
use Rattle.std.specs.Option.{option_to_list}
use Rattle.bep_frames.specs.declared.fault.FrameFault.{FrameFault}
use Rattle.bep_frames.specs.declared.fault.FrameFault.TheVariants.{OutOfMemory}
use Rattle.bep_frames.specs.declared.frame.Frame.{Frame}
use Rattle.bep_frames.specs.Grammar.{Begins, Shows}
use Rattle.bep_frames.specs.State.{State, Gives, GivesFault, fed, remaining, start, with_front}
use Rattle.bep_frames.specs.Stream.{Stream, ended}
use Rattle.bep_frames.proofs.Lemmas.{front_push, given_fault, given_frame, given_none}
use Rattle.bep_frames.proofs.Readings.{empty_more, stream_more}
use Rattle.bep_frames.proofs.Runs.{gives_fault}
use Rattle.bep_session.specs.declared.event.Event.{Event}
use Rattle.bep_session.specs.declared.event.Event.TheVariants.{Ended}
use Rattle.bep_session.specs.declared.fault.SessionFault.{SessionFault}
use Rattle.bep_session.specs.declared.conversation.Stage.{Stage}
use Rattle.bep_session.specs.declared.conversation.Stage.TheVariants.{Opening, Running, Over}
use Rattle.bep_session.specs.declared.conversation.Conversation.{Conversation}
use Rattle.bep_session.specs.Events.{Outcome, Outcomes, after_end_at, fault_events, after_frames, after_frame, then_outcomes, over, without_event, after_stream}
use Rattle.bep_session.specs.Faults.{session_fault}
use Rattle.bep_session.specs.Progress.{IsCutShort, IsDrained, IsRead}
use Rattle.bep_session.specs.Sessions.{Leaves, still_due}
use Rattle.bep_session.proofs.Longer.{still_due_false}
use Rattle.bep_session.proofs.Meets.{met_over}

-- ---- lists of frames

-- nothing is received after the end
pub told_over : (moment : ℕ) (t : Conversation) (frames : List Frame) → t.stage ≡ Over → after_frames moment t frames ≡ record { conversation = t; events = [] }
unfolding after_frames
told_over moment t [] e = refl
told_over moment t (f ∷ frames) e =
    ap (λ (m : Outcome). then_outcomes m (after_frames moment m.conversation frames)) (met_over moment t f e)
    ∙ ap (then_outcomes (without_event t)) (told_over moment t frames e)

-- two lists, one after the other
abbrev pub told_after : ℕ → Outcomes → List Frame → Outcomes
told_after moment first frames =
    let later = after_frames moment first.conversation frames in
    record { conversation = later.conversation; events = first.events ++ later.events }

pub told-append : (moment : ℕ) (t : Conversation) (a b : List Frame) → after_frames moment t (a ++ b) ≡ told_after moment (after_frames moment t a) b
unfolding after_frames
told-append moment t [] b = refl
told-append moment t (f ∷ a) b =
    ap (then_outcomes (after_frame moment t f)) (told-append moment (after_frame moment t f).conversation a b)
    ∙ ap (λ (l : List Event). record { conversation = (after_frames moment (after_frames moment (after_frame moment t f).conversation a).conversation b).conversation; events = l })
    (sym (append_assoc (option_to_list (after_frame moment t f).event) (after_frames moment (after_frame moment t f).conversation a).events (after_frames moment (after_frames moment (after_frame moment t f).conversation a).conversation b).events))

-- one more frame
abbrev pub told_then : Outcomes → Outcome → Outcomes
told_then first next = record { conversation = next.conversation; events = first.events ++ option_to_list next.event }

pub told-push : (moment : ℕ) (t : Conversation) (a : List Frame) (f : Frame) → after_frames moment t (a ++ f ∷ []) ≡ told_then (after_frames moment t a) (after_frame moment (after_frames moment t a).conversation f)
unfolding after_frames
told-push moment t a f =
    told-append moment t a (f ∷ [])
    ∙ ap (λ (l : List Event). record { conversation = (after_frame moment (after_frames moment t a).conversation f).conversation; events = (after_frames moment t a).events ++ l })
    (append-nil (option_to_list (after_frame moment (after_frames moment t a).conversation f).event))

pub still_due-push : (due : Bool) (frames : List Frame) (f : Frame) → still_due due (frames ++ f ∷ []) ≡ false
still_due-push due [] f = refl
still_due-push due (g ∷ frames) f = refl

-- ---- whole streams

rest_at : (stage : Stage) (told : Outcomes) (rest : List ℕ) → after_end_at stage told (Ok rest) ≡ told
rest_at Opening told rest = refl
rest_at Running told rest = refl
rest_at Over told rest = refl

over_told : (stage : Stage) (told : Outcomes) (end : Result (List ℕ) FrameFault) → stage ≡ Over → after_end_at stage told end ≡ told
over_told Opening told end e = absurd cc
over_told Running told end e = absurd cc
over_told Over told end e = refl

fault_at : (stage : Stage) (told : Outcomes) (e : FrameFault) → stage ≢ Over → after_end_at stage told (Err e) ≡ record { conversation = over told.conversation; events = told.events ++ fault_events (session_fault e) }
fault_at Opening told e live = refl
fault_at Running told e live = refl
fault_at Over told e live = absurd (live refl)

abbrev end_of : Outcomes → Result (List ℕ) FrameFault → Outcomes
end_of told end = after_end_at told.conversation.stage told end

pub told_rest : (moment : ℕ) (t : Conversation) (frames : List Frame) (rest : List ℕ) → after_stream moment t (with_front frames (ended (Ok rest))) ≡ after_frames moment t frames
unfolding after_stream
told_rest moment t frames rest =
    ap (λ (l : List Frame). end_of (after_frames moment t l) (Ok rest)) (append-nil frames) ∙ rest_at (after_frames moment t frames).conversation.stage (after_frames moment t frames) rest

pub told_fault : (moment : ℕ) (t : Conversation) (frames : List Frame) (e : FrameFault) → (after_frames moment t frames).conversation.stage ≢ Over
    → after_stream moment t (with_front frames (ended (Err e))) ≡ record { conversation = over (after_frames moment t frames).conversation; events = (after_frames moment t frames).events ++ fault_events (session_fault e) }
unfolding after_stream
told_fault moment t frames e live =
    ap (λ (l : List Frame). end_of (after_frames moment t l) (Err e)) (append-nil frames) ∙ fault_at (after_frames moment t frames).conversation.stage (after_frames moment t frames) e live

-- frames after the end mean nothing
frames_closed : (moment : ℕ) (t : Conversation) (frames others : List Frame) → (after_frames moment t frames).conversation.stage ≡ Over → after_frames moment t (frames ++ others) ≡ after_frames moment t frames
frames_closed moment t frames others closed =
    let told = after_frames moment t frames in
    told-append moment t frames others
    ∙ ap (λ (later : Outcomes). record { conversation = later.conversation; events = told.events ++ later.events }) (told_over moment told.conversation others closed)
    ∙ ap (λ (l : List Event). record { conversation = told.conversation; events = l }) (append-nil told.events)

pub told_closed : (moment : ℕ) (t : Conversation) (frames : List Frame) (more : Stream) → (after_frames moment t frames).conversation.stage ≡ Over → after_stream moment t (with_front frames more) ≡ after_frames moment t frames
unfolding after_stream
told_closed moment t frames more closed =
    ap (λ (told : Outcomes). end_of told more.end) (frames_closed moment t frames more.frames closed)
    ∙ over_told (after_frames moment t frames).conversation.stage (after_frames moment t frames) more.end closed

-- ---- what a reader gave

pub not_memory : (e : FrameFault) (f : SessionFault) → session_fault e ≡ Some f → e ≢ OutOfMemory
not_memory e f is memory = let none = ap session_fault memory in cc

-- the frames that the reader gave were received, and what it has yet to give is the rest of the stream
pub record IsReceived (moment : ℕ) (old new : State) (t u : Conversation) (before after : List Event) : Type 0 where
  pub frames : List Frame
  pub given : (more : List ℕ) → remaining (fed old more) ≡ with_front frames (remaining (fed new more))
  pub conversation : u ≡ (after_frames moment t frames).conversation
  pub events : after ≡ before ++ (after_frames moment t frames).events
  pub due : new.hello ≡ still_due old.hello frames
  pub leaves : Leaves old.hello old.rest frames new.rest
  pub sound : new.fault ≡ None

leaves-push : (due : Bool) (bytes : List ℕ) (frames : List Frame) (mid : List ℕ) (f : Frame) (left : List ℕ) → Leaves due bytes frames mid → Begins (still_due due frames) mid f left → Leaves due bytes (frames ++ f ∷ []) left
leaves-push due bytes [] mid f left h b = (left, subst (λ (l : List ℕ). Begins due l f left) (sym h) b, refl)
leaves-push due bytes (g ∷ frames) mid f left h b =
    (h.0, h.1, leaves-push false h.0 frames mid f left h.2 (subst (λ (d : Bool). Begins d mid f left) (sym (still_due_false frames)) b))

-- a fault that a reader gives is shown by its bytes
fresh : (old new : State) (e : FrameFault) → old.fault ≡ None → GivesFault old e new → Shows old.hello old.rest e
fresh old new e sound (inl before) = let is = sym sound ∙ before.0 in absurd cc
fresh old new e sound (inr shown) = shown.1

shown_by : (old new : State) (e : FrameFault) → old.fault ≡ None → e ≢ OutOfMemory → Gives old (Some (Err e)) new → Shows old.hello old.rest e
shown_by old new e sound not gives = fresh old new e sound (gives_fault old new e gives not)

module _ (moment : ℕ) (old : State) (t : Conversation) (before : List Event) where
  pub begins : old.fault ≡ None → IsReceived moment old old t t before before
  unfolding after_frames
  begins sound = record {
    frames = [];
    given = λ more. refl;
    conversation = refl;
    events = sym (append-nil before);
    due = refl;
    leaves = refl;
    sound = sound;
  }

  module _ (new next : State) (u v : Conversation) (after now : List Event) (f : Frame) (event : Option Event) where
    given_more : (h : IsReceived moment old new t u before after) → Gives new (Some (Ok f)) next → (more : List ℕ) → remaining (fed old more) ≡ with_front (h.frames ++ f ∷ []) (remaining (fed next more))
    given_more h gives more = h.given more ∙ ap (with_front h.frames) (given_frame new next f more gives) ∙ sym (front_push h.frames f (remaining (fed next more)))

    more_told : (h : IsReceived moment old new t u before after) → record { conversation = v; event = event } ≡ after_frame moment u f → after_frames moment t (h.frames ++ f ∷ []) ≡ record { conversation = v; events = (after_frames moment t h.frames).events ++ option_to_list event }
    more_told h meets =
        told-push moment t h.frames f
        ∙ ap (λ (w : Conversation). told_then (after_frames moment t h.frames) (after_frame moment w f)) (sym h.conversation)
        ∙ ap (told_then (after_frames moment t h.frames)) (sym meets)

    next_leaves : (h : IsReceived moment old new t u before after) → Gives new (Some (Ok f)) next → Leaves old.hello old.rest (h.frames ++ f ∷ []) next.rest
    next_leaves h gives = leaves-push old.hello old.rest h.frames new.rest f next.rest h.leaves (subst (λ (d : Bool). Begins d new.rest f next.rest) h.due gives.1)

    -- one more frame was received
    pub goes_on : IsReceived moment old new t u before after → Gives new (Some (Ok f)) next → record { conversation = v; event = event } ≡ after_frame moment u f → now ≡ after ++ option_to_list event
        → IsReceived moment old next t v before now
    goes_on h gives meets pushed = record {
      frames = h.frames ++ f ∷ [];
      given = given_more h gives;
      conversation = ap (λ (told : Outcomes). told.conversation) (sym (more_told h meets));
      events = pushed ∙ ap (λ (l : List Event). l ++ option_to_list event) h.events
          ∙ append_assoc before (after_frames moment t h.frames).events (option_to_list event)
          ∙ ap (λ (told : Outcomes). before ++ told.events) (sym (more_told h meets));
      due = gives.2 ∙ sym (still_due-push old.hello h.frames f);
      leaves = next_leaves h gives;
      sound = gives.3;
    }

    -- it was received, and then memory was out
    pub cut_more : (e : Event) → IsReceived moment old new t u before after → Gives new (Some (Ok f)) next → record { conversation = v; event = event } ≡ after_frame moment u f → event ≡ Some e → IsCutShort moment old.hello old.rest t v
    cut_more e h gives meets some = record {
      frames = h.frames ++ f ∷ [];
      left = next.rest;
      leaves = next_leaves h gives;
      needs = inr (inl (record {
        before = h.frames;
        last = f;
        split = refl;
        event = λ none. let is = ap (λ (m : Outcome). m.event) meets ∙ ap (λ (w : Conversation). (after_frame moment w f).event) h.conversation in cc;
      }));
      conversation = ap (λ (told : Outcomes). over told.conversation) (sym (more_told h meets));
    }

  module _ (new : State) (u : Conversation) (after : List Event) where
    live_after : (h : IsReceived moment old new t u before after) → u.stage ≢ Over → (after_frames moment t h.frames).conversation.stage ≢ Over
    live_after h live = λ closed. live (ap (λ (w : Conversation). w.stage) h.conversation ∙ closed)

    -- it was out at the event of a fault
    pub cut_fault : (next : State) (e : FrameFault) → IsReceived moment old new t u before after → u.stage ≢ Over → Gives new (Some (Err e)) next → e ≢ OutOfMemory → IsCutShort moment old.hello old.rest t (over u)
    cut_fault next e h live gives not = record {
      frames = h.frames;
      left = new.rest;
      leaves = h.leaves;
      needs = inr (inr (record { live = live_after h live; next = inr (e, subst (λ (d : Bool). Shows d new.rest e) h.due (shown_by new next e h.sound not gives)) }));
      conversation = ap over h.conversation;
    }

    whole : (h : IsReceived moment old new t u before after) (more : Stream) → remaining (fed new []) ≡ more → remaining (fed old []) ≡ with_front h.frames more
    whole h more e = h.given [] ∙ ap (with_front h.frames) e

    told_is : (h : IsReceived moment old new t u before after) (more : Stream) (told : Outcomes) → remaining (fed new []) ≡ more → after_stream moment t (with_front h.frames more) ≡ told → after_stream moment t (remaining (fed old [])) ≡ told
    told_is h more told e is = ap (after_stream moment t) (whole h more e) ∙ is

    -- the session was closed by a message
    pub reads_over : IsReceived moment old new t u before after → u.stage ≡ Over → IsRead moment old.hello (remaining (fed old [])) t u before after new
    reads_over h closed =
        let more = remaining (fed new []) in
        let told = told_is h more (after_frames moment t h.frames) refl (told_closed moment t h.frames more (ap (λ (w : Conversation). w.stage) (sym h.conversation) ∙ closed)) in
        record {
          conversation = h.conversation ∙ ap (λ (x : Outcomes). x.conversation) (sym told);
          events = h.events ∙ ap (λ (x : Outcomes). before ++ x.events) (sym told);
          goes_on = λ live. absurd (live closed);
        }

    module _ (next : State) where
      -- no more frames are there
      pub reads_none : IsReceived moment old new t u before after → Gives new None next → IsRead moment old.hello (remaining (fed old [])) t u before after next
      reads_none h gives =
          let end = given_none new next gives in
          let told = told_is h (ended (Ok new.rest)) (after_frames moment t h.frames) end (told_rest moment t h.frames new.rest) in
          let all = whole h (ended (Ok new.rest)) end in
          record {
            conversation = h.conversation ∙ ap (λ (x : Outcomes). x.conversation) (sym told);
            events = h.events ∙ ap (λ (x : Outcomes). before ++ x.events) (sym told);
            goes_on = λ live. record {
              drained = record {
                fault = ap (λ (r : State). r.fault) gives.2 ∙ gives.0;
                nothing = subst (λ (r : State). remaining (fed r []) ≡ ended (Ok r.rest)) (sym gives.2) end;
              };
              end = ap (λ (s : Stream). s.end) all ∙ ap (λ (r : State). Ok r.rest) (sym gives.2);
              due_is = ap (λ (r : State). r.hello) gives.2 ∙ h.due ∙ ap (still_due old.hello) (sym (append-nil h.frames))
                  ∙ ap (λ (s : Stream). still_due old.hello s.frames) (sym all);
            };
          }

      -- the stream shows a fault
      pub reads_fault : (e : FrameFault) (f : SessionFault) (now : List Event) → IsReceived moment old new t u before after → u.stage ≢ Over → Gives new (Some (Err e)) next → session_fault e ≡ Some f → now ≡ after ++ Ended f ∷ []
          → IsRead moment old.hello (remaining (fed old [])) t (over u) before now next
      reads_fault e f now h live gives is pushed =
          let not = not_memory e f is in
          let fault = given_fault new next e [] gives not in
          let end = sym fault.0 ∙ fault.1 in
          let told = told_is h (ended (Err e)) _ end (told_fault moment t h.frames e (live_after h live)) in
          record {
            conversation = ap over h.conversation ∙ ap (λ (x : Outcomes). x.conversation) (sym told);
            events = pushed ∙ ap (λ (o : Option SessionFault). after ++ fault_events o) (sym is) ∙ ap (λ (l : List Event). l ++ fault_events (session_fault e)) h.events
                ∙ append_assoc before (after_frames moment t h.frames).events (fault_events (session_fault e))
                ∙ ap (λ (x : Outcomes). before ++ x.events) (sym told);
            goes_on = λ never. absurd (never refl);
          }

-- nothing was fed yet
pub start_drained : (due : Bool) → IsDrained (start due)
start_drained due = record {
  fault = refl;
  nothing = stream_more due [] (empty_more due);
}

-- ---- lists of events, and results

pub pushed_some : (l now : List Event) (e : Event) (o : Option Event) → now ≡ l ++ e ∷ [] → o ≡ Some e → now ≡ l ++ option_to_list o
pushed_some l now e o is some = is ∙ ap (λ (x : Option Event). l ++ option_to_list x) (sym some)

pub pushed_none : (l now : List Event) (o : Option Event) → now ≡ l → o ≡ None → now ≡ l ++ option_to_list o
pushed_none l now o is none = is ∙ sym (append-nil l) ∙ ap (λ (x : Option Event). l ++ option_to_list x) (sym none)

pub on_err : {T E : Type 0} (r : Result T E) (P : Type 0) → P → OnErr r P
on_err (Ok x) P p = tt
on_err (Err e) P p = p

-- memory was out before the first frame
pub cut_first : (moment : ℕ) (due : Bool) (bytes : List ℕ) (t : Conversation) → IsCutShort moment due bytes t t
unfolding after_frames
cut_first moment due bytes t = record { frames = []; left = bytes; leaves = refl; needs = inl refl; conversation = refl }
