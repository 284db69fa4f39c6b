use Rattle.std.proofs.Common.{false, ◌≡◌, ◌≢◌, [], List, ℕ, sym, ap, subst, ◌∙◌, rules}
use Rattle.std.proofs.lemmas.List.{nil_from_length}
use Rattle.bep_frames.specs.State.{State}
use Rattle.bep_session.specs.declared.conversation.Stage.TheVariants.{Over}
use Rattle.bep_session.specs.declared.conversation.Conversation.{Conversation}
use Rattle.bep_session.specs.Progress.{IsDrained}
use Rattle.bep_session.specs.Events.{over}
use Rattle.bep_session.specs.Sessions.{Fed, RunsOutOfMemory, View, ended_view, fed}
use Rattle.bep_session.proofs.Feeds.{cut_short, fed_over, nothing_fed, read_events, read_on, read_over, view_of}
use Rattle.bep_session.proofs.Outcomes.{start_drained}
use Rattle.bep_session.proofs.session.Session.feed.Goals as goal
use Rattle.bep_session.proofs.session.Session.feed.Goals.{then-eq-2, else-eq-2, then-eq-via-then-eq, then-eq-via-else-eq+then-is_empty}

pub invariant_of-self : goal.invariant_of-self
invariant_of-self c = subst IsDrained (sym c.after_hello.ensures) (start_drained false)

pub invariant_of-self-then-eq-2 : goal.invariant_of-self-then-eq-2
invariant_of-self-then-eq-2 c = subst IsDrained (sym c.after_hello-then-eq-2.ensures) (start_drained false)

-- nothing is fed: the session has ended, or there are no bytes
over_fed : (v u : View) (piece : List ℕ) (moment : ℕ) → v ≡ u → v.conversation.stage ≡ Over → fed u piece moment ≡ record { session = u; events = [] }
over_fed v u piece moment e closed = fed_over u piece moment (ap (λ (w : View). w.conversation.stage) (sym e) ∙ closed)

empty_fed : (reader : State) (t : Conversation) (u : View) (piece : List ℕ) (moment : ℕ) → view_of reader t ≡ u → IsDrained reader → piece ≡ [] → fed u piece moment ≡ record { session = u; events = [] }
empty_fed reader t u piece moment e drained none =
    ap (λ (l : List ℕ). fed u l moment) none
    ∙ subst (λ (v : View). fed v [] moment ≡ record { session = v; events = [] }) e (nothing_fed reader t moment drained)

pub returns-then-eq-clause-events : goal.returns-then-eq-clause-events
returns-then-eq-clause-events c =
    let nothing : fed c.args.self.now c.args.piece.now c.args.moment ≡ record { session = c.args.self.now; events = [] } = elim c.then-eq.branch [
      | then-eq-via-then-eq w ↦ over_fed _ c.args.self.now c.args.piece.now c.args.moment c.self.view_is (search rules)
      | then-eq-via-else-eq+then-is_empty w ↦ empty_fed c.self.inside.reader c.self.inside.conversation c.args.self.now c.args.piece.now c.args.moment c.self.view_is c.self.invariant (nil_from_length c.args.piece.now (search rules))
    ] in
    c.new-events.ensures.items ∙ ap (λ (f : Fed). f.events) (sym nothing)

pub returns-then-eq-clause-session : goal.returns-then-eq-clause-session
returns-then-eq-clause-session c =
    let nothing : fed c.args.self.now c.args.piece.now c.args.moment ≡ record { session = c.args.self.now; events = [] } = elim c.then-eq.branch [
      | then-eq-via-then-eq w ↦ over_fed _ c.args.self.now c.args.piece.now c.args.moment c.self.view_is (search rules)
      | then-eq-via-else-eq+then-is_empty w ↦ empty_fed c.self.inside.reader c.self.inside.conversation c.args.self.now c.args.piece.now c.args.moment c.self.view_is c.self.invariant (nil_from_length c.args.piece.now (search rules))
    ] in
    ap (λ (f : Fed). f.session) (sym nothing)

pub returns-clause-events : goal.returns-clause-events
returns-clause-events c =
    let live : c.self.inside.conversation.stage ≢ Over = search rules in
    read_events c.self.inside.reader c.take_piece.new.reader c.self.inside.conversation c.take_piece.new.conversation c.args.piece.now c.args.moment
    c.new-events.result.items c.take_piece.new.events.items c.self.invariant live c.new-events.ensures.items c.in_default.ensures.ok
    ∙ ap (λ (v : View). (fed v c.args.piece.now c.args.moment).events) c.self.view_is

pub returns-clause-session : goal.returns-clause-session
returns-clause-session c =
    let live : c.self.inside.conversation.stage ≢ Over = search rules in
    let now = ap (λ (v : View). (fed v c.args.piece.now c.args.moment).session) c.self.view_is in
    elim c.if-eq-2.branch [
      | then-eq-2 w ↦
          let closed : c.take_piece.new.conversation.stage ≡ Over = search rules in
          w.self-is
          ∙ ap (λ (r : State). view_of r c.take_piece.new.conversation) w.after_hello-then-eq-2.ensures
          ∙ read_over c.self.inside.reader c.take_piece.new.reader c.self.inside.conversation c.take_piece.new.conversation c.args.piece.now c.args.moment
          c.new-events.result.items c.take_piece.new.events.items c.self.invariant live c.in_default.ensures.ok closed
          ∙ now
      | else-eq-2 w ↦
          let on : c.take_piece.new.conversation.stage ≢ Over = search rules in
          w.self-is
          ∙ read_on c.self.inside.reader c.take_piece.new.reader c.self.inside.conversation c.take_piece.new.conversation c.args.piece.now c.args.moment
          c.new-events.result.items c.take_piece.new.events.items c.self.invariant live c.in_default.ensures.ok on
          ∙ now
    ]

pub returns-in-Err-clause-err : goal.returns-in-Err-clause-err
returns-in-Err-clause-err c =
    let live : c.self.inside.conversation.stage ≢ Over = search rules in
    let stops = cut_short c.self.inside.reader c.take_piece.new.reader c.self.inside.conversation c.take_piece.new.conversation c.args.piece.now c.args.moment
    c.new-events.result.items c.take_piece.new.events.items c.self.invariant live c.in-Err.ensures.err in
    subst (λ (r : State). RunsOutOfMemory c.args.self.now c.args.piece.now c.args.moment (view_of r (over c.take_piece.new.conversation))) (sym c.after_hello.ensures)
    (subst (λ (v : View). RunsOutOfMemory v c.args.piece.now c.args.moment (ended_view (over c.take_piece.new.conversation))) c.self.view_is stops)
