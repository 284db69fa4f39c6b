use Rattle.std.proofs.Common.{◌≡◌, ℤ, to_z, of_z, w32, sym, ap, ◌∙◌, rules}
use Rattle.bep_session.specs.declared.event.Event.TheVariants.{Skipped}
use Rattle.bep_session.specs.Events.{after_live_frame, with_event}
use Rattle.bep_session.specs.declared.conversation.Stage.TheVariants.{Running}
use Rattle.bep_session.proofs.Meets.{met_live, met_ping}
use Rattle.bep_session.proofs.conversation.Conversation.receive.Goals as goal

pub returns-in-Hello : goal.returns-in-Hello
returns-in-Hello c =
    let t = c.args.self.now in
    met_live c.args.moment t c.args.frame _ c.requires (sym (ap (after_live_frame t.stage (record t { received = c.args.moment })) c.in-Hello.is))

pub returns-in-Message : goal.returns-in-Message
returns-in-Message c =
    let t = c.args.self.now in
    met_live c.args.moment t c.args.frame _ c.requires (c.receive_message.ensures ∙ sym (ap (after_live_frame t.stage (record t { received = c.args.moment })) c.in-Message.is))

pub returns-in-Unknown : goal.returns-in-Unknown
returns-in-Unknown c =
    let t = c.args.self.now in
    let back : to_z w32 (of_z w32 c.in-Unknown.kind) ≡ c.in-Unknown.kind = search rules in
    met_live c.args.moment t c.args.frame _ c.requires
    (ap (λ (kind : ℤ). with_event (record t { received = c.args.moment }) (Skipped kind)) back
    ∙ sym (ap (after_live_frame t.stage (record t { received = c.args.moment })) c.in-Unknown.is))

pub returns-then-is_ping : goal.returns-then-is_ping
returns-then-is_ping c =
    let t = c.args.self.now in
    let running : t.stage ≡ Running = search rules in
    met_ping c.args.moment t c.args.frame _ running (c.is_ping.ensures c.if-is_ping.true)
