use Rattle.std.proofs.Common.{◌≡◌, to_z, of_z, w32, sym, ap, ◌∙◌, rules}
use Rattle.bep_session.specs.Ids.{closed, is_open}
use Rattle.bep_session.proofs.Meets.{answered_open, answered_unknown}
use Rattle.bep_session.proofs.conversation.Conversation.answer.Goals as goal

pub returns-then-remove : goal.returns-then-remove
returns-then-remove c =
    let id = c.args.response.id in
    let asks = c.args.self.now.asks in
    let back : to_z w32 (of_z w32 id) ≡ id = search rules in
    answered_open c.args.self.now c.args.response c.remove.new.self
    (sym (c.if-remove.ensures.was ∙ ap (is_open asks) back))
    (c.if-remove.ensures.ids ∙ ap (closed asks) back)

pub returns-else-remove : goal.returns-else-remove
returns-else-remove c =
    let id = c.args.response.id in
    let back : to_z w32 (of_z w32 id) ≡ id = search rules in
    answered_unknown c.args.self.now c.args.response c.remove.new.self _
    (sym (c.if-remove.ensures.was ∙ ap (is_open c.args.self.now.asks) back)) c.if-remove.ensures.absent back
