use Rattle.std.proofs.Common.{◌≡◌, ℕ, ◌<◌, ℤ, List, pos, to_z, of_z, w32, length, true, false, sym, ap, subst, ◌∙◌, arith, rules}
use Rattle.std.specs.Int.Signed.{lt_z}
use Rattle.bep_session.specs.Ids.{can_book, is_open, max_asks, opened}
use Rattle.bep_session.specs.Sessions.{View, with_open}
use Rattle.bep_session.proofs.Asks.{bookable}
use Rattle.bep_session.proofs.Feeds.{view_of}
use Rattle.bep_session.proofs.Outcomes.{on_err}
use Rattle.bep_session.proofs.session.Session.book.Goals as goal

-- the id may be booked, as the tests show
fits : (v u : View) (id again : ℤ) (len : ℕ) → v ≡ u → again ≡ id → lt_z again (pos 1) ≡ false → len ≡ length v.conversation.asks → len < max_asks → false ≡ is_open v.conversation.asks again → can_book u.conversation.asks id ≡ true
fits v u id again len e same low counted room free =
    subst (λ (w : View). can_book w.conversation.asks id ≡ true) e
    (bookable v.conversation.asks id (ap (λ (i : ℤ). lt_z i (pos 1)) (sym same) ∙ low) (omega (arith, counted, room)) (sym (free ∙ ap (is_open v.conversation.asks) same)))

pub returns-in_err-insert-clause-only : goal.returns-in_err-insert-clause-only
returns-in_err-insert-clause-only c =
    let back : to_z w32 (of_z w32 c.args.id) ≡ c.args.id = search rules in
    on_err c.from_residual.result _ (fits _ c.args.self.now c.args.id _ c.len.result c.self.view_is back c.if-id-lt1.false c.len.ensures c.if-len-ge-MAX_ASKS.false c.if-contains.ensures)

pub returns-clause-booked : goal.returns-clause-booked
returns-clause-booked c =
    let back : to_z w32 (of_z w32 c.args.id) ≡ c.args.id = search rules in
    sym (fits _ c.args.self.now c.args.id _ c.len.result c.self.view_is back c.if-id-lt1.false c.len.ensures c.if-len-ge-MAX_ASKS.false c.if-contains.ensures)

pub returns-clause-opened : goal.returns-clause-opened
returns-clause-opened c =
    let back : to_z w32 (of_z w32 c.args.id) ≡ c.args.id = search rules in
    ap (λ (ids : List ℤ). view_of c.self.inside.reader (record c.self.inside.conversation { asks = ids })) (c.in_ok-insert.ensures.ok ∙ ap (opened c.self.inside.conversation.asks) back)
    ∙ ap (λ (v : View). with_open v c.args.id) c.self.view_is

pub returns-in_err-insert-clause-above : goal.returns-in_err-insert-clause-above
returns-in_err-insert-clause-above c =
    let back : to_z w32 (of_z w32 c.args.id) ≡ c.args.id = search rules in
    on_err c.from_residual.result _ (λ k le e. c.in_err-insert.ensures.above k le (back ∙ e))
