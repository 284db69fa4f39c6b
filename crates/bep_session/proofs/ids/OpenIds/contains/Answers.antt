use Rattle.std.proofs.Common.{◌≡◌, ◌≢◌, ℕ, to_z, of_z, w32, sym, ap, ◌∙◌, rules}
use Rattle.bep_session.specs.Ids.{is_open}
use Rattle.bep_session.proofs.LowIds.{bit_tells, holds, set_tells}
use Rattle.bep_session.proofs.ids.OpenIds.contains.Goals as goal

pub returns-in-Some : goal.returns-in-Some
returns-in-Some c =
    let back : to_z w32 (of_z w32 c.args.id) ≡ c.args.id = search rules in
    let shown = holds c.self.inside.low c.self.inside.above.keys c.self.inside.len c.args.self.now c.self.invariant c.self.view_is in
    let at = c.in-Some.ensures.place in
    c.is_set.ensures
    ∙ sym (bit_tells c.self.inside.low c.self.inside.above.keys c.self.inside.len c.args.self.now shown c.in-Some.k at.0)
    ∙ ap (is_open c.args.self.now) (sym at.1 ∙ back)

pub returns-in-None : goal.returns-in-None
returns-in-None c =
    let back : to_z w32 (of_z w32 c.args.id) ≡ c.args.id = search rules in
    let shown = holds c.self.inside.low c.self.inside.above.keys c.self.inside.len c.args.self.now c.self.invariant c.self.view_is in
    c.contains.ensures
    ∙ ap (is_open c.self.inside.above.keys) back
    ∙ sym (set_tells c.self.inside.low c.self.inside.above.keys c.self.inside.len c.args.self.now shown c.args.id (λ k lt e. c.in-None.ensures.none k lt (back ∙ e)))
