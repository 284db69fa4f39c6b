use Rattle.std.proofs.Common.{◌≡◌, ◌+◌, ◌≤◌, ◌<◌, ℕ, ℤ, pos, ◌+ℤ◌, List, length, IsNone, to_z, of_z, w32, refl, sym, ap, subst, ◌∙◌, arith}
use Rattle.std.proofs.lemmas.Int.{ints}
use Rattle.bep_session.specs.Ids.{IsLeastFree, is_one, max_asks, opened}
use Rattle.bep_session.proofs.Asks.{all_open, least}
use Rattle.bep_session.proofs.LowIds.{Holds, bit_tells, holds, kept, put_low}
use Rattle.bep_session.proofs.ids.OpenIds.open_least.Goals as goal

pub returns-in_err-k-clause-none : goal.returns-in_err-k-clause-none
returns-in_err-k-clause-none c =
    let before = holds c.self.inside.low c.self.inside.above.keys c.self.inside.len c.args.self.now c.self.invariant c.self.view_is in
    let many : max_asks ≤ length c.args.self.now = all_open c.args.self.now c.self.inside.low (bit_tells c.self.inside.low c.self.inside.above.keys c.self.inside.len c.args.self.now before) c.in_err-k.ensures.none in
    (λ none. many, λ le. subst IsNone (sym c.from_residual.ensures) refl)

stepped : (c : goal.After-self-1) → Holds c.set.new.words c.self.inside.above.keys (c.self.inside.len + 1) (opened c.args.self.now (pos (c.in_ok-k.k + 1)))
stepped c =
    let before = holds c.self.inside.low c.self.inside.above.keys c.self.inside.len c.args.self.now c.self.invariant c.self.view_is in
    let found = c.in_ok-k.ensures in
    put_low c.self.inside.low c.self.inside.above.keys c.self.inside.len c.args.self.now before c.set.new.words c.in_ok-k.k (pos (c.in_ok-k.k + 1)) found.within refl
    (bit_tells c.self.inside.low c.self.inside.above.keys c.self.inside.len c.args.self.now before c.in_ok-k.k found.within ∙ ap is_one found.zero) c.set.ensures.here c.set.ensures.others

pub invariant_of-self : goal.invariant_of-self
invariant_of-self c = kept _ _ _ _ (stepped c)

pub returns-clause-least : goal.returns-clause-least
returns-clause-least c =
    let before = holds c.self.inside.low c.self.inside.above.keys c.self.inside.len c.args.self.now c.self.invariant c.self.view_is in
    let found = c.in_ok-k.ensures in
    let within : c.in_ok-k.k < 1024 = found.within in
    let id : to_z w32 (of_z w32 (to_z w32 c.in_ok-k.k +ℤ pos 1)) ≡ pos (c.in_ok-k.k + 1) = omega (arith, ints) in
    subst (IsLeastFree c.args.self.now) (sym id)
    (least c.args.self.now c.self.inside.low c.in_ok-k.k (bit_tells c.self.inside.low c.self.inside.above.keys c.self.inside.len c.args.self.now before) found.within found.zero found.first)

pub returns-clause-opened : goal.returns-clause-opened
returns-clause-opened c =
    let found = c.in_ok-k.ensures in
    let within : c.in_ok-k.k < 1024 = found.within in
    let id : to_z w32 (of_z w32 (to_z w32 c.in_ok-k.k +ℤ pos 1)) ≡ pos (c.in_ok-k.k + 1) = omega (arith, ints) in
    (stepped c).shows ∙ ap (opened c.args.self.now) (sym id)
