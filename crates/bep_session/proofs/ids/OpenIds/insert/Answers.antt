use Rattle.std.proofs.Common.{◌≡◌, ◌≢◌, ℕ, ◌+◌, ◌<◌, pos, to_z, of_z, w32, sym, ap, subst, ◌∙◌, rules}
use Rattle.bep_session.specs.declared.ids.OpenIds.TheInside.{Inside}
use Rattle.bep_session.specs.Ids.{opened}
use Rattle.bep_session.proofs.LowIds.{Holds, holds, kept, no_low, put_above, put_low}
use Rattle.bep_session.proofs.ids.OpenIds.insert.Goals as goal
use Rattle.bep_session.proofs.ids.OpenIds.insert.Goals.{in-Some, in-None+else-is_err}

pub returns-then-is_err-clause-above : goal.returns-then-is_err-clause-above
returns-then-is_err-clause-above c =
    let back : to_z w32 (of_z w32 c.args.id) ≡ c.args.id = search rules in
    no_low c.args.id c.requires.positive (λ k lt e. c.in-None.ensures.none k lt (back ∙ e))

stepped : (c : goal.After-self-1) → Holds c.match-low_place.self-inside.low c.match-low_place.self-inside.above.keys (c.match-low_place.self-inside.len + 1) (opened c.args.self.now c.args.id)
stepped c =
    let back : to_z w32 (of_z w32 c.args.id) ≡ c.args.id = search rules in
    let before = holds c.self.inside.low c.self.inside.above.keys c.self.inside.len c.args.self.now c.self.invariant c.self.view_is in
    elim c.match-low_place.branch [
      | in-Some w ↦
          let at = w.in-Some.ensures.place in
          subst (λ (s : Inside). Holds s.low s.above.keys (s.len + 1) (opened c.args.self.now c.args.id)) (sym w.self-inside-is)
          (put_low c.self.inside.low c.self.inside.above.keys c.self.inside.len c.args.self.now before w.set.new.words w.in-Some.k c.args.id at.0 (sym back ∙ at.1) c.requires.free w.set.ensures.here w.set.ensures.others)
      | in-None+else-is_err w ↦
          let keys : w.insert.new.self.keys ≡ opened c.self.inside.above.keys (to_z w32 (of_z w32 c.args.id)) = search rules in
          subst (λ (s : Inside). Holds s.low s.above.keys (s.len + 1) (opened c.args.self.now c.args.id)) (sym w.self-inside-is)
          (subst (λ (l : _). Holds c.self.inside.low l (c.self.inside.len + 1) (opened c.args.self.now c.args.id)) (sym (keys ∙ ap (opened c.self.inside.above.keys) back))
          (put_above c.self.inside.low c.self.inside.above.keys c.self.inside.len c.args.self.now before c.args.id c.requires.positive (λ k lt e. w.in-None.ensures.none k lt (back ∙ e)) c.requires.free))
    ]

pub invariant_of-self-2 : goal.invariant_of-self-2
invariant_of-self-2 c = kept _ _ _ _ (stepped c)

pub returns-clause-ok : goal.returns-clause-ok
returns-clause-ok c = (stepped c).shows
