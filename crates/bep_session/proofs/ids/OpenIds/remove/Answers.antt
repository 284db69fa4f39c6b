use Rattle.std.proofs.Common.{◌≡◌, ◌≢◌, ℕ, ℤ, Bool, true, false, List, length, to_z, of_z, w32, sym, ap, subst, ◌∙◌, rules}
use Rattle.std.specs.Bool.{OnFalse}
use Rattle.bep_session.specs.declared.ids.OpenIds.TheInside.{Inside}
use Rattle.bep_session.specs.Ids.{closed, ids_of, is_open}
use Rattle.bep_session.proofs.LowIds.{Above, Holds, closed_absent, drop_above, drop_low, freed, holds, kept, not_freed}
use Rattle.bep_session.proofs.ids.OpenIds.remove.Goals as goal
use Rattle.bep_session.proofs.ids.OpenIds.remove.Goals.{in-Some, in-None}

-- what is left in the bits and the set
abbrev Rest : Inside → List ℤ → ℤ → Type 0
Rest s ids id = Above 1024 s.above.keys × (ids_of s.low s.above.keys ≡ closed ids id) × (s.len ≡ length ids)

abbrev Left : Bool → Inside → List ℤ → ℤ → Type 0
Left was s ids id = (was ≡ is_open ids id) × Rest s ids id

left_then : (c : goal.Then-was) → Left c.match-low_place.was c.match-low_place.self-inside c.args.self.now c.args.id
left_then c =
    let back : to_z w32 (of_z w32 c.args.id) ≡ c.args.id = search rules in
    let before = holds c.self.inside.low c.self.inside.above.keys c.self.inside.len c.args.self.now c.self.invariant c.self.view_is in
    elim c.match-low_place.branch [
      | in-Some w ↦
          let at = w.in-Some.ensures.place in
          let d = drop_low c.self.inside.low c.self.inside.above.keys c.self.inside.len c.args.self.now before w.clear.new.words w.in-Some.k c.args.id at.0 (sym back ∙ at.1) w.clear.ensures.here w.clear.ensures.others in
          let rest : Rest c.match-low_place.self-inside c.args.self.now c.args.id = subst (λ (s : Inside). Rest s c.args.self.now c.args.id) (sym w.self-inside-is) (d.1, d.2, before.counted) in
          (w.was-is ∙ w.is_set-was.ensures ∙ d.0, rest)
      | in-None w ↦
          let d = drop_above c.self.inside.low c.self.inside.above.keys c.self.inside.len c.args.self.now before c.args.id (λ k lt e. w.in-None.ensures.none k lt (back ∙ e)) in
          let keys : w.remove-was.new.self.keys ≡ closed c.self.inside.above.keys c.args.id = w.remove-was.ensures.keys ∙ ap (closed c.self.inside.above.keys) back in
          let now : Above 1024 w.remove-was.new.self.keys × (ids_of c.self.inside.low w.remove-was.new.self.keys ≡ closed c.args.self.now c.args.id) × (c.self.inside.len ≡ length c.args.self.now) =
          subst (λ (l : List ℤ). Above 1024 l × (ids_of c.self.inside.low l ≡ closed c.args.self.now c.args.id) × (c.self.inside.len ≡ length c.args.self.now)) (sym keys) (d.1, d.2, before.counted) in
          let rest : Rest c.match-low_place.self-inside c.args.self.now c.args.id = subst (λ (s : Inside). Rest s c.args.self.now c.args.id) (sym w.self-inside-is) now in
          (w.was-is ∙ w.remove-was.ensures.test ∙ ap (is_open c.self.inside.above.keys) back ∙ d.0, rest)
    ]

left_after : (c : goal.After-self-1) → Left c.match-low_place.was c.match-low_place.self-inside c.args.self.now c.args.id
left_after c =
    let back : to_z w32 (of_z w32 c.args.id) ≡ c.args.id = search rules in
    let before = holds c.self.inside.low c.self.inside.above.keys c.self.inside.len c.args.self.now c.self.invariant c.self.view_is in
    elim c.match-low_place.branch [
      | in-Some w ↦
          let at = w.in-Some.ensures.place in
          let d = drop_low c.self.inside.low c.self.inside.above.keys c.self.inside.len c.args.self.now before w.clear.new.words w.in-Some.k c.args.id at.0 (sym back ∙ at.1) w.clear.ensures.here w.clear.ensures.others in
          let rest : Rest c.match-low_place.self-inside c.args.self.now c.args.id = subst (λ (s : Inside). Rest s c.args.self.now c.args.id) (sym w.self-inside-is) (d.1, d.2, before.counted) in
          (w.was-is ∙ w.is_set-was.ensures ∙ d.0, rest)
      | in-None w ↦
          let d = drop_above c.self.inside.low c.self.inside.above.keys c.self.inside.len c.args.self.now before c.args.id (λ k lt e. w.in-None.ensures.none k lt (back ∙ e)) in
          let keys : w.remove-was.new.self.keys ≡ closed c.self.inside.above.keys c.args.id = w.remove-was.ensures.keys ∙ ap (closed c.self.inside.above.keys) back in
          let now : Above 1024 w.remove-was.new.self.keys × (ids_of c.self.inside.low w.remove-was.new.self.keys ≡ closed c.args.self.now c.args.id) × (c.self.inside.len ≡ length c.args.self.now) =
          subst (λ (l : List ℤ). Above 1024 l × (ids_of c.self.inside.low l ≡ closed c.args.self.now c.args.id) × (c.self.inside.len ≡ length c.args.self.now)) (sym keys) (d.1, d.2, before.counted) in
          let rest : Rest c.match-low_place.self-inside c.args.self.now c.args.id = subst (λ (s : Inside). Rest s c.args.self.now c.args.id) (sym w.self-inside-is) now in
          (w.was-is ∙ w.remove-was.ensures.test ∙ ap (is_open c.self.inside.above.keys) back ∙ d.0, rest)
    ]

left_else : (c : goal.Else-was) → Left c.match-low_place.was c.match-low_place.self-inside c.args.self.now c.args.id
left_else c =
    let back : to_z w32 (of_z w32 c.args.id) ≡ c.args.id = search rules in
    let before = holds c.self.inside.low c.self.inside.above.keys c.self.inside.len c.args.self.now c.self.invariant c.self.view_is in
    elim c.match-low_place.branch [
      | in-Some w ↦
          let at = w.in-Some.ensures.place in
          let d = drop_low c.self.inside.low c.self.inside.above.keys c.self.inside.len c.args.self.now before w.clear.new.words w.in-Some.k c.args.id at.0 (sym back ∙ at.1) w.clear.ensures.here w.clear.ensures.others in
          let rest : Rest c.match-low_place.self-inside c.args.self.now c.args.id = subst (λ (s : Inside). Rest s c.args.self.now c.args.id) (sym w.self-inside-is) (d.1, d.2, before.counted) in
          (w.was-is ∙ w.is_set-was.ensures ∙ d.0, rest)
      | in-None w ↦
          let d = drop_above c.self.inside.low c.self.inside.above.keys c.self.inside.len c.args.self.now before c.args.id (λ k lt e. w.in-None.ensures.none k lt (back ∙ e)) in
          let keys : w.remove-was.new.self.keys ≡ closed c.self.inside.above.keys c.args.id = w.remove-was.ensures.keys ∙ ap (closed c.self.inside.above.keys) back in
          let now : Above 1024 w.remove-was.new.self.keys × (ids_of c.self.inside.low w.remove-was.new.self.keys ≡ closed c.args.self.now c.args.id) × (c.self.inside.len ≡ length c.args.self.now) =
          subst (λ (l : List ℤ). Above 1024 l × (ids_of c.self.inside.low l ≡ closed c.args.self.now c.args.id) × (c.self.inside.len ≡ length c.args.self.now)) (sym keys) (d.1, d.2, before.counted) in
          let rest : Rest c.match-low_place.self-inside c.args.self.now c.args.id = subst (λ (s : Inside). Rest s c.args.self.now c.args.id) (sym w.self-inside-is) now in
          (w.was-is ∙ w.remove-was.ensures.test ∙ ap (is_open c.self.inside.above.keys) back ∙ d.0, rest)
    ]

pub overflow_sub-self : goal.overflow_sub-self
overflow_sub-self c = let l = left_then c in (freed c.match-low_place.self-inside.low c.match-low_place.self-inside.above.keys c.args.self.now c.match-low_place.self-inside.len c.args.id l.1.2 (sym l.0 ∙ c.if-was.true) l.1.0 l.1.1).0

pub invariant_of-self : goal.invariant_of-self
invariant_of-self c = let l = left_after c in kept _ _ _ _ (freed c.match-low_place.self-inside.low c.match-low_place.self-inside.above.keys c.args.self.now c.match-low_place.self-inside.len c.args.id l.1.2 (sym l.0 ∙ c.if-was.true) l.1.0 l.1.1).1

pub invariant_of-self-else-was : goal.invariant_of-self-else-was
invariant_of-self-else-was c = let l = left_else c in kept _ _ _ _ (not_freed c.match-low_place.self-inside.low c.match-low_place.self-inside.above.keys c.args.self.now c.match-low_place.self-inside.len c.args.id l.1.2 (sym l.0 ∙ c.if-was.false) l.1.0 l.1.1)

pub returns-then-was-clause-was : goal.returns-then-was-clause-was
returns-then-was-clause-was c = (left_after c).0

pub returns-then-was-clause-ids : goal.returns-then-was-clause-ids
returns-then-was-clause-ids c = (left_after c).1.1

pub returns-else-was-clause-was : goal.returns-else-was-clause-was
returns-else-was-clause-was c = (left_else c).0

pub returns-else-was-clause-ids : goal.returns-else-was-clause-ids
returns-else-was-clause-ids c = (left_else c).1.1

pub returns-else-was-clause-absent : goal.returns-else-was-clause-absent
returns-else-was-clause-absent c = let l = left_else c in
    let same : ids_of c.match-low_place.self-inside.low c.match-low_place.self-inside.above.keys ≡ c.args.self.now = l.1.1 ∙ closed_absent c.args.self.now c.args.id (sym l.0 ∙ c.if-was.false) in
    subst (λ (b : Bool). OnFalse b (ids_of c.match-low_place.self-inside.low c.match-low_place.self-inside.above.keys ≡ c.args.self.now)) (sym c.if-was.false) same
