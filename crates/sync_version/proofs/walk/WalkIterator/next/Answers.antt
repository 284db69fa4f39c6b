use Rattle.std.proofs.Common.{◌∙◌, ap, length, arith}
use Rattle.sync_version.proofs.Walks.{step_at, first_is_ours, first_is_theirs, first_is_least, IsFirst}
use Rattle.sync_version.proofs.walk.WalkIterator.next.Goals as goal
use Rattle.sync_version.proofs.walk.WalkIterator.next.Goals.{in-None-Some, in-Some-None, in-Some-Some}

-- the id is the first of both lists, so what is left after it is the walk over what follows it
pub returns-clause-steps : goal.returns-clause-steps
returns-clause-steps c =
    let self = c.args.self.now in
    let first : IsFirst c.match-first.id self.ours.now self.theirs.now =
    elim c.match-first.branch [
      | in-None-Some w ↦ first_is_theirs _ _ _ _ self.theirs_canonical w.in-None-Some.ensures.value w.in-None-Some.ensures'.value w.id-is
      | in-Some-None w ↦ first_is_ours _ _ _ _ self.ours_canonical w.in-Some-None.ensures.value w.in-Some-None.ensures'.value w.id-is
      | in-Some-Some w ↦ first_is_least _ _ _ _ _ self.ours_canonical self.theirs_canonical w.in-Some-Some.ensures.value w.in-Some-Some.ensures'.value (w.id-is ∙ w.min-id.ensures)
    ] in
    rw (c.split_at_id-ours.ensures.value, c.split_at_id-theirs.ensures.value, c.split_at_id-ours.ensures.rest, c.split_at_id-theirs.ensures.rest)
    (step_at _ _ _ self.ours_canonical self.theirs_canonical first)

pub returns-clause-goes : goal.returns-clause-goes
returns-clause-goes c =
    let fewer = ap length (returns-clause-steps c) in
    record { on = λ _. (tt, tt, omega arith); keeps = tt; rests = λ _. tt }
