use Rattle.sync_version.proofs.Walks.{merge_walked}
use Rattle.sync_version.proofs.Lemmas.{merge_is}
use Rattle.sync_version.proofs.version.merged.Goals as goal

pub returns-clause-value : goal.returns-clause-value
returns-clause-value c =
    let walk = c.args.walk in
    merge_walked walk.ours.now walk.theirs.now _ _ _ walk.ours_canonical walk.theirs_canonical c.loop-step.invariant.0 c.loop-step.invariant.1 c.in-None.ensures.steps.0

pub invariant_of-result : goal.invariant_of-result
invariant_of-result c =
    let walk = c.args.walk in
    rw (returns-clause-value c) ((merge_is walk.ours.now walk.theirs.now walk.ours_canonical walk.theirs_canonical).canonical)
