use Rattle.std.proofs.Common.{◌∙◌}
use Rattle.sync_version.specs.Versions.{IsCanonical}
use Rattle.sync_version.proofs.Walks.{relation_walked}
use Rattle.sync_version.proofs.Lemmas.{relation_holds}
use Rattle.sync_version.proofs.version.Version.relation.Goals as goal

pub returns-clause-value : goal.returns-clause-value
returns-clause-value c =
    let ours : IsCanonical c.args.self.now = rw (← c.beside-step-items.ensures.ours) c.beside-step-items.result.ours_canonical in
    let theirs : IsCanonical c.args.other.now = rw (← c.beside-step-items.ensures.theirs) c.beside-step-items.result.theirs_canonical in
    c.by_covering.ensures ∙ relation_walked c.args.self.now c.args.other.now _ _ _ _ ours theirs
    c.loop-step.invariant.0 c.loop-step.invariant.1 c.loop-step.invariant.2 c.in-None.ensures.steps.0

pub returns-clause-holds : goal.returns-clause-holds
returns-clause-holds c =
    let ours : IsCanonical c.args.self.now = rw (← c.beside-step-items.ensures.ours) c.beside-step-items.result.ours_canonical in
    let theirs : IsCanonical c.args.other.now = rw (← c.beside-step-items.ensures.theirs) c.beside-step-items.result.theirs_canonical in
    rw (returns-clause-value c) (relation_holds c.args.self.now c.args.other.now ours theirs)
