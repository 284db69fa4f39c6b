use Rattle.std.proofs.Common.{◌≡◌, subst, sym}
use Rattle.std.proofs.lemmas.Result.{IfOk-weaker}
use Rattle.sync_version.specs.Versions.{IsCanonical, IsMergeOf}
use Rattle.sync_version.specs.Computed.{merge}
use Rattle.sync_version.proofs.Lemmas.{merge_is}
use Rattle.sync_version.proofs.version.Version.merge.Goals as goal

pub returns-clause-value : goal.returns-clause-value
returns-clause-value c = rw (← c.beside.ensures.ours, ← c.beside.ensures.theirs) c.merged.ensures.value

pub returns-clause-greatest : goal.returns-clause-greatest
returns-clause-greatest c =
    let ours : IsCanonical c.args.self.now = rw (← c.beside.ensures.ours) c.beside.result.ours_canonical in
    let theirs : IsCanonical c.args.other.now = rw (← c.beside.ensures.theirs) c.beside.result.theirs_canonical in
    IfOk-weaker c.merged.result (λ v. v ≡ merge c.args.self.now c.args.other.now) (λ v. IsMergeOf c.args.self.now c.args.other.now v)
    (λ v e. subst (IsMergeOf c.args.self.now c.args.other.now) (sym e) (merge_is c.args.self.now c.args.other.now ours theirs)) (returns-clause-value c)
