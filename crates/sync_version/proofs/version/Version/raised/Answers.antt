use Rattle.std.proofs.Common.{arith}
use Rattle.std.proofs.lemmas.Grind.{common_steps}
use Rattle.sync_version.specs.Versions.{IsCanonical}
use Rattle.sync_version.proofs.Lemmas.{raised_is}
use Rattle.sync_version.proofs.version.Version.raised.Goals as goal

pub returns-clause-value : goal.returns-clause-value
returns-clause-value c = grind (arith, common_steps)

pub returns-clause-raises : goal.returns-clause-raises
returns-clause-raises c =
    let canonical : IsCanonical c.args.self.now = rw (← c.self.view_is) c.self.invariant in
    rw (returns-clause-value c) (raised_is c.args.self.now c.args.id c.args.moment canonical)
