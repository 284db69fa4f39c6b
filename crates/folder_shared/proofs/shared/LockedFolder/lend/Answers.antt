use Rattle.std.proofs.Common.{refl, subst}
use Rattle.crossbeam_channel.specs.Claims.{IsSeatAt}
use Rattle.folder_shared.proofs.Calls.{given-held}
use Rattle.folder_shared.proofs.shared.LockedFolder.lend.Goals as goal

pub returns-clause-given : goal.returns-clause-given
returns-clause-given g c =
    given-held c.args.self.now c.args.pass.now (record { number = c.args.pass.now.number; seen = c.args.pass.now.seen; token = c.take.new.token }) c.take.result c.requires
    (record { number = refl; seen = refl; seat = subst (λ ends. IsSeatAt ends c.take.new.token) c.args.self.now.one c.take.ensures.seat; taken = c.take.ensures.taken })
