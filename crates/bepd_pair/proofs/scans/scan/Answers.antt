use Rattle.std.proofs.Common.{ap, subst}
use Rattle.bepd_pair.specs.declared.peer.Peer.{Peer}
use Rattle.bepd_pair.specs.Scans.{TellsSum}
use Rattle.bepd_pair.proofs.scans.scan.Goals as goal

pub returns : goal.returns
returns g c =
    let sum = c.scan_peer-sum.result in (
      sum,
      c.scan_peer-sum.ensures,
      subst (λ side. TellsSum side sum c.args.lines.now.items c.tell_sum.result c.tell_sum.new.lines.items) (ap (λ (p : Peer). p.side) c.scan_peer-sum.ensures.others) c.tell_sum.ensures,
    )
