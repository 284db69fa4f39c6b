use Rattle.std.proofs.Common.{refl}
use Rattle.bepd_pair.proofs.scans.scan_peer.Goals as goal

pub returns : goal.returns
returns g c = record { scans = c.scan_all.ensures.scans; kept = c.scan_all.ensures.kept refl; others = refl }
