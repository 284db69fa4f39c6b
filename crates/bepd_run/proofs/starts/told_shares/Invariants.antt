use Rattle.std.proofs.Common.{◌≡◌, take}
use Rattle.std.specs.Prelude.{map}
use Rattle.bepd_run.specs.Starts.{told}
use Rattle.bepd_run.proofs.starts.told_shares.Given as goal

abbrev pub invariant-loop-share : goal.invariant-loop-share
invariant-loop-share l = l.all.items ≡ map told (take l.share-index l.shares)
