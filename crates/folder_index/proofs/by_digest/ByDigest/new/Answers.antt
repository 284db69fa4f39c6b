use Rattle.std.proofs.Common.{List, ap}
use Rattle.std.specs.FinSet.{from_list}
use Rattle.folder_index.specs.Digests.{Spot, spot_cmp}
use Rattle.folder_index.proofs.by_digest.ByDigest.new.Goals as goal

pub returns : goal.returns
returns c = ap (λ (ks : List Spot). from_list {R = spot_cmp} ks) c.new.ensures.empty
