use Rattle.std.proofs.Common.{arith}
use Rattle.std.specs.Ordering.{is_lt}
use Rattle.std.proofs.lemmas.List.Sums.{prefix_len-le-length}
use Rattle.sync_record.specs.Devices.{bytes_cmp}
use Rattle.folder_core.specs.declared.plain.pull.OpenPull.{OpenPull}
use Rattle.folder_core.proofs.plain.pulls.open.Goals as goal

pub insert-requires : goal.insert-requires
insert-requires c =
    let least = prefix_len-le-length (λ (p : OpenPull). is_lt (bytes_cmp p.target.name c.name.result.now)) c.deref-2.result.now in
    omega (arith, least, c.position_of-place.ensures, c.deref-2.ensures.len)
