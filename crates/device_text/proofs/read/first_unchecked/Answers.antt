use Rattle.std.proofs.Common.{◌-◌, ◌*◌, take, drop}
use Rattle.device_text.proofs.Small.{low_take, low_drop}
use Rattle.device_text.proofs.read.first_unchecked.Goals as goal

pub check_value-requires-clause-small : goal.check_value-requires-clause-small
check_value-requires-clause-small c =
    let v = c.args.values.now in
    let start = 14 * c.loop-n.n in
    low_take 13 (take (56 - start) (drop start v)) (low_take (56 - start) (drop start v) (low_drop start v c.requires.small))
