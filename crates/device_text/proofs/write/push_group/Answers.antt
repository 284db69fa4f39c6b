use Rattle.std.proofs.Common.{◌-◌, length, drop}
use Rattle.device_text.proofs.Small.{low_take, low_drop}
use Rattle.device_text.proofs.write.push_group.Goals as goal

pub push_values-requires : goal.push_values-requires
push_values-requires c = record { small = low_take 7 c.args.values.now c.requires.small }

pub push_values-requires-2 : goal.push_values-requires-2
push_values-requires-2 c =
    let v = c.args.values.now in
    record { small = low_take (length v - 7) (drop 7 v) (low_drop 7 v c.requires.small) }
