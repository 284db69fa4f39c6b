use Rattle.std.proofs.Common.{drop}
use Rattle.device_text.proofs.Small.{low_take, low_drop}
use Rattle.device_text.proofs.write.device_text.Goals as goal

pub push_group-requires-clause-small : goal.push_group-requires-clause-small
push_group-requires-clause-small c = low_take 13 c.base32_values-values.result c.base32_values-values.ensures.small

pub push_group-requires-2-clause-small : goal.push_group-requires-2-clause-small
push_group-requires-2-clause-small c = low_take 13 (drop 13 c.base32_values-values.result) (low_drop 13 c.base32_values-values.result c.base32_values-values.ensures.small)

pub push_group-requires-3-clause-small : goal.push_group-requires-3-clause-small
push_group-requires-3-clause-small c = low_take 13 (drop 26 c.base32_values-values.result) (low_drop 26 c.base32_values-values.result c.base32_values-values.ensures.small)

pub push_group-requires-4-clause-small : goal.push_group-requires-4-clause-small
push_group-requires-4-clause-small c = low_take 13 (drop 39 c.base32_values-values.result) (low_drop 39 c.base32_values-values.result c.base32_values-values.ensures.small)
