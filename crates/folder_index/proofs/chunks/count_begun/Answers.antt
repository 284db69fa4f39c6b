use Rattle.std.proofs.Common.{rules}
use Rattle.std.proofs.lemmas.List.Sorted.{IsPartitionPoint-from_clause}
use Rattle.folder_core.proofs.PlainGroup.{back_is, front_is}
use Rattle.folder_index.specs.Chunks.{Chunk, begins_by}
use Rattle.folder_index.proofs.Chunked.{chunks_parted}
use Rattle.folder_index.proofs.chunks.count_begun.Goals as goal

pub returns-clause-begun : goal.returns-clause-begun
returns-clause-begun c =
    let n = c.args.name.now in
    let vs = c.args.chunks.now in
    let k = c.partition_point.result in
    let place = IsPartitionPoint-from_clause (λ (v : Chunk). begins_by n v.items) vs k c.partition_point.ensures.partitioned (chunks_parted n vs c.requires.filled c.requires.ordered) (λ a r f k. search rules) in
    front_is (λ (v : Chunk). begins_by n v.items) vs k c.partition_point.ensures.bound place.0 place.1

pub returns-clause-others : goal.returns-clause-others
returns-clause-others c =
    let n = c.args.name.now in
    let vs = c.args.chunks.now in
    let k = c.partition_point.result in
    let place = IsPartitionPoint-from_clause (λ (v : Chunk). begins_by n v.items) vs k c.partition_point.ensures.partitioned (chunks_parted n vs c.requires.filled c.requires.ordered) (λ a r f k. search rules) in
    back_is (λ (v : Chunk). begins_by n v.items) vs k c.partition_point.ensures.bound place.0 place.1
