use Rattle.std.proofs.Common.{◌≡◌, ◌++◌, max, take}
use Rattle.std.specs.Prelude.{fold}
use Rattle.folder_index.specs.Devices.{sequences_from}
use Rattle.folder_index.proofs.Announcing.{entries_chunked, entries_of}
use Rattle.folder_index.proofs.by_name.ByName.found_greatest.Given as goal

abbrev pub invariant-loop-chunk : goal.invariant-loop-chunk
invariant-loop-chunk l = l.greatest ≡ fold max 0 (sequences_from l.device (entries_chunked (take l.chunk-index l.chunk-items)))

abbrev pub invariant-loop-group : goal.invariant-loop-group
invariant-loop-group l = l.greatest ≡ fold max 0 (sequences_from l.device (entries_chunked (take l.chunk-index l.chunk-items) ++ entries_of (take l.group-index l.group-items)))
