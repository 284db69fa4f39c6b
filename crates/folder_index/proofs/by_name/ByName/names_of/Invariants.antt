use Rattle.std.proofs.Common.{◌≡◌, ◌++◌, take}
use Rattle.folder_index.specs.Devices.{names_from}
use Rattle.folder_index.proofs.Announcing.{entries_chunked, entries_of}
use Rattle.folder_index.proofs.by_name.ByName.names_of.Given as goal

abbrev pub invariant-loop-chunk : goal.invariant-loop-chunk
invariant-loop-chunk l = l.names.items ≡ names_from l.device (entries_chunked (take l.chunk-index l.chunk-items))

abbrev pub invariant-loop-group : goal.invariant-loop-group
invariant-loop-group l = l.names.items ≡ names_from l.device (entries_chunked (take l.chunk-index l.chunk-items)) ++ names_from l.device (entries_of (take l.group-index l.group-items))
