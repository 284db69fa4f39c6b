use Rattle.std.proofs.Common.{◌≡◌, ◌++◌, ◌-◌, ◌≤◌, drop, flat_map, map, take, vec_len}
use Rattle.std.specs.Prelude.{option_copied}
use Rattle.folder_core.specs.Reads.{bests_page}
use Rattle.folder_index.specs.Chunks.{in_chunk}
use Rattle.folder_index.specs.Groups.{bests_listed, shown}
use Rattle.folder_index.specs.Indexes.{folder}
use Rattle.folder_index.proofs.by_name.ByName.bests.Given as goal

abbrev pub invariant-loop-chunk : goal.invariant-loop-chunk
invariant-loop-chunk l = record {
  page : map shown l.page.items ++ take (l.limit - vec_len l.page) (bests_listed (flat_map in_chunk (drop l.chunk-index l.chunk-items))) ≡ bests_page (folder l.self) (option_copied l.after) l.limit;
  fits : vec_len l.page ≤ l.limit;
}
