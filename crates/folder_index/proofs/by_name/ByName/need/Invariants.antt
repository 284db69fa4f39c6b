use Rattle.std.proofs.Common.{◌≡◌, ◌++◌, ◌-◌, ◌≤◌, drop, flat_map, take, vec_len}
use Rattle.std.specs.Prelude.{option_copied}
use Rattle.folder_core.specs.Reads.{need_page}
use Rattle.folder_index.specs.Chunks.{in_chunk}
use Rattle.folder_index.specs.Groups.{needed_listed}
use Rattle.folder_index.specs.Indexes.{folder}
use Rattle.folder_index.proofs.by_name.ByName.need.Given as goal

abbrev pub invariant-loop-chunk : goal.invariant-loop-chunk
invariant-loop-chunk l = record {
  page : l.page.items ++ take (l.limit - vec_len l.page) (needed_listed (flat_map in_chunk (drop l.chunk-index l.chunk-items))) ≡ need_page (folder l.self) (option_copied l.after) l.limit;
  fits : vec_len l.page ≤ l.limit;
}
