use Rattle.std.proofs.Common.{◌≡◌, ◌++◌, ◌-◌, ◌≤◌, drop, map, take, vec_len}
use Rattle.folder_index.specs.Chunks.{keyed}
use Rattle.folder_index.specs.Groups.{needed_listed}
use Rattle.folder_index.proofs.by_name.push_needed.Given as goal

abbrev pub invariant-loop-group : goal.invariant-loop-group
invariant-loop-group l = record {
  page : l.page.items ++ take (l.limit - vec_len l.page) (needed_listed (map keyed (drop l.group-index l.groups))) ≡ l.fn.page.items ++ take (l.limit - vec_len l.fn.page) (needed_listed (map keyed l.groups));
  fits : vec_len l.page ≤ l.limit;
  grows : vec_len l.fn.page ≤ vec_len l.page;
}
