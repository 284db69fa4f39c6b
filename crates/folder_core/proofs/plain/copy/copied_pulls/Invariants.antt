use Rattle.std.proofs.Common.{◌≡◌, ◌≤◌, length, take, vec_len, vec_capacity}
use Rattle.folder_core.proofs.plain.copy.copied_pulls.Given as goal

abbrev pub invariant-loop-pull : goal.invariant-loop-pull
invariant-loop-pull l = record {
  items : l.copy.items ≡ take l.pull-index l.pulls;
  len : vec_len l.copy ≡ l.pull-index;
  capacity : length l.pulls ≤ vec_capacity l.copy;
}
