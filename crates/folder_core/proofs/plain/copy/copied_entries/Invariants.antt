use Rattle.std.proofs.Common.{◌≡◌, ◌≤◌, take, vec_len, vec_capacity}
use Rattle.folder_core.proofs.plain.copy.copied_entries.Given as goal

abbrev pub invariant-loop-entry : goal.invariant-loop-entry
invariant-loop-entry l = record {
  items : l.copy.items ≡ take l.entry-index l.entries;
  len : vec_len l.copy ≡ l.entry-index;
  capacity : l.room ≤ vec_capacity l.copy;
}
