use Rattle.std.proofs.Common.{◌≡◌, ◌+◌, ◌≤◌, ◌++◌, reverse, vec_len, vec_capacity}
use Rattle.folder_core.proofs.plain.merge.put_back.Given as goal

abbrev pub invariant-loop-entry : goal.invariant-loop-entry
invariant-loop-entry l = record {
  all : l.entries.items ++ reverse l.taken.items ≡ l.initial.entries.items ++ reverse l.initial.taken.items;
  len : vec_len l.entries + vec_len l.taken ≡ vec_len l.initial.entries + vec_len l.initial.taken;
  capacity : vec_capacity l.entries ≡ vec_capacity l.initial.entries;
  fits : vec_len l.entries + vec_len l.taken ≤ vec_capacity l.entries;
}

abbrev pub decreases-loop-entry : goal.decreases-loop-entry
decreases-loop-entry l = vec_len l.taken
