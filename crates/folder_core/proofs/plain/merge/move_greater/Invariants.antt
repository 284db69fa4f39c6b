use Rattle.std.proofs.Common.{◌≡◌, ◌+◌, ◌≤◌, ◌++◌, reverse, take, vec_len, vec_capacity}
use Rattle.std.specs.Prelude.{map}
use Rattle.folder_core.specs.Plain.{Rises, filed, filed_by, put_all}
use Rattle.folder_core.proofs.plain.merge.move_greater.Given as goal

abbrev pub invariant-loop-entries : goal.invariant-loop-entries
invariant-loop-entries l = record {
  all : put_all (map filed l.entries.items) (map (filed_by l.fn.device) l.records) ++ map filed (reverse l.room.items) ≡ put_all (map filed l.initial.entries.items) (map (filed_by l.fn.device) l.records) ++ map filed (reverse l.initial.room.items);
  rises : Rises l.entries.items;
  front : l.entries.items ≡ take (vec_len l.entries) l.initial.entries.items;
  within : l.kept ≤ vec_len l.entries;
  len : vec_len l.entries + vec_len l.room ≡ vec_len l.initial.entries + vec_len l.initial.room;
  no_more : vec_len l.entries ≤ vec_len l.initial.entries;
  entries_capacity : vec_capacity l.entries ≡ vec_capacity l.initial.entries;
  room_capacity : vec_capacity l.room ≡ vec_capacity l.initial.room;
}

abbrev pub decreases-loop-entries : goal.decreases-loop-entries
decreases-loop-entries l = vec_len l.entries
