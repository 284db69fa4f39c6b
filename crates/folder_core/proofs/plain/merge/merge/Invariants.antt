use Rattle.std.proofs.Common.{◌≡◌, ◌+◌, ◌<◌, ◌≤◌, ◌++◌, reverse, vec_len, vec_capacity}
use Rattle.std.specs.Prelude.{map}
use Rattle.folder_core.specs.Plain.{NamesRise, Rises, filed, filed_by, put_all}
use Rattle.folder_core.proofs.plain.merge.merge.Given as goal

abbrev pub invariant-loop-entry : goal.invariant-loop-entry
invariant-loop-entry l = record {
  all : put_all (map filed l.entries.items) (map (filed_by l.device) l.records.items) ++ map filed (reverse l.room.items) ≡ put_all (map filed l.fn.entries.items) (map (filed_by l.device) l.fn.records.items);
  rises : Rises l.entries.items;
  names_rise : NamesRise l.records.items;
  entries_fit : vec_len l.entries + vec_len l.records + vec_len l.room ≤ vec_capacity l.entries;
  capacity : vec_capacity l.entries ≡ vec_capacity l.fn.entries;
  len : vec_len l.entries + vec_len l.records + vec_len l.room ≤ vec_len l.fn.entries + vec_len l.fn.records;
  room_fits : 0 < vec_len l.records → vec_len l.entries + vec_len l.records + vec_len l.room ≤ vec_capacity l.room;
}

abbrev pub decreases-loop-entry : goal.decreases-loop-entry
decreases-loop-entry l = vec_len l.entries + vec_len l.records
