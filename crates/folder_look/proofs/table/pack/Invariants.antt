use Rattle.std.proofs.Common.{◌≡◌, map, take}
use Rattle.folder_look.specs.Tables.{ArePacked, named, view_of}
use Rattle.folder_look.proofs.table.pack.Given as goal

abbrev pub invariant-loop-entry : goal.invariant-loop-entry
invariant-loop-entry l = record {
  packed : ArePacked l.names.items l.rows.items;
  same : map (named l.names.items) l.rows.items ≡ map view_of (take l.entry-index l.entries);
}
