-- So many of the entries so far are of older copies.
use Rattle.std.proofs.Common.{◌≡◌, ◌≤◌, List, length, take}
use Rattle.file_store.specs.Names.{Name}
use Rattle.sync_pull.specs.Copies.{AreListedCopies}
use Rattle.sync_pull.proofs.old_copies.count_old_copies.Given as goal

abbrev pub invariant-loop-listed : goal.invariant-loop-listed
invariant-loop-listed l = record {
  within : l.count ≤ l.listed-index;
  chosen : (done : List Name) × AreListedCopies l.name l.copy (take l.listed-index l.entries) done × (l.count ≡ length done);
}
