use Rattle.std.proofs.Common.{map, take}
use Rattle.file_store.specs.Listings.{AreAscending}
use Rattle.sync_scan.specs.AllNames.{AddsMissing}
use Rattle.sync_scan.proofs.missing.add_missing.Given as goal

abbrev pub invariant-loop-record : goal.invariant-loop-record
invariant-loop-record l = record {
  adds : AddsMissing (map (λ e. e.name) l.entries) (take l.record-index l.records) l.initial.names.keys l.names.keys;
  order : AreAscending l.initial.names.keys → AreAscending l.names.keys;
}
