use Rattle.std.proofs.Common.{◌≡◌, ◌++◌, true, drop, map}
use Rattle.std.specs.FinMap.{values}
use Rattle.folder_core.specs.Reads.{fits_page}
use Rattle.folder_index.specs.Sequences.{blocks_in, later_than}
use Rattle.folder_index.proofs.Sequenced.{record_of}
use Rattle.folder_index.proofs.by_sequence.BySequence.page_with.Given as goal

abbrev pub invariant-loop-announced : goal.invariant-loop-announced
invariant-loop-announced l = record {
  all : l.page.items ++ (map record_of l.announced-iterator ++ later_than l.sequence l.others) ≡ later_than l.sequence (values l.self) ++ later_than l.sequence l.others;
  fits : fits_page l.limit l.page.items ≡ true;
  counted : l.total ≡ blocks_in l.page.items;
}

abbrev pub invariant-loop-other : goal.invariant-loop-other
invariant-loop-other l = record {
  all : l.page.items ++ later_than l.sequence (drop l.other-index l.others) ≡ later_than l.sequence (values l.self) ++ later_than l.sequence l.others;
  fits : fits_page l.limit l.page.items ≡ true;
  counted : l.total ≡ blocks_in l.page.items;
}
