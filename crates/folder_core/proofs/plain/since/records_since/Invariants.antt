use Rattle.std.proofs.Common.{◌≡◌, ◌++◌, true, map}
use Rattle.folder_core.specs.PlainReads.{later_from}
use Rattle.folder_core.specs.Reads.{by_sequence, fits_page}
use Rattle.folder_core.proofs.PlainSince.{seen}
use Rattle.folder_core.proofs.ReadPages.{blocks_of}
use Rattle.folder_core.proofs.plain.since.records_since.Given as goal

abbrev pub invariant-loop-record : goal.invariant-loop-record
invariant-loop-record l = record {
  all : l.page.items ++ map seen l.record-iterator ≡ by_sequence (later_from l.fn.device l.fn.sequence l.fn.entries);
  fits : fits_page l.limit l.page.items ≡ true;
  total : l.total ≡ blocks_of l.page.items;
}
