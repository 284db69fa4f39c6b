use Rattle.std.proofs.Common.{◌≡◌, ◌+◌, ◌<◌, ◌^◌, length}
use Rattle.sync_record.specs.Records.{FileRecord}
use Rattle.folder_core.specs.Announced.{announce}
use Rattle.folder_core.proofs.ListTests.{In}
use Rattle.folder_index.specs.Chunks.{AreChunked, groups_in}
use Rattle.folder_index.specs.Groups.{HasSpareAt, announced_in, promised_in}
use Rattle.folder_index.specs.Indexes.{AreApart}
use Rattle.folder_index.proofs.groups.put_all.Given as goal

abbrev pub invariant-loop-announced : goal.invariant-loop-announced
invariant-loop-announced l = record {
  groups : AreChunked l.me l.names l.totals;
  placed : announce l.device l.announced-iterator.rest.items (announced_in (groups_in l.names)) ≡ announce l.device l.fn.records.items (announced_in (groups_in l.fn.names));
  promised : promised_in (groups_in l.names) ≡ promised_in (groups_in l.fn.names);
  fits : l.totals.others + length l.announced-iterator.rest.items + 1 < 2 ^ 64;
  apart : AreApart l.announced-iterator.rest.items;
  spares : (r : FileRecord) → In r l.announced-iterator.rest.items → HasSpareAt l.device r.name (groups_in l.names);
}
