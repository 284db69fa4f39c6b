use Rattle.std.proofs.Common.{◌≡◌, take}
use Rattle.sync_record.specs.Records.{FileRecord}
use Rattle.folder_core.proofs.ListTests.{In}
use Rattle.folder_index.specs.Chunks.{AreChunked, groups_in}
use Rattle.folder_index.specs.Groups.{HasSpareAt, announced_in, promised_in}
use Rattle.folder_index.proofs.groups.spare_all.Given as goal

abbrev pub invariant-loop-announced : goal.invariant-loop-announced
invariant-loop-announced l = record {
  groups : AreChunked l.me l.names l.totals;
  kept : announced_in (groups_in l.names) ≡ announced_in (groups_in l.fn.names);
  promised : promised_in (groups_in l.names) ≡ promised_in (groups_in l.fn.names);
  spares : (r : FileRecord) → In r (take l.announced-index l.records) → HasSpareAt l.device r.name (groups_in l.names);
}
