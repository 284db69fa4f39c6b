use Rattle.std.proofs.Common.{◌≡◌, take}
use Rattle.std.specs.Prelude.{All, None, map}
use Rattle.sync_names.specs.Refusal.{refusal}
use Rattle.sync_record.specs.Infos.{info_of, record_of}
use Rattle.index_sender.proofs.infos.file_infos.Given as goal

abbrev pub invariant-loop-record : goal.invariant-loop-record
invariant-loop-record l = record {
  infos : l.infos.items ≡ map info_of (take l.record-index l.records);
  again : map record_of l.infos.items ≡ take l.record-index l.records;
  safe : All (λ info. refusal info.name ≡ None) l.infos.items;
}
