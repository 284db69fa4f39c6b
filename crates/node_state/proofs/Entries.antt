-- An entry's bytes and its announcement.
use Rattle.std.proofs.Common.{◌≡◌, length, None, sym, ap, ◌∙◌}
use Rattle.bep_messages.specs.declared.file_info.FileInfo.{FileInfo}
use Rattle.bep_messages.specs.Structs.{file_info}
use Rattle.bep_messages.specs.Tables.{Values}
use Rattle.bep_messages.specs.Wholes.{file_info_whole}
use Rattle.sync_names.specs.Refusal.{refusal}
use Rattle.sync_record.specs.Devices.{Identity}
use Rattle.sync_record.specs.Infos.{record_of}
use Rattle.sync_record.specs.Records.{FileRecord}
use Rattle.node_state.specs.declared.entry.Entry.{Entry}
use Rattle.node_state.specs.Meaning.{IsEntry, announced}
use Rattle.node_state.specs.Parts.{entry_parts}
use Rattle.node_state.specs.Tables.{entry_table}

module _ (e : Entry) (v : Values entry_table) (is : entry_parts e ≡ v) where
  file-is : file_info v.1.0 ≡ e.file
  file-is = ap (λ (w : Values entry_table). file_info w.1.0) (sym is) ∙ file_info_whole e.file

  device-is : e.device ≡ v.0
  device-is = ap (λ (w : Values entry_table). w.0) is

  pub is-entry : length e.device ≡ 32 → refusal e.file.name ≡ None → IsEntry v
  is-entry len safe = (ap length (sym device-is) ∙ len, ap (λ (f : FileInfo). refusal f.name) file-is ∙ safe)

  pub is-announced : (d : Identity) (r : FileRecord) → d ≡ e.device → r ≡ record_of e.file → let p : Identity × FileRecord = (d, r) in p ≡ announced v
  is-announced d r same of = λ i. ((same ∙ device-is) i, (of ∙ ap record_of (sym file-is)) i)
