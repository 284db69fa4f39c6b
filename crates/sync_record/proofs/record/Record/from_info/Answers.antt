use Rattle.std.proofs.Common.{◌≡◌, ◌∙◌, ℕ, Bool, true, false, List, [], map, if◌then◌else◌, Option, Some, None, Result, Ok, Err, IfSome, ap, refl, sym, subst}
use Rattle.sync_names.specs.declared.fault.NameFault.{NameFault}
use Rattle.sync_names.specs.Refusal.{refusal, shape_refusal}
use Rattle.sync_version.specs.Versions.{Vector}
use Rattle.sync_blocks.specs.declared.block.Block.{Block}
use Rattle.bep_messages.specs.declared.block_info.BlockInfo.{BlockInfo}
use Rattle.bep_messages.specs.declared.counter.Counter.{Counter}
use Rattle.bep_messages.specs.declared.file_info.FileInfo.{FileInfo}
use Rattle.sync_record.specs.declared.fields.Plain.{Plain}
use Rattle.sync_record.specs.Records.{Name, FileRecord}
use Rattle.sync_record.specs.Validity.{IsKept}
use Rattle.sync_record.specs.Infos.{block_of, content_of, is_file_info, is_live_file_info, natural, plain_of, record_of, record_with, version_of}
use Rattle.sync_record.proofs.Kept.{kept}
use Rattle.sync_record.proofs.record.Record.from_info.Goals as goal

abbrev Failed : {T : Type 0} → Result T NameFault → NameFault → Type 0
Failed result fault = result ≡ Err fault

-- the record with these parts
abbrev joined : Name → Vector → List Block → List ℕ → Plain → ℕ → FileRecord
joined name version blocks target plain sequence = record {
  name = name;
  type_number = plain.type_number;
  size = plain.size;
  permissions = plain.permissions;
  modified_s = plain.modified_s;
  modified_ns = plain.modified_ns;
  modified_by = plain.modified_by;
  deleted = plain.deleted;
  invalid = plain.invalid;
  no_permissions = plain.no_permissions;
  version = version;
  sequence = sequence;
  block_size = plain.block_size;
  blocks = blocks;
  symlink_target = target;
}

-- the record that keeps this content
abbrev with_content : (name : Name) (version : Vector) (target : List ℕ) (sequence : ℕ) → Plain × List Block → FileRecord
with_content name version target sequence content = joined name version content.1 target content.0 sequence

-- the cases of the content are those of the record
by_cases : (info : FileInfo) (live is_file : Bool)
    → with_content info.name (version_of info.version.counters) info.symlink_target (natural info.sequence) (if live then (if is_file then (plain_of info, map block_of info.blocks) else (record (plain_of info) { invalid = true }, [])) else (plain_of info, []))
    ≡ (if live then (if is_file then record_with info info.invalid (map block_of info.blocks) else record_with info true []) else record_with info info.invalid [])
by_cases info true true = refl
by_cases info true false = refl
by_cases info false is_file = refl

content_is : (info : FileInfo) → with_content info.name (version_of info.version.counters) info.symlink_target (natural info.sequence) (content_of (plain_of info) info.blocks) ≡ record_of info
content_is info = by_cases info (is_live_file_info info) (is_file_info info)

-- what the parts of a record come from
record Parts (info : FileInfo) (name text : List ℕ) (version : Vector) (counters : List Counter) (content : Plain × List Block) (plain : Plain) (infos : List BlockInfo) (sequence : ℕ) : Type 0 where
  name_is : name ≡ text
  text_is : text ≡ info.name
  version_is : version ≡ version_of counters
  counters_are : counters ≡ info.version.counters
  content_is : content ≡ content_of plain infos
  plain_is : plain ≡ plain_of info
  infos_are : infos ≡ info.blocks
  sequence_is : sequence ≡ natural info.sequence

-- what is made of the parts is the message's record
made : (info : FileInfo) (name text : List ℕ) (version : Vector) (counters : List Counter) (content : Plain × List Block) (plain : Plain) (infos : List BlockInfo) (sequence : ℕ)
    → Parts info name text version counters content plain infos sequence → with_content name version info.symlink_target sequence content ≡ record_of info
made info name text version counters content plain infos sequence p =
    let named : name ≡ info.name = p.name_is ∙ p.text_is in
    let counted : version ≡ version_of info.version.counters = p.version_is ∙ ap version_of p.counters_are in
    let kept : content ≡ content_of (plain_of info) info.blocks = p.content_is ∙ (λ i. content_of (p.plain_is i) (p.infos_are i)) in
    (λ i. with_content (named i) (counted i) info.symlink_target (p.sequence_is i) (kept i)) ∙ content_is info

-- no fact of what is kept is of the sequence
unnumbered : (r : FileRecord) → IsKept r → IsKept (record r { sequence = 0 })
unnumbered r k = record { marked = k.marked; blocks = k.blocks; block_size = k.block_size }

pub from_fields-requires : goal.from_fields-requires
from_fields-requires c = record {
  sequence = c.read_sequence-sequence.ensures.fits;
  kept =
      let value = made c.args.info _ _ _ _ _ _ _ _
      (record { name_is = c.in_ok-name.ensures.answer.1; text_is = c.into_string.ensures; version_is = c.in_ok-version.ensures.value; counters_are = c.as_slice.ensures; content_is = c.in_ok-plain.ensures.value; plain_is = c.read_plain-plain.ensures; infos_are = c.as_slice-2.ensures; sequence_is = c.read_sequence-sequence.ensures.value }) in
      subst IsKept (sym (ap (λ (r : FileRecord). record r { sequence = 0 }) value)) (unnumbered (record_of c.args.info) (kept c.args.info));
  blocks = c.in_ok-plain.ensures.fit;
}

pub returns-clause-answer : goal.returns-clause-answer
returns-clause-answer c = (
  ap refusal (sym c.into_string.ensures) ∙ c.in_ok-name.ensures.answer.0,
  c.in_ok-from_fields.ensures
      ∙ made c.args.info _ _ _ _ _ _ _ _
      (record { name_is = c.in_ok-name.ensures.answer.1; text_is = c.into_string.ensures; version_is = c.in_ok-version.ensures.value; counters_are = c.as_slice.ensures; content_is = c.in_ok-plain.ensures.value; plain_is = c.read_plain-plain.ensures; infos_are = c.as_slice-2.ensures; sequence_is = c.read_sequence-sequence.ensures.value }),
)

-- what was made is no refusal
made_unrefused : (name : Name) (r : FileRecord) (refused : Option NameFault) → IfSome refused (λ fault. Failed (Ok name) fault) → IfSome refused (λ fault. Failed (Ok r) fault)
made_unrefused name r (Some fault) h = cc
made_unrefused name r None h = tt

pub returns-clause-shape : goal.returns-clause-shape
returns-clause-shape c =
    made_unrefused c.in_ok-name.name c.in_ok-from_fields.field-0 _
    (subst (λ text. IfSome (shape_refusal text) (λ fault. Failed (Ok c.in_ok-name.name) fault)) c.into_string.ensures c.in_ok-name.ensures.shape)
