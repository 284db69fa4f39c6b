-- The records of an index, one file after another.
use Rattle.std.proofs.Common.{◌≡◌, ◌≤◌, ℕ, List, [], ◌∷◌, ◌++◌, length, filter, Some, None, refl, sym, ap, ◌∙◌, arith, append_assoc}
use Rattle.std.proofs.lemmas.List.{length-append, length-map}
use Rattle.std.proofs.lemmas.List.Filters.{length-filter_both}
use Rattle.std.specs.Prelude.{not}
use Rattle.bep_messages.specs.declared.file_info.FileInfo.{FileInfo}
use Rattle.sync_names.specs.declared.fault.NameFault.{NameFault}
use Rattle.sync_names.specs.declared.fault.NameFault.TheVariants.{Empty, Absolute, BadComponent, Nul, NotNfc, Internal, OutOfMemory}
use Rattle.sync_names.specs.Parsing.{IsToldOf}
use Rattle.sync_names.specs.Refusal.{refusal}
use Rattle.sync_record.specs.Infos.{record_of}
use Rattle.sync_record.specs.Records.{FileRecord}
use Rattle.peer_reader.specs.Records.{is_kept, kept_records}

pub refusal_is : (text : List ℕ) (e : NameFault) → IsToldOf text e → (e ≡ OutOfMemory → ⊥) → refusal text ≡ Some e
refusal_is text Empty t ne = t
refusal_is text Absolute t ne = t
refusal_is text BadComponent t ne = t
refusal_is text Nul t ne = t
refusal_is text NotNfc t ne = t
refusal_is text Internal t ne = t
refusal_is text OutOfMemory t ne = absurd (ne refl)

kept_first : (info : FileInfo) (files : List FileInfo) → refusal info.name ≡ None → kept_records (info ∷ files) ≡ record_of info ∷ kept_records files
kept_first info files e = rw e refl

skipped_first : (info : FileInfo) (files : List FileInfo) (f : NameFault) → refusal info.name ≡ Some f → kept_records (info ∷ files) ≡ kept_records files
skipped_first info files f e = rw e refl

pub kept_step : (rs more : List FileRecord) (info : FileInfo) (r : FileRecord) (files rest : List FileInfo) (all : List FileRecord) → refusal info.name ≡ None → r ≡ record_of info → files ≡ info ∷ rest
    → more ≡ rs ++ r ∷ [] → rs ++ kept_records files ≡ all → more ++ kept_records rest ≡ all
kept_step rs more info r files rest all safe is first pushed whole =
    let kept : kept_records files ≡ r ∷ kept_records rest =
    ap kept_records first ∙ kept_first info rest safe ∙ ap (λ x. x ∷ kept_records rest) (sym is) in
    ap (λ l. l ++ kept_records rest) pushed ∙ append_assoc rs (r ∷ []) (kept_records rest) ∙ ap (λ l. rs ++ l) (sym kept) ∙ whole

pub skipped_step : (rs : List FileRecord) (info : FileInfo) (f : NameFault) (files rest : List FileInfo) (all : List FileRecord) → refusal info.name ≡ Some f → files ≡ info ∷ rest
    → rs ++ kept_records files ≡ all → rs ++ kept_records rest ≡ all
skipped_step rs info f files rest all refused first whole =
    ap (λ l. rs ++ l) (sym (ap kept_records first ∙ skipped_first info rest f refused)) ∙ whole

-- no more are kept than there are
pub kept_fewer : (files : List FileInfo) → length (kept_records files) ≤ length files
kept_fewer files =
    let same = length-map (filter is_kept files) record_of in
    let both = length-filter_both is_kept (λ x. not (is_kept x)) (λ x. refl) files in
    omega (arith, same, both)

pub front_fewer : (rs more : List FileRecord) (files : List FileInfo) → rs ++ more ≡ kept_records files → length rs ≤ length files
front_fewer rs more files e =
    let whole = ap length e in
    let sum = length-append rs more in
    omega (arith, whole, sum, kept_fewer files)
