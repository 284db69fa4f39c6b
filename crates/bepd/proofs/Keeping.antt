-- The records of a message: which are kept, and how many are skipped.
use Rattle.std.proofs.Common.{◌≡◌, ℕ, suc, ◌+◌, ◌≤◌, Bool, true, false, List, [], ◌∷◌, ◌++◌, length, drop, Some, None, refl, sym, ap, ◌∙◌, arith, append_assoc}
use Rattle.std.specs.Prelude.{not, if◌then◌else◌}
use Rattle.bep_messages.specs.declared.file_info.FileInfo.{FileInfo}
use Rattle.sync_names.specs.declared.fault.NameFault.{NameFault}
use Rattle.sync_names.specs.declared.fault.NameFault.TheVariants.{Empty, Absolute, BadComponent, Nul, NotNfc, Internal, OutOfMemory}
use Rattle.sync_names.specs.Parsing.{IsToldOf}
use Rattle.sync_names.specs.Refusal.{refusal}
use Rattle.sync_record.specs.Infos.{record_of}
use Rattle.sync_record.specs.Records.{FileRecord}
use Rattle.bepd.specs.Received.{is_kept, kept_records, skipped_records}

-- ---- what is kept, and what is skipped

pub refusal_is : (text : List ℕ) (e : NameFault) → IsToldOf text e → (e ≡ OutOfMemory → ⊥) → refusal text ≡ Some e
refusal_is text Empty t ne = t
refusal_is text Absolute t ne = t
refusal_is text BadComponent t ne = t
refusal_is text Nul t ne = t
refusal_is text NotNfc t ne = t
refusal_is text Internal t ne = t
refusal_is text OutOfMemory t ne = absurd (ne refl)

pub kept_first : (info : FileInfo) (files : List FileInfo) → refusal info.name ≡ None → kept_records (info ∷ files) ≡ record_of info ∷ kept_records files
kept_first info files e = rw e refl

pub skipped_not : (info : FileInfo) (files : List FileInfo) → refusal info.name ≡ None → skipped_records (info ∷ files) ≡ skipped_records files
skipped_not info files e = rw e refl

pub skipped_first : (info : FileInfo) (files : List FileInfo) (f : NameFault) → refusal info.name ≡ Some f → skipped_records (info ∷ files) ≡ info ∷ skipped_records files
skipped_first info files f e = rw e refl

fewer_by : (b : Bool) (x : FileInfo) (xs ys : List FileInfo) → length xs ≤ length ys → length (if b then x ∷ xs else xs) ≤ length (x ∷ ys)
fewer_by true x xs ys h = omega (arith, h)
fewer_by false x xs ys h = omega (arith, h)

pub skipped_fewer : (files : List FileInfo) → length (skipped_records files) ≤ length files
skipped_fewer [] = omega arith
skipped_fewer (f ∷ files) = fewer_by (not (is_kept f)) f (skipped_records files) files (skipped_fewer files)

-- a list that is its own rest
pub none_left : {A : Type 0} (xs rest : List A) → xs ≡ rest → rest ≡ drop 1 xs → xs ≡ []
none_left [] rest e d = refl
none_left (x ∷ xs) rest e d = let same : suc (length xs) ≡ length xs = ap length (e ∙ d) in absurd (omega (arith, same))

-- ---- one more file

pub kept_step : (rs more : List FileRecord) (info : FileInfo) (r : FileRecord) (files rest : List FileInfo) (all : List FileRecord) → refusal info.name ≡ None → r ≡ record_of info → files ≡ info ∷ rest
    → more ≡ rs ++ r ∷ [] → rs ++ kept_records files ≡ all → more ++ kept_records rest ≡ all
kept_step rs more info r files rest all safe is first pushed whole =
    let kept : kept_records files ≡ r ∷ kept_records rest =
    ap kept_records first ∙ kept_first info rest safe ∙ ap (λ x. x ∷ kept_records rest) (sym is) in
    ap (λ l. l ++ kept_records rest) pushed ∙ append_assoc rs (r ∷ []) (kept_records rest) ∙ ap (λ l. rs ++ l) (sym kept) ∙ whole

pub count_kept : (n total : ℕ) (info : FileInfo) (files rest : List FileInfo) → refusal info.name ≡ None → files ≡ info ∷ rest
    → n + length (skipped_records files) ≡ total → n + length (skipped_records rest) ≡ total
count_kept n total info files rest safe first whole =
    ap (λ l. n + length l) (sym (ap skipped_records first ∙ skipped_not info rest safe)) ∙ whole

pub count_fits : (n s : ℕ) (files all : List FileInfo) (info : FileInfo) (rest : List FileInfo) (f : NameFault) → refusal info.name ≡ Some f → files ≡ info ∷ rest
    → n + length (skipped_records files) ≡ s + length (skipped_records all) → n + 1 ≤ s + length all
count_fits n s files all info rest f refused first whole =
    let skipped : length (skipped_records files) ≡ suc (length (skipped_records rest)) = ap length (ap skipped_records first ∙ skipped_first info rest f refused) in
    omega (arith, skipped, whole, skipped_fewer all)
