-- The laws of src/laws.rt, for the proofs of crates above.
use Rattle.std.proofs.Common.{◌≡◌, ◌≢◌, ◌↔◌, ℕ, suc, ◌-◌, ◌<◌, ◌≤◌, List, [], ◌∷◌, ◌++◌, length, get_or, take, drop, cond, Some, None, refl, sym, ap, ◌∙◌, subst, arith, inr, length-append, append_assoc}
use Rattle.std.specs.Prelude.{IsUtf8, codes, bytes_eq}
use Rattle.std.specs.List.{All, join_with_byte}
use Rattle.std.proofs.Math.Seq.{get_or-append_seam, get_or-append_right}
use Rattle.std.proofs.lemmas.List.{take_at, drop_at}
use Rattle.std.proofs.lemmas.List.Elements.{All-append, All-cons, All-nil}
use Rattle.std.proofs.lemmas.List.Splits.{join_with_byte-slice_split}
use Rattle.sync_names.specs.Components.{components, folder_components, folder_of, folder_text, last_component}
use Rattle.sync_names.specs.Extension.{stem_of, extension_of}
use Rattle.sync_names.specs.Internal.{IsInternal}
use Rattle.sync_names.specs.Made.{temp_text, replaced_text, conflict_mark, conflict_text, IsTempText, IsReplacedText}
use Rattle.sync_names.specs.Refusal.{refusal}
use Rattle.sync_names.specs.Safe.{IsFirstRefusal, IsSafe}
use Rattle.sync_names.specs.Utc.{utc_time, IsUtc}
use Rattle.sync_names.specs.Walk.{walk, leads_to}
use Rattle.sync_names.specs.declared.fault.NameFault.{NameFault}
use Rattle.sync_names.specs.declared.fault.NameFault.TheVariants.{Internal}
use Rattle.sync_names.specs.declared.utc.UtcTime.{UtcTime}
use Rattle.sync_names.proofs.BesideLemmas.{temp_beside, temp_last-no_slash, conflict_beside, conflict-differs}
use Rattle.sync_names.proofs.ComponentLemmas.{HasNo, IsLastPlace, folder_and_last, components-beside, components-front_and_last}
use Rattle.sync_names.proofs.ConflictLemmas.{All-front, long_good, conflict-refusal}
use Rattle.sync_names.proofs.ExtensionLemmas.{cut_at_dot, cut_without_dot}
use Rattle.sync_names.proofs.InternalLemmas.{temporary_length}
use Rattle.sync_names.proofs.RefusalLemmas.{refusal-first, safe_from_none, none_from_safe}
use Rattle.sync_names.proofs.UtcLemmas.{utc_time_shown, shown_once}
use Rattle.sync_names.proofs.WalkLemmas.{IsGood, leads_to-good, walk-beginning}
use Rattle.sync_version.specs.declared.moment.TheConstants.Moment.{MAX_SECONDS}

-- ---- the first refusal

pub first_refusal-told : (text : List ℕ) (fault : NameFault) → (refusal text ≡ Some fault) ↔ IsFirstRefusal fault text
first_refusal-told = refusal-first

pub first_refusal-safe : (text : List ℕ) → IsUtf8 text → (refusal text ≡ None) ↔ IsSafe text
first_refusal-safe text utf8 = (safe_from_none text utf8, none_from_safe text)

-- ---- names stay below their folder

pub stay_below-whole : (folder : List (List ℕ)) (name : List ℕ) → IsSafe name → leads_to folder name ≡ folder ++ components name
stay_below-whole folder name safe = leads_to-good folder name safe.good_components

pub stay_below-each_beginning : (folder : List (List ℕ)) (name : List ℕ) (n : ℕ) → IsSafe name → walk folder (take n (components name)) ≡ folder ++ take n (components name)
stay_below-each_beginning folder name n safe = walk-beginning folder name n safe.good_components

temp_good : (name : List ℕ) → All IsGood (components name) → All IsGood (components (temp_text name))
temp_good name good =
    let last = codes ".syncthing." ++ last_component name ++ codes ".tmp" in
    let old : All IsGood (folder_components name ++ last_component name ∷ []) = subst (All IsGood) (components-front_and_last name) good in
    let long = temporary_length (last_component name) in
    let one : All IsGood (last ∷ []) = All-cons IsGood last [] (long_good last (omega arith)) (All-nil IsGood) in
    subst (All IsGood) (sym (components-beside name last (temp_last-no_slash name)))
    (All-append IsGood (folder_components name) (last ∷ []) (All-front (folder_components name) (last_component name ∷ []) old) one)

temporary_good : (temporary : List ℕ) → IsTempText temporary → All IsGood (components temporary)
temporary_good temporary h =
    subst (λ (l : List ℕ). All IsGood (components l)) (sym h.2) (temp_good h.0 h.1.good_components)

pub stay_below-temporary : (folder : List (List ℕ)) (name : List ℕ) → IsTempText name → leads_to folder name ≡ folder ++ components name
stay_below-temporary folder name h = leads_to-good folder name (temporary_good name h)

pub stay_below-temporary_beginning : (folder : List (List ℕ)) (name : List ℕ) (n : ℕ) → IsTempText name → walk folder (take n (components name)) ≡ folder ++ take n (components name)
stay_below-temporary_beginning folder name n h = walk-beginning folder name n (temporary_good name h)

replaced_good : (kept : List ℕ) → IsReplacedText kept → All IsGood (components kept)
replaced_good kept h =
    subst (λ (l : List ℕ). All IsGood (components l)) (sym h.2) (temp_good (temp_text h.0) (temp_good h.0 h.1.good_components))

pub stay_below-replaced : (folder : List (List ℕ)) (name : List ℕ) → IsReplacedText name → leads_to folder name ≡ folder ++ components name
stay_below-replaced folder name h = leads_to-good folder name (replaced_good name h)

pub stay_below-replaced_beginning : (folder : List (List ℕ)) (name : List ℕ) (n : ℕ) → IsReplacedText name → walk folder (take n (components name)) ≡ folder ++ take n (components name)
stay_below-replaced_beginning folder name n h = walk-beginning folder name n (replaced_good name h)

-- ---- components

pub components_joined-joined : (text : List ℕ) → join_with_byte 47 (components text) ≡ text
components_joined-joined = join_with_byte-slice_split 47

pub components_joined-folder : (text : List ℕ) → text ≡ folder_of text ++ last_component text
components_joined-folder = folder_and_last

-- ---- the extension

dot_at : (stem rest : List ℕ) → HasNo 46 rest → IsLastPlace 46 (stem ++ 46 ∷ rest) (length stem)
dot_at stem rest none = record {
  within = omega (arith, length-append stem (46 ∷ rest));
  here = get_or-append_seam stem 46 rest 0;
  later = λ i after h e. past i after h (sym (get_or-append_right stem (46 ∷ rest) i 0 (omega arith)) ∙ e);
}
  where
    past : (i : ℕ) → length stem < i → i < length (stem ++ 46 ∷ rest) → get_or (46 ∷ rest) (i - length stem) 0 ≡ 46 → ⊥
    past i after h e =
        let place : i - length stem ≡ suc (i - length stem - 1) = omega arith in
        none (i - length stem - 1) (omega (arith, length-append stem (46 ∷ rest))) (sym (ap (λ (k : ℕ). get_or (46 ∷ rest) k 0) place) ∙ e)

pub extension-dot : (stem rest : List ℕ) → HasNo 46 rest → stem_of (stem ++ 46 ∷ rest) ≡ stem
extension-dot stem rest none =
    (cut_at_dot (stem ++ 46 ∷ rest) (length stem) (dot_at stem rest none)).stem ∙ take_at stem (46 ∷ rest) (length stem) refl

pub extension-rest : (stem rest : List ℕ) → HasNo 46 rest → extension_of (stem ++ 46 ∷ rest) ≡ 46 ∷ rest
extension-rest stem rest none =
    (cut_at_dot (stem ++ 46 ∷ rest) (length stem) (dot_at stem rest none)).extension ∙ drop_at stem (46 ∷ rest) (length stem) refl

pub extension-whole : (component : List ℕ) → HasNo 46 component → stem_of component ≡ component
extension-whole component none = (cut_without_dot component none).stem

pub extension-nothing : (component : List ℕ) → HasNo 46 component → extension_of component ≡ []
extension-nothing component none = (cut_without_dot component none).extension

-- ---- temporary names

pub temporary-folder : (name : List ℕ) → folder_components (temp_text name) ≡ folder_components name
temporary-folder name = (temp_beside name).folder

pub temporary-last : (name : List ℕ) → last_component (temp_text name) ≡ codes ".syncthing." ++ last_component name ++ codes ".tmp"
temporary-last name = (temp_beside name).named

pub temporary-internal : (name : List ℕ) → IsInternal (temp_text name)
temporary-internal name = inr (last_component name, temporary-last name)

pub temporary-apart : (name temporary : List ℕ) → IsSafe name → IsTempText temporary → name ≢ temporary
temporary-apart name temporary safe h e =
    safe.not_internal (subst IsInternal (sym (e ∙ h.2)) (temporary-internal h.0))

pub temporary-one_each : (a b : List ℕ) → temp_text a ≡ temp_text b → a ≡ b
temporary-one_each a b e =
    let folder : folder_components a ≡ folder_components b = sym (temporary-folder a) ∙ ap folder_components e ∙ temporary-folder b in
    let framed : codes ".syncthing." ++ last_component a ++ codes ".tmp" ≡ codes ".syncthing." ++ last_component b ++ codes ".tmp" = sym (temporary-last a) ∙ ap last_component e ∙ temporary-last b in
    let ended : last_component a ++ codes ".tmp" ≡ last_component b ++ codes ".tmp" = ap (drop 11) framed in
    let same_length : length (last_component b) ≡ length (last_component a) = omega (arith, ap length ended, length-append (last_component a) (codes ".tmp"), length-append (last_component b) (codes ".tmp")) in
    let last : last_component a ≡ last_component b =
    sym (take_at (last_component a) (codes ".tmp") (length (last_component a)) refl) ∙ ap (take (length (last_component a))) ended
    ∙ take_at (last_component b) (codes ".tmp") (length (last_component a)) same_length in
    folder_and_last a ∙ (λ i. folder_text (folder i) ++ last i) ∙ sym (folder_and_last b)

-- ---- names of files that are kept while they are replaced

pub replaced-folder : (name : List ℕ) → folder_components (replaced_text name) ≡ folder_components name
replaced-folder name = temporary-folder (temp_text name) ∙ temporary-folder name

pub replaced-last : (name : List ℕ) → last_component (replaced_text name) ≡ codes ".syncthing..syncthing." ++ last_component name ++ codes ".tmp.tmp"
replaced-last name =
    temporary-last (temp_text name) ∙ ap (λ (l : List ℕ). codes ".syncthing." ++ l ++ codes ".tmp") (temporary-last name)
    ∙ simp append_assoc refl

pub replaced-internal : (name : List ℕ) → IsInternal (replaced_text name)
replaced-internal name = temporary-internal (temp_text name)

pub replaced-apart : (a b : List ℕ) → IsSafe b → replaced_text a ≢ temp_text b
replaced-apart a b safe e =
    safe.not_internal (subst IsInternal (temporary-one_each (temp_text a) b e) (temporary-internal a))

pub replaced-one_each : (a b : List ℕ) → replaced_text a ≡ replaced_text b → a ≡ b
replaced-one_each a b e = temporary-one_each a b (temporary-one_each (temp_text a) (temp_text b) e)

-- ---- conflict copies' names

pub conflict-folder : (name : List ℕ) (moment modified_by : ℕ) → folder_components (conflict_text name moment modified_by) ≡ folder_components name
conflict-folder name moment modified_by = (conflict_beside name moment modified_by).folder

pub conflict-last : (name : List ℕ) (moment modified_by : ℕ) → last_component (conflict_text name moment modified_by) ≡ stem_of (last_component name) ++ conflict_mark moment modified_by ++ extension_of (last_component name)
conflict-last name moment modified_by = (conflict_beside name moment modified_by).named

pub conflict-other : (name : List ℕ) (moment modified_by : ℕ) → conflict_text name moment modified_by ≢ name
conflict-other = conflict-differs

pub conflict-refused : (name : List ℕ) (moment modified_by : ℕ) → IsSafe name → moment ≤ MAX_SECONDS → refusal (conflict_text name moment modified_by) ≡ cond (bytes_eq (last_component name) (codes ".syncthing.tmp")) (Some Internal) None
conflict-refused = conflict-refusal

-- ---- the clock in UTC, and base32

pub utc-shown : (moment : ℕ) → moment ≤ MAX_SECONDS → IsUtc moment (utc_time moment)
utc-shown = utc_time_shown

pub utc-only : (moment : ℕ) (a b : UtcTime) → IsUtc moment a → IsUtc moment b → a ≡ b
utc-only = shown_once
