-- What is kept of a message is a record that is kept.
use Rattle.std.proofs.Common.{◌≡◌, ◌≢◌, Bool, true, false, not, ◌&&◌, ◌||◌, ◌==◌, ℤ, pos, if◌then◌else◌, [], map, length, IsTrue, refl, sym, subst, ap, ◌∙◌, rules}
use Rattle.std.specs.List.{list_all}
use Rattle.std.specs.Ordering.{int_eq}
use Rattle.std.proofs.lemmas.Bool.{and_parts}
use Rattle.sync_blocks.specs.declared.size.TheConstants.{MIN_BLOCK_SIZE}
use Rattle.bep_messages.specs.declared.file_info.FileInfo.{FileInfo}
use Rattle.sync_record.specs.Infos.{block_of, block_size_of, is_block, is_file_info, is_live_file_info, record_of, record_with}
use Rattle.sync_record.specs.Records.{FileRecord, is_live_file}
use Rattle.sync_record.specs.Validity.{IsKept, is_valid, is_well_formed, describes_file}

sized : (n : ℤ) (is_none : Bool) → int_eq n (pos 0) ≡ is_none → (if is_none then pos MIN_BLOCK_SIZE else n) ≢ pos 0
sized n true e = λ p. search (rules, p)
sized n false e = λ p. search (rules, p, e)

either : (invalid : Bool) → IsTrue (invalid || true)
either true = refl
either false = refl

other : (info : FileInfo) → is_live_file_info info ≡ false → IsKept (record_with info info.invalid [])
other info l = record {
  marked = subst (λ live. IsTrue (info.invalid || (not live || describes_file info.size (block_size_of info.block_size) []))) (sym l) (either info.invalid);
  blocks = refl;
  block_size = sized info.block_size _ refl;
}

broken : (info : FileInfo) → IsKept (record_with info true [])
broken info = record { marked = refl; blocks = refl; block_size = sized info.block_size _ refl }

file : (info : FileInfo) → is_live_file_info info ≡ true → is_file_info info ≡ true
    → IsKept (record_with info info.invalid (map block_of info.blocks))
file info l f =
    let parts = and_parts (list_all is_block info.blocks) _ f in
    let blocks = map block_of info.blocks in
    record {
      marked = subst (λ live. IsTrue (info.invalid || (not live || describes_file info.size (block_size_of info.block_size) blocks))) (sym l)
          (subst (λ d. IsTrue (info.invalid || d)) (sym parts.1) (either info.invalid));
      blocks = subst (λ live. IsTrue ((length blocks == 0) || (live && describes_file info.size (block_size_of info.block_size) blocks))) (sym l)
          (subst (λ d. IsTrue ((length blocks == 0) || d)) (sym parts.1) (either (length blocks == 0)));
      block_size = sized info.block_size _ refl;
    }

by_cases : (info : FileInfo) (live is_file : Bool) → is_live_file_info info ≡ live → is_file_info info ≡ is_file
    → IsKept (if live then (if is_file then record_with info info.invalid (map block_of info.blocks) else record_with info true []) else record_with info info.invalid [])
by_cases info false is_file l f = other info l
by_cases info true false l f = broken info
by_cases info true true l f = file info l f

pub kept : (info : FileInfo) → IsKept (record_of info)
kept info = by_cases info (is_live_file_info info) (is_file_info info) refl refl

pub other_is : (info : FileInfo) → is_live_file_info info ≡ false → record_of info ≡ record_with info info.invalid []
other_is info l = ap (λ live. if live then (if is_file_info info then record_with info info.invalid (map block_of info.blocks) else record_with info true []) else record_with info info.invalid []) l

pub broken_is : (info : FileInfo) → IsTrue (is_live_file_info info) → is_file_info info ≡ false → record_of info ≡ record_with info true []
broken_is info l f = λ i. if l i then (if f i then record_with info info.invalid (map block_of info.blocks) else record_with info true []) else record_with info info.invalid []

none : (b : Bool) → (b && false) ≡ false
none true = refl
none false = refl

valid_by : (info : FileInfo) (live is_file : Bool) → is_live_file_info info ≡ live → is_file_info info ≡ is_file
    → is_valid (if live then (if is_file then record_with info info.invalid (map block_of info.blocks) else record_with info true []) else record_with info info.invalid [])
    ≡ (not info.invalid && (not (is_live_file_info info) || is_file_info info))
valid_by info false is_file l f =
    ap (λ t. not info.invalid && (not t || describes_file info.size (block_size_of info.block_size) [])) l
    ∙ sym (ap (λ t. not info.invalid && (not t || is_file_info info)) l)
valid_by info true false l f = sym (none (not info.invalid)) ∙ sym (λ i. not info.invalid && (not (l i) || f i))
valid_by info true true l f =
    let parts = and_parts (list_all is_block info.blocks) _ f in
    ap (λ t. not info.invalid && (not (is_live_file_info info) || t)) (parts.1 ∙ sym f)

pub valid : (info : FileInfo) → is_valid (record_of info) ≡ (not info.invalid && (not (is_live_file_info info) || is_file_info info))
valid info = valid_by info (is_live_file_info info) (is_file_info info) refl refl

pub whole : (r : FileRecord) → IsTrue (is_valid r) → IsTrue (is_live_file r) → IsTrue (describes_file r.size r.block_size r.blocks)
whole r v l =
    let parts = and_parts (not r.invalid) (is_well_formed r) v in
    sym (ap (λ t. not t || describes_file r.size r.block_size r.blocks) l) ∙ parts.1
