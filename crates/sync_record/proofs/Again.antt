-- The message of a record gives the record again.
use Rattle.std.proofs.Common.{None, ◌≡◌, ◌≢◌, Bool, true, false, not, ◌&&◌, ◌||◌, ◌==◌, ℤ, pos, if◌then◌else◌, List, [], ◌∷◌, map, length, All, refl, sym, ap, ◌∙◌, rules}
use Rattle.std.specs.List.{list_all}
use Rattle.std.specs.Ordering.{int_eq}
use Rattle.std.proofs.lemmas.Bool.{and_from, eq-eqb}
use Rattle.std.proofs.lemmas.List.Elements.{All-head, All-tail}
use Rattle.sync_names.specs.Refusal.{refusal}
use Rattle.sync_names.proofs.Lemmas.{first_refusal-safe}
use Rattle.sync_version.specs.Versions.{Vector, IsCanonical}
use Rattle.sync_version.specs.Computed.{from_counters}
use Rattle.sync_version.proofs.Lemmas.{from_canonical}
use Rattle.sync_blocks.specs.declared.block.Block.{Block}
use Rattle.sync_blocks.specs.declared.size.TheConstants.{MIN_BLOCK_SIZE}
use Rattle.sync_record.specs.Records.{FileRecord, is_live_file}
use Rattle.sync_record.specs.Validity.{IsKept, FitsBlockInfo, FitsFileInfo, describes_file}
use Rattle.sync_record.specs.Infos.{block_of, block_info_of, counter_of, info_of, is_block, record_of, record_with, version_of, agrees}

pairs_again : (v : Vector) → map (λ c. (c.id, c.value)) (map counter_of v) ≡ v
pairs_again [] = refl
pairs_again (c ∷ cs) = ap (λ rest. c ∷ rest) (pairs_again cs)

version_again : (v : Vector) → IsCanonical v → version_of (map counter_of v) ≡ v
version_again v canonical = ap from_counters (pairs_again v) ∙ from_canonical v canonical

blocks_again : (bs : List Block) → map block_of (map block_info_of bs) ≡ bs
blocks_again [] = refl
blocks_again (b ∷ bs) = ap (λ rest. b ∷ rest) (blocks_again bs)

are_blocks : (bs : List Block) → All FitsBlockInfo bs → list_all is_block (map block_info_of bs) ≡ true
are_blocks [] h = refl
are_blocks (b ∷ bs) h =
    and_from _ _ (eq-eqb (length b.hash) 32 (All-head FitsBlockInfo b bs h).hash) (are_blocks bs (All-tail FitsBlockInfo b bs h))

size_again : (n : ℤ) (is_none : Bool) → int_eq n (pos 0) ≡ is_none → n ≢ pos 0 → (if is_none then pos MIN_BLOCK_SIZE else n) ≡ n
size_again n true e h = absurd (h (search (rules, e)))
size_again n false e h = refl

no_blocks : (bs : List Block) → (length bs == 0) ≡ true → bs ≡ []
no_blocks [] h = refl
no_blocks (b ∷ bs) h = search (rules, h)

first_of : (a b : Bool) → b ≡ false → (a || b) ≡ true → a ≡ true
first_of true b e h = refl
first_of false b e h = sym e ∙ h

-- the record with these in place of its own
abbrev with_parts : FileRecord → Bool → Vector → ℤ → List Block → FileRecord
with_parts r invalid version block_size blocks = record r { invalid = invalid; version = version; block_size = block_size; blocks = blocks }

abbrev describes : FileRecord → Bool
describes r = describes_file r.size r.block_size r.blocks

module _ (r : FileRecord) (kept : IsKept r) (fits : FitsFileInfo r) where
  version : version_of (map counter_of r.version) ≡ r.version
  version = version_again r.version fits.version

  agreed : agrees r.size r.block_size (map block_info_of r.blocks) ≡ describes r
  agreed = λ i. are_blocks r.blocks fits.blocks i && describes_file r.size (size_again r.block_size _ refl kept.block_size i) (blocks_again r.blocks i)

  other : is_live_file r ≡ false → record_with (info_of r) r.invalid [] ≡ r
  other l =
      let none = no_blocks r.blocks (first_of (length r.blocks == 0) _ (ap (λ live. live && describes r) l) kept.blocks) in
      λ i. with_parts r r.invalid (version i) (size_again r.block_size _ refl kept.block_size i) (sym none i)

  file : record_with (info_of r) r.invalid (map block_of (map block_info_of r.blocks)) ≡ r
  file = λ i. with_parts r r.invalid (version i) (size_again r.block_size _ refl kept.block_size i) (blocks_again r.blocks i)

  broken : is_live_file r ≡ true → describes r ≡ false → record_with (info_of r) true [] ≡ r
  broken l d =
      let no_file : (is_live_file r && describes r) ≡ false = (λ i. l i && d i) in
      let none = no_blocks r.blocks (first_of (length r.blocks == 0) _ no_file kept.blocks) in
      let invalid = first_of r.invalid _ (λ i. not (l i) || d i) kept.marked in
      λ i. with_parts r (sym invalid i) (version i) (size_again r.block_size _ refl kept.block_size i) (sym none i)

  by_cases : (live d : Bool) → is_live_file r ≡ live → describes r ≡ d
      → (if live then (if d then record_with (info_of r) r.invalid (map block_of (map block_info_of r.blocks)) else record_with (info_of r) true []) else record_with (info_of r) r.invalid []) ≡ r
  by_cases false d l e = other l
  by_cases true false l e = broken l e
  by_cases true true l e = file

  pub again : record_of (info_of r) ≡ r
  again =
      ap (λ d. if is_live_file r then (if d then record_with (info_of r) r.invalid (map block_of (map block_info_of r.blocks)) else record_with (info_of r) true []) else record_with (info_of r) r.invalid []) agreed
      ∙ by_cases _ _ refl refl

  pub unrefused : refusal r.name ≡ None
  unrefused = (first_refusal-safe r.name fits.name.utf8).1 fits.name
