-- What is found can be recorded.
use Rattle.std.proofs.Common.{◌≡◌, ℕ, zero, suc, ◌*◌, ◌≤◌, List, [], ◌∷◌, length, Option, Some, None, Bool, true, false, refl, sym, ap, subst, ◌∙◌, arith}
use Rattle.std.specs.Prelude.{◌^◌, ◌&&◌, ℤ, pos, negsuc, IsTrue, find, if◌then◌else◌, nat_lt, unwrap_or}
use Rattle.std.specs.List.{AllByRecursion}
use Rattle.std.specs.Ordering.{int_eq}
use Rattle.std.proofs.lemmas.Bool.{and_from, lt-ltb}
use Rattle.sync_blocks.specs.BlockList.{block_list}
use Rattle.sync_blocks.specs.Sizes.{block_size_for, block_sizes, is_block_size}
use Rattle.sync_blocks.specs.Tiling.{tiles}
use Rattle.sync_record.specs.Records.{FileRecord, is_live_file}
use Rattle.folder_core.specs.declared.finding.Finding.{Finding}
use Rattle.folder_core.specs.Steps.{is_recordable}
use Rattle.sync_scan.specs.Looks.{IsRecordable, IsTold, are_recorded, block_size_in, block_size_of, chosen_block_size, recorded_block_size}
use Rattle.file_store.specs.Names.{Name}
use Rattle.file_store.specs.declared.node.Stat.TheVariants as stat
use Rattle.sync_scan.specs.Told.{Giving}
use Rattle.sync_scan.specs.declared.scanned.Look.{Look}
use Rattle.sync_scan.specs.declared.scanned.Look.TheVariants.{Found, Gone, Skipped, Changing}

-- what is found in a list, or stands in its place, passes a test that all pass
find-passes : (p q : ℕ → Bool) (xs : List ℕ) (d : ℕ) → q d ≡ true → AllByRecursion (λ x. q x ≡ true) xs → q (unwrap_or (find p xs) d) ≡ true
find-passes p q [] d last each = last
find-passes p q (x ∷ xs) d last each =
    elim (p x) as (λ t. q (unwrap_or (if t then Some x else find p xs) d) ≡ true) [ true ↦ each.0 | false ↦ find-passes p q xs d last each.1 ]

-- the block size of a new file is one that files may have
pub new-size-is : (n : ℕ) → is_block_size (block_size_for n) ≡ true
new-size-is n = find-passes (λ size. nat_lt n (2000 * size)) is_block_size block_sizes (2 ^ 24) refl (refl, (refl, (refl, (refl, (refl, (refl, (refl, (refl, tt))))))))

in-is : (z : ℤ) (b : ℕ) → block_size_in z ≡ Some b → is_block_size b ≡ true
in-is (pos n) b e = by (is_block_size n) refl e
  where
    by : (t : Bool) → is_block_size n ≡ t → (if is_block_size n then Some n else None) ≡ Some b → is_block_size b ≡ true
    by true t e =
        let same : Some n ≡ Some b = ap (λ x. if x then Some n else None) (sym t) ∙ e in
        let eq : n ≡ b = cc in
        ap is_block_size (sym eq) ∙ t
    by false t e =
        let none : None ≡ Some b = ap (λ x. if x then Some n else None) (sym t) ∙ e in
        absurd (cc)
in-is (negsuc n) b e = absurd (cc)

-- so is that of a local record
pub recorded-is : (local : Option FileRecord) (size b : ℕ) → recorded_block_size local size ≡ Some b → is_block_size b ≡ true
recorded-is None size b e = absurd (cc)
recorded-is (Some r) size b e = by (is_live_file r && int_eq r.size (pos size)) e
  where
    by : (t : Bool) → (if t then block_size_in r.block_size else None) ≡ Some b → is_block_size b ≡ true
    by true e = in-is r.block_size b e
    by false e = absurd (cc)

-- and that by which a file is cut
pub chosen-is : (local : Option FileRecord) (bytes : List ℕ) → is_block_size (block_size_of local bytes) ≡ true
chosen-is local bytes = by (recorded_block_size local (length bytes)) refl
  where
    by : (o : Option ℕ) → recorded_block_size local (length bytes) ≡ o → is_block_size (chosen_block_size local bytes o) ≡ true
    by None e = new-size-is (length bytes)
    by (Some b) e =
        elim (are_recorded local (length bytes) (block_list bytes b)) as (λ t. is_block_size (if t then b else block_size_for (length bytes)) ≡ true) [
          | true ↦ recorded-is local (length bytes) b e
          | false ↦ new-size-is (length bytes)
        ]

-- a block size that files may have is not 0
pub some-size : (b : ℕ) → is_block_size b ≡ true → 1 ≤ b
some-size zero e = absurd (cc)
some-size (suc n) e = omega arith

abbrev pub ListTiles : Type 0
ListTiles = (bytes : List ℕ) (block_size : ℕ) → 1 ≤ block_size → IsTrue (tiles (block_list bytes block_size) (length bytes) block_size)

-- what is found can be recorded, since block lists tile
pub found-recordable : {S : Type 0} → ListTiles → (gives : Giving S) (n : Name) (local : Option FileRecord) (look : Look) → IsTold gives n local look → IsRecordable look
found-recordable tile gives n local (Found f) (stat.Directory, says, e) = subst (λ (g : Finding). IsTrue (is_recordable g.content)) (sym e) refl
found-recordable tile gives n local (Found f) (stat.File size modified, says, (within, r)) =
    let block_size = block_size_of local r.first in
    let is = chosen-is local r.first in
    let fits : nat_lt (length r.bytes) (2 ^ 63) ≡ true = lt-ltb (length r.bytes) (2 ^ 63) (omega (arith, r.long, within)) in
    let covers : tiles (block_list r.bytes block_size) (length r.bytes) block_size ≡ true = tile r.bytes block_size (some-size block_size is) in
    ap (λ (g : Finding). is_recordable g.content) r.is ∙ and_from _ _ fits (and_from _ _ is covers)
found-recordable tile gives n local (Found f) (stat.Missing, says, never) = absurd never
found-recordable tile gives n local (Found f) (stat.Other, says, never) = absurd never
found-recordable tile gives n local Gone told = tt
found-recordable tile gives n local Skipped told = tt
found-recordable tile gives n local Changing told = tt
