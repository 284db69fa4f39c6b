-- The blocks of a file fit a message's.
use Rattle.std.proofs.Common.{◌≡◌, ◌≢◌, ℕ, zero, suc, ◌+◌, ◌<◌, ◌≤◌, ◌^◌, ◌==◌, Bool, true, false, ◌||◌, ◌&&◌, List, [], ◌∷◌, All, IsTrue, length, arith, not, refl, sym, ◌∙◌}
use Rattle.std.specs.Prelude.{pos}
use Rattle.std.proofs.lemmas.Bool.{and_from, and_parts, eqb-true, leb-true}
use Rattle.std.proofs.lemmas.Bool.Decides.{nat_tests}
use Rattle.std.proofs.lemmas.List.Elements.{All-cons, All-nil}
use Rattle.sync_blocks.specs.declared.block.Block.{Block}
use Rattle.sync_blocks.specs.Sizes.{is_block_size}
use Rattle.sync_blocks.specs.Tiling.{tiles, tiles_from}
use Rattle.sync_blocks.proofs.Tilings.{tiles_within}
use Rattle.sync_record.specs.Records.{FileRecord, is_live_file}
use Rattle.sync_record.specs.Validity.{FitsBlockInfo, IsKept, describes_file, has_no_blocks}

right : (a : Bool) {b : Bool} → IsTrue b → IsTrue (a || b)
right true h = refl
right false h = h

abbrev IsWithin : ℕ → Block → Type 0
IsWithin s b = b.size ≤ s

from_small : (bs : List Block) (at size s : ℕ) → tiles_from at bs size s ≡ true → All (IsWithin s) bs
from_small [] at size s h = All-nil (IsWithin s)
from_small (x ∷ []) at size s h =
    All-cons (IsWithin s) x [] (leb-true _ _ (and_parts _ _ h).1) (All-nil (IsWithin s))
from_small (x ∷ y ∷ ys) at size s h =
    let parts = and_parts ((x.offset == at) && (x.size == s)) (tiles_from (at + s) (y ∷ ys) size s) h in
    let same : x.size ≡ s = eqb-true x.size s (and_parts (x.offset == at) (x.size == s) parts.0).1 in
    All-cons (IsWithin s) x (y ∷ ys) (omega arith) (from_small (y ∷ ys) (at + s) size s parts.1)

small : (bs : List Block) (size s : ℕ) → IsTrue (tiles bs size s) → All (IsWithin s) bs
small [] size s h = All-nil (IsWithin s)
small (b ∷ []) zero s h =
    let none : b.size ≡ 0 = eqb-true b.size 0 (and_parts (b.offset == 0) (b.size == 0) h).1 in
    All-cons (IsWithin s) b [] (omega arith) (All-nil (IsWithin s))
small (b ∷ []) (suc n) s h = from_small (b ∷ []) 0 (suc n) s h
small (b ∷ c ∷ bs) size s h = from_small (b ∷ c ∷ bs) 0 size s h

size_small : (s : ℕ) → IsTrue (is_block_size s) → s < 2 ^ 31
size_small s h = grind (arith, nat_tests)

-- a file's block size fits a message's
pub block_size_small : (s size : ℕ) (bs : List Block) → IsTrue (describes_file (pos size) (pos s) bs) → s < 2 ^ 31
block_size_small s size bs h = size_small s (and_parts (is_block_size s) (tiles bs size s) h).0

fits : (bs : List Block) (size s : ℕ) → size < 2 ^ 63 → s < 2 ^ 31 → All (λ b. length b.hash ≡ 32) bs
    → All (λ b. b.offset + b.size ≤ size) bs → All (IsWithin s) bs → All FitsBlockInfo bs
fits bs size s n m hashes ends sizes k b within = record {
  offset = let e = ends k b within in omega arith;
  size = let e = sizes k b within in omega arith;
  hash = hashes k b within;
}

-- the blocks that make up a file fit a message's
pub tiling_fits : (bs : List Block) (size s : ℕ) → size < 2 ^ 63 → IsTrue (describes_file (pos size) (pos s) bs)
    → All (λ b. length b.hash ≡ 32) bs → All FitsBlockInfo bs
tiling_fits bs size s n h hashes =
    let parts = and_parts (is_block_size s) (tiles bs size s) h in
    fits bs size s n (size_small s parts.0) hashes (tiles_within bs size s parts.1) (small bs size s parts.1)

no_block_size : (s : ℕ) → IsTrue (is_block_size s) → pos s ≢ pos 0
no_block_size s h e = let none : s ≡ 0 = cc in absurd (grind (arith, nat_tests))

-- a valid live file of such blocks is kept
pub described_kept : (r : FileRecord) (size s : ℕ) → IsTrue (is_live_file r) → r.block_size ≡ pos s
    → IsTrue (describes_file (pos size) (pos s) r.blocks) → IsTrue (describes_file r.size r.block_size r.blocks) → IsKept r
described_kept r size s live sized described here = record {
  marked = right r.invalid (right (not (is_live_file r)) here);
  blocks = right (has_no_blocks r) (and_from _ _ live here);
  block_size = λ e. no_block_size s (and_parts (is_block_size s) (tiles r.blocks size s) described).0 (sym sized ∙ e);
}
