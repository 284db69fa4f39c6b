-- The blocks of a file's parts, one after the other.
use Rattle.std.proofs.Common.{◌≡◌, ℕ, zero, suc, ◌+◌, ◌-◌, ◌*◌, ◌/◌, ◌<◌, ◌≤◌, List, ◌∷◌, ◌++◌, length, take, drop, map, min, max, arith, refl, sym, ap, ◌∙◌, ◌⊎◌, inl, inr, ⊎_elim}
use Rattle.std.proofs.lemmas.Bool.{cases_lt}
use Rattle.std.proofs.lemmas.Grind.{div_ceil_times}
use Rattle.std.proofs.lemmas.List.{length-append, length-drop, map-append, take-append-le, drop-append-le, drop-drop, drop_at}
use Rattle.std.proofs.Math.Nat.{mul-le-mul_right}
use Rattle.std.specs.Int.{div_ceil}
use Rattle.std.specs.List.{range_with_len}
use Rattle.rayon.specs.Shown.{run-append}
use Rattle.sha2.specs.Sha256.{sha256}
use Rattle.sync_blocks.specs.declared.block.Block.{Block}
use Rattle.sync_blocks.specs.BlockList.{cut}
use Rattle.sync_blocks.specs.Groups.{placed_block, blocks_from, group_bytes}
use Rattle.sync_blocks.specs.declared.reading.TheConstants.{MAX_GROUP_BYTES}

-- a block that is counted begins within the bytes
pub begins_within : (size block_size i : ℕ) → 0 < block_size → i < div_ceil size block_size → i * block_size < size
begins_within size block_size i some lt =
    let count = div_ceil size block_size in
    let bound = (div_ceil_times size block_size some).1 in
    let step : i * block_size + block_size ≤ count * block_size = grind (arith, mul-le-mul_right) in
    omega arith

-- no two multiples of the block size stand within a block size of each other
not_above : (size block_size m n : ℕ) → size ≤ m * block_size → n * block_size < size + block_size → m < n → ⊥
not_above size block_size m n enough few lt =
    let step : m * block_size + block_size ≤ n * block_size = grind (arith, mul-le-mul_right) in
    absurd (omega arith)

-- the count is the one whose blocks hold the bytes, with less than a block to spare
pub count_is : (size block_size n : ℕ) → 0 < block_size → size ≤ n * block_size → n * block_size < size + block_size
    → div_ceil size block_size ≡ n
count_is size block_size n some enough few =
    let count = div_ceil size block_size in
    let bounds = div_ceil_times size block_size some in
    ⊎_elim (λ lt. absurd (not_above size block_size count n bounds.0 few lt))
    (λ ge. ⊎_elim (λ lt. absurd (not_above size block_size n count enough bounds.1 lt)) (λ le. omega arith) (cases_lt n count))
    (cases_lt count n)

-- two runs whose items are the same in turn
pub matched : {X : Type 0} (f g : ℕ → X) (a b m : ℕ) → ((i : ℕ) → i < m → f (a + i) ≡ g (b + i))
    → map f (range_with_len a m) ≡ map g (range_with_len b m)
matched f g a b zero h = refl
matched f g a b (suc m) h =
    let a0 : a ≡ a + 0 = omega arith in
    let b0 : b + 0 ≡ b = omega arith in
    let head : f a ≡ g b = ap f a0 ∙ h 0 (omega arith) ∙ ap g b0 in
    let each : (i : ℕ) → i < m → f ((a + 1) + i) ≡ g ((b + 1) + i) = λ i lt.
    let a1 : (a + 1) + i ≡ a + (i + 1) = omega arith in
    let b1 : b + (i + 1) ≡ (b + 1) + i = omega arith in
    ap f a1 ∙ h (i + 1) (omega arith) ∙ ap g b1 in
    let rest = matched f g (a + 1) (b + 1) m each in
    λ t. head t ∷ rest t

-- the block of a cut that begins at an offset
block_of : ℕ → List ℕ → Block
block_of offset bytes = record { offset = offset; size = length bytes; hash = sha256 bytes }

module _ (first : ℕ) (front back : List ℕ) (s n : ℕ) (some : 0 < s) (whole : length front ≡ n * s) where
  -- a block that lies in the first part
  before : (i : ℕ) → i < n → placed_block first (front ++ back) s i ≡ placed_block first front s i
  before i lt =
      let step : i * s + s ≤ n * s = grind (arith, mul-le-mul_right) in
      let left = length-drop (i * s) front in
      let rest : drop (i * s) (front ++ back) ≡ drop (i * s) front ++ back = drop-append-le (i * s) front back (omega arith) in
      let same : cut (front ++ back) s i ≡ cut front s i =
      ap (take s) rest ∙ take-append-le s (drop (i * s) front) back (omega arith) in
      λ t. record { offset = first + i * s; size = length (same t); hash = sha256 (same t) }

  -- a block behind it
  behind : (i : ℕ) → placed_block first (front ++ back) s (n + i) ≡ placed_block (first + length front) back s i
  behind i =
      let at : (n + i) * s ≡ length front + i * s = grind arith in
      let rest : drop ((n + i) * s) (front ++ back) ≡ drop (i * s) back =
      ap (λ k. drop k (front ++ back)) at ∙ sym (drop-drop (i * s) (length front) (front ++ back))
      ∙ ap (drop (i * s)) (drop_at front back (length front) refl) in
      let place : first + (n + i) * s ≡ (first + length front) + i * s = omega arith in
      λ t. record { offset = place t; size = length (take s (rest t)); hash = sha256 (take s (rest t)) }

  -- the blocks of both parts
  pub parts_joined : blocks_from first (front ++ back) s ≡ blocks_from first front s ++ blocks_from (first + length front) back s
  parts_joined =
      let m = div_ceil (length back) s in
      let both = length-append front back in
      let bounds = div_ceil_times (length back) s some in
      let front_count : div_ceil (length front) s ≡ n = count_is (length front) s n some (omega arith) (omega arith) in
      let product : (n + m) * s ≡ n * s + m * s = grind arith in
      let count : div_ceil (length (front ++ back)) s ≡ n + m =
      count_is (length (front ++ back)) s (n + m) some (omega arith) (omega arith) in
      let of_all = λ (i : ℕ). placed_block first (front ++ back) s i in
      let of_front = λ (i : ℕ). placed_block first front s i in
      let of_back = λ (i : ℕ). placed_block (first + length front) back s i in
      let low = matched of_all of_front 0 0 n (λ i lt.
      let zero_left : 0 + i ≡ i = omega arith in
      ap of_all zero_left ∙ before i lt ∙ ap of_front (sym zero_left)) in
      let high = matched of_all of_back (0 + n) 0 m (λ i lt.
      let zero_left : (0 + n) + i ≡ n + i = omega arith in
      let zero_right : i ≡ 0 + i = omega arith in
      ap of_all zero_left ∙ behind i ∙ ap of_back zero_right) in
      ap (λ k. map of_all (range_with_len 0 k)) count
      ∙ ap (map of_all) (sym (run-append 0 n m))
      ∙ map-append of_all (range_with_len 0 n) (range_with_len (0 + n) m)
      ∙ (λ t. low t ++ high t)
      ∙ ap (λ k. map of_front (range_with_len 0 k) ++ blocks_from (first + length front) back s) (sym front_count)

-- the blocks of what was read so far, and of the next group
pub group_joined : (bytes group : List ℕ) (s done size : ℕ) (old new : List Block) → 0 < s → length bytes ≡ done → done < size
    → (done ≡ size) ⊎ ((n : ℕ) × (done ≡ n * s)) → old ≡ blocks_from 0 bytes s → new ≡ old ++ blocks_from done group s
    → new ≡ blocks_from 0 (bytes ++ group) s
group_joined bytes group s done size old new some long more (inl all) first next = absurd (omega arith)
group_joined bytes group s done size old new some long more (inr (n, whole)) first next =
    let place : done ≡ 0 + length bytes = omega arith in
    next ∙ (λ t. first t ++ blocks_from (place t) group s) ∙ sym (parts_joined 0 bytes group s n some (long ∙ whole))

-- what is read is whole blocks, unless it is all
pub stays_whole : (s done size buffer next : ℕ) → 0 < s → done < size → (done ≡ size) ⊎ ((n : ℕ) × (done ≡ n * s))
    → buffer ≡ min size (group_bytes s) → next ≡ min buffer (size - done)
    → (done + next ≡ size) ⊎ ((n : ℕ) × (done + next ≡ n * s))
stays_whole s done size buffer next some more (inl all) b e = absurd (omega arith)
stays_whole s done size buffer next some more (inr (n, whole)) b e = ⊎_elim
    (λ lt. let m = max 1 (MAX_GROUP_BYTES / s) in
    let full : next ≡ s * m = omega arith in
    let product : (n + m) * s ≡ n * s + s * m = grind arith in
    inr (n + m, omega arith))
    (λ ge. inl (omega arith))
    (cases_lt buffer (size - done))
