-- The block list of bytes.
use Rattle.std.proofs.Common.{◌≡◌, ℕ, zero, suc, ◌+◌, ◌-◌, ◌*◌, ◌<◌, ◌≤◌, List, [], ◌∷◌, ◌++◌, Option, Some, None, length, take, drop, map, min, max, arith, refl, sym, ap, subst, ◌∙◌, true, ⊎_elim}
use Rattle.std.specs.Prelude.{IfSome, slice_get, flat_map, IsTrue}
use Rattle.std.specs.Io.KnownBytes.{Consumes, IsAtEnd}
use Rattle.std.proofs.KnownBytes.{Consumes-whole}
use Rattle.std.proofs.lemmas.Bool.{and_from, eq-eqb, le-leb, cases_lt}
use Rattle.std.proofs.lemmas.Grind.{div_ceil_times}
use Rattle.std.proofs.lemmas.List.{length-drop, length-take, take_all, flat_map_more, nil_from_length}
use Rattle.std.proofs.lemmas.List.FromFn.{length-map-range_with_len, get_or-map-range_with_len}
use Rattle.std.proofs.lemmas.Option.{slice_get-get_or, slice_get_past}
use Rattle.std.proofs.Math.Nat.{mul-le-mul_right}
use Rattle.std.specs.Int.{div_ceil}
use Rattle.std.specs.List.{range_with_len}
use Rattle.rayon.specs.Shown.{run-append, take-add}
use Rattle.sha2.specs.Sha256.{sha256}
use Rattle.sync_blocks.specs.declared.block.Block.{Block}
use Rattle.sync_blocks.specs.BlockList.{cut, block_at, block_count, block_list}
use Rattle.sync_blocks.specs.Groups.{placed_block, blocks_from}
use Rattle.sync_blocks.specs.Tiling.{tiles, tiles_from}
use Rattle.sync_blocks.proofs.Groups.{count_is, matched}

-- no bytes have no blocks
pub no_blocks : (s : ℕ) → 0 < s → div_ceil 0 s ≡ 0
no_blocks s some = count_is 0 s 0 some (omega arith) (omega arith)

some_block : (size s : ℕ) → 0 < s → 0 < size → 1 ≤ div_ceil size s
some_block size s some more =
    let bound = (div_ceil_times size s some).0 in
    ⊎_elim
    (λ none.
    let zero_count : div_ceil size s ≡ 0 = omega arith in
    let product : div_ceil size s * s ≡ 0 = ap (λ k. k * s) zero_count ∙ (omega arith) in
    absurd (omega arith))
    (λ le. le)
    (cases_lt (div_ceil size s) 1)

-- an empty file's block list
pub list_of_none : (s : ℕ) → 0 < s → block_list [] s ≡ block_at [] s 0 ∷ []
list_of_none s some =
    let count : block_count 0 s ≡ 1 = ap (max 1) (no_blocks s some) in
    ap (λ k. map (λ i. block_at [] s i) (range_with_len 0 k)) count

-- the blocks from a file's beginning are its block list, unless it is empty
pub list_from_start : (bytes : List ℕ) (s : ℕ) → 0 < s → 0 < length bytes → blocks_from 0 bytes s ≡ block_list bytes s
list_from_start bytes s some more =
    let n = div_ceil (length bytes) s in
    let one = some_block (length bytes) s some more in
    let count : n ≡ block_count (length bytes) s = omega arith in
    matched (λ i. placed_block 0 bytes s i) (λ i. block_at bytes s i) 0 0 n (λ i lt.
    let place : 0 + (0 + i) * s ≡ (0 + i) * s = omega arith in
    λ t. record { offset = place t; size = length (cut bytes s (0 + i)); hash = sha256 (cut bytes s (0 + i)) })
    ∙ ap (λ k. map (λ i. block_at bytes s i) (range_with_len 0 k)) count

pub blocks_of_none : (bytes : List ℕ) (s : ℕ) → 0 < s → length bytes ≡ 0 → (old : List Block) (e : Block) → old ≡ blocks_from 0 bytes s
    → e ≡ block_at [] s 0 → old ++ e ∷ [] ≡ block_list bytes s
blocks_of_none bytes s some none old e first is =
    let empty = nil_from_length bytes none in
    let nothing : blocks_from 0 [] s ≡ [] = ap (λ k. map (λ i. placed_block 0 [] s i) (range_with_len 0 k)) (no_blocks s some) in
    let before : old ≡ [] = first ∙ ap (λ b. blocks_from 0 b s) empty ∙ nothing in
    (λ t. before t ++ is t ∷ []) ∙ sym (list_of_none s some) ∙ ap (λ b. block_list b s) (sym empty)

-- a reader that is at its end gave all that it had
pub known_all : (a b : Option (List ℕ)) (size s : ℕ) (blocks : List Block)
    → ((bytes : List ℕ) × Consumes a b bytes × (length bytes ≡ size) × (blocks ≡ block_list bytes s)) → IsAtEnd b
    → IfSome a (λ bytes. (length bytes ≡ size) × (blocks ≡ block_list bytes s))
known_all a b size s blocks h end =
    Consumes-whole a b h.0 (λ bytes. (length bytes ≡ size) × (blocks ≡ block_list bytes s)) h.1 end (h.2, h.3)

-- how many bytes a block has
cut_length : (bytes : List ℕ) (s i : ℕ) → length (cut bytes s i) ≡ min s (length bytes - i * s)
cut_length bytes s i = length-take s (drop (i * s) bytes) ∙ ap (min s) (length-drop (i * s) bytes)

pub list_count : (bytes : List ℕ) (s : ℕ) → length (block_list bytes s) ≡ block_count (length bytes) s
list_count bytes s = length-map-range_with_len (λ i. block_at bytes s i) 0 (block_count (length bytes) s)

-- block i is that of cut i
pub list_at : (bytes : List ℕ) (s i : ℕ) → 1 ≤ s → i * s < length bytes
    → slice_get (block_list bytes s) i ≡ Some (record { offset = i * s; size = min s (length bytes - i * s); hash = sha256 (cut bytes s i) })
list_at bytes s i some lt =
    let n = block_count (length bytes) s in
    let list = block_list bytes s in
    let enough = (div_ceil_times (length bytes) s some).0 in
    let counted : i < n = ⊎_elim (λ l. omega arith)
    (λ ge.
    let step : div_ceil (length bytes) s * s ≤ i * s = mul-le-mul_right s ge in
    absurd (omega arith))
    (cases_lt i (div_ceil (length bytes) s)) in
    let long = list_count bytes s in
    slice_get-get_or list i (block_at bytes s 0) (omega arith)
    ∙ ap Some (get_or-map-range_with_len (λ k. block_at bytes s k) 0 n i i (block_at bytes s 0) counted (omega arith)
    ∙ (λ t. record { offset = i * s; size = cut_length bytes s i t; hash = sha256 (cut bytes s i) }))

-- and there are no others
pub list_past : (bytes : List ℕ) (s i : ℕ) → 1 ≤ s → 1 ≤ i → length bytes ≤ i * s → slice_get (block_list bytes s) i ≡ None
list_past bytes s i some later all =
    let few = (div_ceil_times (length bytes) s some).1 in
    let long = list_count bytes s in
    let counted : div_ceil (length bytes) s ≤ i = ⊎_elim
    (λ lt.
    let step : i * s + s ≤ div_ceil (length bytes) s * s = grind (arith, mul-le-mul_right) in
    absurd (omega arith))
    (λ ge. ge)
    (cases_lt i (div_ceil (length bytes) s)) in
    slice_get_past (block_list bytes s) i (omega arith)

joined_cuts : (bytes : List ℕ) (s n : ℕ) → flat_map (λ i. cut bytes s i) (range_with_len 0 n) ≡ take (n * s) bytes
joined_cuts bytes s zero =
    let none : zero * s ≡ 0 = omega arith in
    ap (λ k. take k bytes) (sym none)
joined_cuts bytes s (suc n) =
    let f = λ (i : ℕ). cut bytes s i in
    let one : n + 1 ≡ suc n = omega arith in
    let last : 0 + n ≡ n = omega arith in
    let product : n * s + s ≡ suc n * s = grind arith in
    ap (λ k. flat_map f (range_with_len 0 k)) (sym one)
    ∙ ap (flat_map f) (sym (run-append 0 n 1))
    ∙ ap (λ k. flat_map f (range_with_len 0 n ++ k ∷ [])) last
    ∙ sym (flat_map_more f [] (range_with_len 0 n) n)
    ∙ ap (λ l. l ++ cut bytes s n) (joined_cuts bytes s n)
    ∙ sym (take-add (n * s) s bytes)
    ∙ ap (λ k. take k bytes) product

-- the cuts one after the other are the bytes
pub cuts_joined : (bytes : List ℕ) (s : ℕ) → 1 ≤ s → flat_map (λ i. cut bytes s i) (range_with_len 0 (block_count (length bytes) s)) ≡ bytes
cuts_joined bytes s some =
    let n = block_count (length bytes) s in
    let enough = (div_ceil_times (length bytes) s some).0 in
    let step : div_ceil (length bytes) s * s ≤ n * s = mul-le-mul_right s (omega arith) in
    joined_cuts bytes s n ∙ take_all (n * s) bytes (omega arith)

-- blocks in a row, from one on, tile the bytes from its beginning on
rows_tile : (bytes : List ℕ) (s : ℕ) → 1 ≤ s → (k a : ℕ) → (a + k) * s < length bytes → length bytes ≤ (a + k) * s + s
    → tiles_from (a * s) (map (λ i. block_at bytes s i) (range_with_len a (suc k))) (length bytes) s ≡ true
rows_tile bytes s some zero a more all =
    let place : (a + 0) * s ≡ a * s = ap (λ n. n * s) (omega arith) in
    let long = cut_length bytes s a in
    let size = length (cut bytes s a) in
    let end : a * s + size ≡ length bytes = omega arith in
    let least : 1 ≤ size = omega arith in
    let most : size ≤ s = omega arith in
    and_from _ _ (and_from _ _ (and_from _ _ (eq-eqb (a * s) (a * s) refl) (eq-eqb (a * s + size) (length bytes) end))
    (le-leb 1 size least)) (le-leb size s most)
rows_tile bytes s some (suc k) a more all =
    let next : a * s + s ≡ (a + 1) * s = grind arith in
    let turn : (a + suc k) * s ≡ ((a + 1) + k) * s = ap (λ n. n * s) (omega arith) in
    let here : (a + 1) * s ≤ ((a + 1) + k) * s = mul-le-mul_right s (omega arith) in
    let long = cut_length bytes s a in
    let full : length (cut bytes s a) ≡ s = omega arith in
    let rest = rows_tile bytes s some k (a + 1) (omega arith) (omega arith) in
    and_from _ _ (and_from _ _ (eq-eqb (a * s) (a * s) refl) (eq-eqb (length (cut bytes s a)) s full))
    (subst (λ n. tiles_from n (map (λ i. block_at bytes s i) (range_with_len (a + 1) (suc k))) (length bytes) s ≡ true) (sym next) rest)

tiles_from_start : (bs : List Block) (n s : ℕ) → tiles bs (suc n) s ≡ tiles_from 0 bs (suc n) s
tiles_from_start [] n s = refl
tiles_from_start (b ∷ []) n s = refl
tiles_from_start (b ∷ c ∷ bs) n s = refl

one_more : (k s : ℕ) → (0 + k) * s + s ≡ suc k * s
one_more k s = grind arith

-- the block list of bytes tiles them
pub list_tiles : (bytes : List ℕ) (s : ℕ) → 1 ≤ s → IsTrue (tiles (block_list bytes s) (length bytes) s)
list_tiles [] s some =
    let none : 0 * s ≡ 0 = omega arith in
    let long = cut_length [] s 0 in
    let size : length (cut [] s 0) ≡ 0 = omega arith in
    rw (list_of_none s some) (and_from _ _ (eq-eqb (0 * s) 0 none) (eq-eqb (length (cut [] s 0)) 0 size))
list_tiles (x ∷ xs) s some =
    let bytes = x ∷ xs in
    let n = div_ceil (length bytes) s in
    let bounds = div_ceil_times (length bytes) s some in
    let one = some_block (length bytes) s some (omega arith) in
    let k = n - 1 in
    let count : block_count (length bytes) s ≡ suc k = omega arith in
    let last : suc k ≡ n = omega arith in
    let product : (0 + k) * s + s ≡ n * s = one_more k s ∙ ap (λ m. m * s) last in
    let start : 0 * s ≡ 0 = omega arith in
    let f = λ (i : ℕ). block_at bytes s i in
    let rows = rows_tile bytes s some k 0 (omega arith) (omega arith) in
    let from_zero = subst (λ at. tiles_from at (map f (range_with_len 0 (suc k))) (length bytes) s ≡ true) start rows in
    tiles_from_start (block_list bytes s) (length xs) s
    ∙ ap (λ m. tiles_from 0 (map f (range_with_len 0 m)) (length bytes) s) count
    ∙ from_zero

-- the same with its numbers
pub list_of_none_plain : (s : ℕ) → 1 ≤ s → block_list [] s ≡ record { offset = 0; size = 0; hash = sha256 [] } ∷ []
list_of_none_plain s some =
    let place : 0 * s ≡ 0 = omega arith in
    let nothing : cut [] s 0 ≡ [] = nil_from_length (cut [] s 0) (cut_length [] s 0 ∙ (omega arith)) in
    list_of_none s some ∙ (λ t. record { offset = place t; size = length (nothing t); hash = sha256 (nothing t) } ∷ [])
