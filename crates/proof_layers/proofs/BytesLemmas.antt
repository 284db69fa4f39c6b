-- What blocks say of bytes.
use Rattle.std.proofs.Common.{◌≡◌, ℕ, zero, suc, ◌+◌, ◌*◌, ◌≤◌, List, [], ◌∷◌, ◌++◌, length, map, max, take, drop, sym, ap, subst, ◌∙◌, arith}
use Rattle.std.specs.Int.{div_ceil}
use Rattle.std.specs.List.{range_with_len}
use Rattle.std.proofs.lemmas.Grind.{div_ceil_times}
use Rattle.std.proofs.lemmas.List.{drop_all, drop_min, drop-drop, length-take, take_min, take-append-drop}
use Rattle.std.proofs.Math.Nat.{mul-le-mul_right}
use Rattle.sha2.specs.Sha256.{sha256}
use Rattle.sync_blocks.specs.BlockList.{block_at, block_count, block_list}
use Rattle.sync_blocks.specs.declared.block.Block.{Block}
use Rattle.sync_pull.specs.Bytes.{AreOf}
use Rattle.proof_layers.specs.Alike.{HasNoCollision}

-- the blocks from block i on are those of the bytes from there on, if there are so many
own-from : (bytes : List ℕ) (s k i : ℕ) → length bytes ≤ (i + k) * s → AreOf (map (λ j. block_at bytes s j) (range_with_len i k)) (drop (i * s) bytes)
own-from bytes s zero i all =
    let here : i + 0 ≡ i = omega arith in
    drop_all (i * s) bytes (subst (λ (n : ℕ). length bytes ≤ n * s) here all)
own-from bytes s (suc k) i all =
    let rest = drop (i * s) bytes in
    let part = take s rest in
    let same : take (length part) rest ≡ part = ap (λ n. take n rest) (length-take s rest) ∙ take_min s rest in
    let further : i * s + s ≡ (i + 1) * s = omega arith in
    let next : drop (length part) rest ≡ drop ((i + 1) * s) bytes =
    ap (λ n. drop n rest) (length-take s rest) ∙ drop_min s rest ∙ drop-drop s (i * s) bytes ∙ ap (λ n. drop n bytes) further in
    let count : i + suc k ≡ i + 1 + k = omega arith in (
      record { size = ap length same; digest = ap sha256 same },
      subst (AreOf (map (λ j. block_at bytes s j) (range_with_len (i + 1) k))) (sym next)
          (own-from bytes s k (i + 1) (subst (λ (n : ℕ). length bytes ≤ n * s) count all)),
    )

-- the block list of bytes is theirs
pub own-blocks : (bytes : List ℕ) (s : ℕ) → 1 ≤ s → AreOf (block_list bytes s) bytes
own-blocks bytes s some =
    let most = div_ceil (length bytes) s in
    let enough : length bytes ≤ most * s = (div_ceil_times (length bytes) s some).0 in
    let fewer : most ≤ 0 + max 1 most = omega arith in
    let more : most * s ≤ (0 + max 1 most) * s = mul-le-mul_right s fewer in
    let start : 0 * s ≡ 0 = omega arith in
    subst (λ (k : ℕ). AreOf (block_list bytes s) (drop k bytes)) start (own-from bytes s (block_count (length bytes) s) 0 (omega arith))

-- bytes of the same blocks are the same where no digest is that of other bytes
pub same-bytes : (bs : List Block) (one other : List ℕ) → AreOf bs one → AreOf bs other → HasNoCollision bs one other → one ≡ other
same-bytes [] one other e f h = e ∙ sym f
same-bytes (b ∷ bs) one other e f h =
    let front = h.0 (e.0.digest ∙ sym f.0.digest) in
    let back = same-bytes bs (drop b.size one) (drop b.size other) e.1 f.1 h.1 in
    sym (take-append-drop b.size one) ∙ ap (λ x. x ++ drop b.size one) front ∙ ap (λ y. take b.size other ++ y) back ∙ take-append-drop b.size other
