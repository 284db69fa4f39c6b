-- When two blocks are the same.
use Rattle.std.proofs.Common.{◌≡◌, ap}
use Rattle.std.specs.Prelude.{◌↔◌, IsTrue}
use Rattle.std.specs.Cmp.Lexicographic.{bytes_decides}
use Rattle.std.proofs.lemmas.Bool.{and_parts, and_from, eqb-true, eq-eqb}
use Rattle.sync_blocks.specs.declared.block.Block.{Block}
use Rattle.sync_blocks.specs.Tiling.{same_block}

pub same_block_tells : (a b : Block) → IsTrue (same_block a b) ↔ (a ≡ b)
same_block_tells a b = (same, tested)
  where
    same : IsTrue (same_block a b) → a ≡ b
    same h =
        let parts = and_parts _ _ h in
        let numbers = and_parts _ _ parts.0 in
        let offset : a.offset ≡ b.offset = eqb-true a.offset b.offset numbers.0 in
        let size : a.size ≡ b.size = eqb-true a.size b.size numbers.1 in
        let hash : a.hash ≡ b.hash = (bytes_decides a.hash b.hash).0 parts.1 in
        λ t. record { offset = offset t; size = size t; hash = hash t }

    tested : a ≡ b → IsTrue (same_block a b)
    tested e = and_from _ _
        (and_from _ _ (eq-eqb a.offset b.offset (ap (λ c. c.offset) e)) (eq-eqb a.size b.size (ap (λ c. c.size) e)))
        ((bytes_decides a.hash b.hash).1 (ap (λ c. c.hash) e))
