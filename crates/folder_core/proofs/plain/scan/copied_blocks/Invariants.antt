use Rattle.std.proofs.Common.{◌≡◌, All, length, take}
use Rattle.folder_core.proofs.plain.scan.copied_blocks.Given as goal

-- the blocks so far
abbrev pub invariant-loop-block : goal.invariant-loop-block
invariant-loop-block l = (l.copied.items ≡ take l.block-index l.blocks) × All (λ b. length b.hash ≡ 32) l.copied.items
