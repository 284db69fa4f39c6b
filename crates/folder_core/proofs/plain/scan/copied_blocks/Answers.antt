use Rattle.std.proofs.Common.{◌≡◌, length, sym, subst, ◌∙◌, ◌++◌, [], ◌∷◌, All, arith}
use Rattle.std.proofs.lemmas.List.{take_more}
use Rattle.std.proofs.lemmas.List.Elements.{All-push}
use Rattle.sync_blocks.specs.declared.block.Block.{Block}
use Rattle.folder_core.proofs.plain.scan.copied_blocks.Goals as goal

pub loop-block-preserved : goal.loop-block-preserved
loop-block-preserved c = (
  c.in_ok-push.ensures.items
      ∙ (λ i. c.loop-block.invariant.0 i ++ c.copied_block.ensures.value i ∷ [])
      ∙ sym (take_more c.args.blocks.now c.loop-block.block-index _ (let test = c.loop-block-test.true in omega arith)),
  subst (All (λ (b : Block). length b.hash ≡ 32)) (sym c.in_ok-push.ensures.items)
      (All-push (λ (b : Block). length b.hash ≡ 32) c.loop-block.copied.items c.copied_block.result c.loop-block.invariant.1 c.copied_block.ensures.digest),
)
