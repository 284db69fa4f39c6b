use Rattle.std.proofs.Common.{◌+◌, ◌<◌, ◌∷◌, ◌++◌, [], drop, sym, ap, ◌∙◌, arith, drop-cons, get_or, suc}
use Rattle.sync_blocks.proofs.Tilings.{ends_past_size}
use Rattle.sync_blocks.specs.Tiling.{tiles_from}
use Rattle.sync_blocks.proofs.tiling.covers.Goals as goal

pub returns-in_default-checked_add : goal.returns-in_default-checked_add
returns-in_default-checked_add c =
    let size = c.args.size in
    let block_size = c.args.block_size in
    let at = c.loop-block.at in
    let i = c.loop-block.block-index in
    let full = c.in-Some.full.now in
    let last = c.in-Some.last.now in
    let past : size < at + block_size = omega (arith, c.in_default-checked_add.ensures) in
    sym (c.loop-block.invariant
    ∙ ap (λ l. tiles_from at (l ++ last ∷ []) size block_size) (drop-cons full i last (omega arith))
    ∙ ends_past_size at size block_size (get_or full i last) last (drop (suc i) full) past)
