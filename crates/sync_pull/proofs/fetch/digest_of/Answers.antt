use Rattle.std.proofs.Common.{◌≡◌, ap, drop, length, sym, take, ◌∙◌, List}
use Rattle.std.specs.Prelude.{slice_get}
use Rattle.sha2.specs.Sha256.{sha256}
use Rattle.sync_blocks.specs.declared.block.Block.{Block}
use Rattle.sync_pull.proofs.GroupLemmas.{cut-hash, looked-up}
use Rattle.sync_pull.proofs.fetch.digest_of.Goals as goal

pub returns-then-block-found : goal.returns-then-block-found
returns-then-block-found c =
    let at = c.in-Some.ensures.lookup in
    let block = c.in-Some.block.now in
    let bytes = c.args.bytes.now in
    let there = looked-up c.args.hashed.now c.args.i block at.3.0 at.3.1 in
    let offset : block.offset ≡ c.args.offset = c.if-block-offset.true in
    let size : block.size ≡ length c.args.found.now = c.if-block-found.true in
    cut-hash c.parts_make_the_block_list.ensures.none c.parts_make_the_block_list.ensures.whole c.block_list_is_by_cuts.ensures.each c.block_list_is_by_cuts.ensures.no_other
    bytes c.args.block_size c.args.i block c.requires.some (ap (λ (l : List Block). slice_get l c.args.i) (sym c.requires.hashed) ∙ there)
    ∙ ap sha256 (ap (λ k. take k (drop block.offset bytes)) size ∙ ap (λ o. take (length c.args.found.now) (drop o bytes)) offset ∙ sym c.requires.found)
