use Rattle.std.proofs.Common.{◌≡◌, ◌+◌, [], ap, arith, drop, refl, rules, sym, take}
use Rattle.std.specs.Prelude.{◌↔◌, IsTrue, Ok, true}
use Rattle.std.proofs.lemmas.List.{drop_all, take_all}
use Rattle.file_store.specs.Trees.{Tree, bytes_of}
use Rattle.sync_pull.specs.Bytes.{AreOf}
use Rattle.sync_pull.specs.Moments.{GivesBlocks}
use Rattle.file_store.specs.Sequences.{not_called}
use Rattle.file_store.proofs.SequenceLemmas.{called_on}
use Rattle.sync_pull.specs.Moments.{no_block}
use Rattle.sync_pull.proofs.MomentLemmas.{block_next, rest_more}
use Rattle.sync_pull.proofs.BytesLemmas.{end-decides}
use Rattle.sync_pull.proofs.base.has_blocks.Goals as goal
use Rattle.std.proofs.Common.{subst}

pub returns-clause-exact : goal.returns-clause-exact
returns-clause-exact g c = λ keeps whole.
    let all = bytes_of ((g.S.FileStore.tree c.args.store.now).names c.args.name.now) in
    let blocks = c.args.blocks.now in
    let none : drop c.loop-block.block-index blocks ≡ [] = drop_all c.loop-block.block-index blocks c.loop-block-test.false in
    end-decides c.loop-block.at c.args.size all (AreOf blocks all) whole c.loop-block.invariant.within
    (subst (λ bs. AreOf blocks all ↔ AreOf bs (drop c.loop-block.at all)) none (c.loop-block.invariant.rest keeps))

pub returns-clause-told : goal.returns-clause-told
returns-clause-told g c = λ is.
    let blocks = c.args.blocks.now in
    let whole : c.loop-block.at ≡ c.args.size = search rules in
    subst (λ k. GivesBlocks g.S.FileStore.gives c.args.name.now c.args.store.now blocks k c.loop-block.store) whole
    (subst (λ bs. GivesBlocks g.S.FileStore.gives c.args.name.now c.args.store.now bs c.loop-block.at c.loop-block.store)
    (take_all c.loop-block.block-index blocks c.loop-block-test.false) c.loop-block.invariant.told)

pub loop-block-init : goal.loop-block-init
loop-block-init g c = record {
  within = omega arith;
  rest = λ keeps. (λ all. all, λ all. all);
  counted = refl;
  kept = λ keeps. refl;
  told = no_block;
  looks = not_called;
}

pub loop-block-preserved : goal.loop-block-preserved
loop-block-preserved g c =
    let inv = c.loop-block.invariant in
    let blocks = c.args.blocks.now in
    let i = c.loop-block.block-index in
    let at = c.loop-block.at in
    let test = c.loop-block-test.true in
    let has : c.has_block.result ≡ Ok true = search rules in
    let yes : IsTrue c.in_ok-has_block.field-0 = search rules in
    let all = bytes_of ((g.S.FileStore.tree c.args.store.now).names c.args.name.now) in
    record {
      within = search rules;
      rest = λ keeps. subst (λ k. AreOf blocks all ↔ AreOf (drop (i + 1) blocks) (drop (at + k) all)) (sym c.from-in-loop-block.ensures)
          (rest_more blocks i at _ _ all (AreOf blocks all) ((c.in_ok-has_block.ensures.exact keeps).0 yes) test (search rules)
          (ap (λ (t : Tree). bytes_of (t.names c.args.name.now)) (inv.kept keeps)) (inv.rest keeps));
      counted = search rules;
      kept = search rules;
      told = subst (λ k. GivesBlocks g.S.FileStore.gives c.args.name.now c.args.store.now (take (i + 1) blocks) (at + k) c.has_block.new.store) (sym c.from-in-loop-block.ensures)
          (block_next g.S.FileStore.gives c.args.name.now c.args.store.now c.loop-block.store c.has_block.new.store blocks i at _ (c.has_block.ensures.told has) test (search rules) inv.told);
      looks = called_on _ _ _ _ _ inv.looks c.has_block.ensures.looks;
    }
