use Rattle.std.proofs.Common.{◌≡◌, List, take, sym, ap, ◌∙◌, arith}
use Rattle.std.specs.BTreeSet.{insert_key}
use Rattle.std.specs.FinSet.{from_list, insert}
use Rattle.std.proofs.lemmas.List.{take_all}
use Rattle.std.proofs.lemmas.List.Elements.{All-same}
use Rattle.std.proofs.lemmas.Map.Views.{All-insert_key}
use Rattle.sync_blocks.specs.declared.block.Block.{Block}
use Rattle.folder_index.specs.Digests.{FitsIn64Bits, Places, Spot, spot_cmp, with_blocks, without_blocks}
use Rattle.folder_index.proofs.Digested.{inserted, undone, with_next, with_none}
use Rattle.folder_index.proofs.Results.{of_err, of_ok}
use Rattle.folder_index.proofs.by_digest.ByDigest.add.Goals as goal

pub loop-i-init : goal.loop-i-init
loop-i-init c = sym (with_none c.args.owner c.args.self.now)

pub invariant_of-self-in-loop-i : goal.invariant_of-self-in-loop-i
invariant_of-self-in-loop-i c =
    let old = c.self.inside.places.keys in
    let spot : Spot = (c.start_of.result, c.args.owner, c.loop-i.i) in
    let put = of_ok c.insert.result (sym c.is_err.ensures.value ∙ c.if-is_err.false) c.insert.ensures.keys in
    All-same FitsIn64Bits c.insert.new.self.keys (insert_key spot_cmp old spot) put (All-insert_key spot_cmp spot FitsIn64Bits old c.self.invariant (omega (arith, c.ranges.owner), omega arith))

pub returns-then-is_err-clause-err : goal.returns-then-is_err-clause-err
returns-then-is_err-clause-err c =
    let same = of_err c.insert.result (sym c.is_err.ensures.value ∙ c.if-is_err.true) c.insert.ensures.err in
    let bs = take c.loop-i.i c.args.blocks.now in
    c.remove.ensures
    ∙ ap (λ (ks : List Spot). without_blocks c.args.owner bs (from_list ks)) same
    ∙ ap (without_blocks c.args.owner bs) (c.self.view_is ∙ c.loop-i.invariant)
    ∙ undone c.args.owner bs c.args.self.now c.requires

pub loop-i-preserved : goal.loop-i-preserved
loop-i-preserved c =
    let owner = c.args.owner in
    let i = c.loop-i.i in
    let spot : Spot = (c.start_of.result, owner, i) in
    let put = of_ok c.insert.result (sym c.is_err.ensures.value ∙ c.if-is_err.false) c.insert.ensures.updates in
    let done = with_blocks owner (take i c.args.blocks.now) c.args.self.now in
    inserted c.self.inside.places.keys c.insert.new.self.keys spot put.0
    ∙ ap (λ (m : Places). insert m spot) (c.self.view_is ∙ c.loop-i.invariant)
    ∙ (λ j. insert done (c.start_of.ensures j, owner, i))
    ∙ sym (with_next owner c.args.blocks.now i c.args.self.now c.loop-i-test.true)

pub returns-clause-ok : goal.returns-clause-ok
returns-clause-ok c =
    let all : take c.loop-i.i c.args.blocks.now ≡ c.args.blocks.now = take_all c.loop-i.i c.args.blocks.now (let f = c.loop-i-test.false in omega arith) in
    c.loop-i.invariant ∙ ap (λ (bs : List Block). with_blocks c.args.owner bs c.args.self.now) all
