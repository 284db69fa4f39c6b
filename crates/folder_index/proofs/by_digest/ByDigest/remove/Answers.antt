use Rattle.std.proofs.Common.{◌≡◌, List, take, sym, ap, ◌∙◌, arith}
use Rattle.std.specs.BTreeMap.{is_at}
use Rattle.std.specs.FinSet.{remove}
use Rattle.std.specs.Set.{remove_key}
use Rattle.std.proofs.lemmas.List.{take_all}
use Rattle.std.proofs.lemmas.List.Elements.{All-same}
use Rattle.std.proofs.lemmas.Map.Views.{All-remove_key}
use Rattle.sync_blocks.specs.declared.block.Block.{Block}
use Rattle.folder_index.specs.Digests.{FitsIn64Bits, Places, Spot, spot_cmp, without_blocks}
use Rattle.folder_index.proofs.Digested.{removed, without_next, without_none}
use Rattle.folder_index.proofs.by_digest.ByDigest.remove.Goals as goal

pub loop-i-init : goal.loop-i-init
loop-i-init c = record { fit = c.self.invariant; places = c.self.view_is ∙ sym (without_none c.args.owner c.args.self.now) }

pub loop-i-preserved : goal.loop-i-preserved
loop-i-preserved c =
    let owner = c.args.owner in
    let i = c.loop-i.i in
    let old = c.loop-i.self-inside.places.keys in
    let new = c.remove.new.self.keys in
    let spot : Spot = (c.start_of.result, owner, i) in
    let left = without_blocks owner (take i c.args.blocks.now) c.args.self.now in
    record {
      fit = All-same FitsIn64Bits new (remove_key (is_at (spot_cmp spot)) old) c.remove.ensures.keys (All-remove_key (is_at (spot_cmp spot)) FitsIn64Bits old c.loop-i.invariant.fit);
      places = removed old new spot c.remove.ensures.updates.0
          ∙ ap (λ (m : Places). remove m spot) c.loop-i.invariant.places
          ∙ (λ j. remove left (c.start_of.ensures j, owner, i))
          ∙ sym (without_next owner c.args.blocks.now i c.args.self.now c.loop-i-test.true);
    }

pub returns : goal.returns
returns c =
    let all : take c.loop-i.i c.args.blocks.now ≡ c.args.blocks.now = take_all c.loop-i.i c.args.blocks.now (let f = c.loop-i-test.false in omega arith) in
    c.loop-i.invariant.places ∙ ap (λ (bs : List Block). without_blocks c.args.owner bs c.args.self.now) all
