use Rattle.std.proofs.Common.{◌≡◌, take, refl, subst, sym, ◌∙◌, arith}
use Rattle.std.proofs.lemmas.List.{take_all}
use Rattle.folder_core.proofs.ListTests.{In, contains_in}
use Rattle.folder_index.specs.Chunks.{groups_in}
use Rattle.folder_index.proofs.Spared.{one_spared}
use Rattle.folder_index.proofs.groups.spare_all.Goals as goal

pub loop-announced-init : goal.loop-announced-init
loop-announced-init c = record { groups = c.requires; kept = refl; promised = refl; spares = λ r i. absurd i }

pub loop-announced-preserved : goal.loop-announced-preserved
loop-announced-preserved c =
    let rs = c.args.records.now in
    let i = c.loop-announced.announced-index in
    let r = c.announced-item.result in
    let inv = c.loop-announced.invariant in
    let of = c.in_ok-spot.ensures in
    let new = groups_in c.spare_in.new.names in
    record {
      groups = of.groups;
      kept = of.kept ∙ inv.kept;
      promised = of.promises_stay ∙ inv.promised;
      spares = one_spared c.args.device rs i r new c.loop-announced-test.true c.announced-item.is (λ x j. of.spares x.name (inv.spares x j)) (of.spare);
    }

pub returns-clause-spares : goal.returns-clause-spares
returns-clause-spares c = λ r there.
    let rs = c.args.records.now in
    let all : take c.loop-announced.announced-index rs ≡ rs = take_all c.loop-announced.announced-index rs (let f = c.loop-announced-test.false in omega arith) in
    c.loop-announced.invariant.spares r (subst (In r) (sym all) (contains_in rs r there))
