use Rattle.std.proofs.Common.{◌≡◌, ◌<◌, rules, length, take, subst, arith}
use Rattle.std.proofs.lemmas.Grind.{common_steps}
use Rattle.bepd_run.proofs.Beginning.{HasFrames, closed-none, closed-some, frames-more}
use Rattle.bepd_run.proofs.journal.begun_journal.Goals as goal

pub loop-folder-preserved : goal.loop-folder-preserved
loop-folder-preserved c = record {
  begun = frames-more c.args.header.now c.args.plans.now c.loop-folder.folder-index c.folder-item.result _ _ _ c.loop-folder.invariant.long
      c.loop-folder-test.true c.folder-item.is c.loop-folder.invariant.begun c.in_ok-frame.ensures c.in_ok-push.ensures;
  long = c.loop-folder.invariant.long;
}

pub returns-then-is_empty : goal.returns-then-is_empty
returns-then-is_empty c =
    let all : take c.loop-folder.folder-index c.args.plans.now ≡ c.args.plans.now = grind (arith, common_steps) in
    let none : length c.args.plans.now ≡ 0 = search rules in
    closed-none c.args.header.now c.args.plans.now _ none (subst (λ l. HasFrames c.args.header.now l c.loop-folder.bytes.items) all c.loop-folder.invariant.begun)

pub returns : goal.returns
returns c =
    let all : take c.loop-folder.folder-index c.args.plans.now ≡ c.args.plans.now = grind (arith, common_steps) in
    let some : 0 < length c.args.plans.now = search rules in
    closed-some c.args.header.now c.args.plans.now c.loop-folder.bytes.items _ c.loop-folder.invariant.long some
    (subst (λ l. HasFrames c.args.header.now l c.loop-folder.bytes.items) all c.loop-folder.invariant.begun) c.in_ok-push_closing.ensures
