use Rattle.std.proofs.Common.{◌∷◌, ◌++◌, ◌∙◌, [], ap, sym, take}
use Rattle.std.proofs.lemmas.List.{take_more}
use Rattle.bepd_pair.proofs.Pulling.{pulls_more}
use Rattle.bepd_pair.proofs.pulls.pull_each.Goals as goal

pub loop-name-preserved : goal.loop-name-preserved
loop-name-preserved g c =
    let one = c.in_ok-pull_one.ensures.pulls in
    pulls_more c.args.cx.now.moment (take c.loop-name.name-index c.args.names.now) _ c.args.peer.now c.loop-name.peer c.pull_one.new.peer c.args.lines.now.items c.loop-name.lines.items c.pull_one.new.lines.items
    _ one.0 c.loop-name.invariant one.1 one.2
    (ap (λ n. take c.loop-name.name-index c.args.names.now ++ n ∷ []) c.name-item.is ∙ sym (take_more c.args.names.now c.loop-name.name-index c.name-item.result c.loop-name-test.true))
