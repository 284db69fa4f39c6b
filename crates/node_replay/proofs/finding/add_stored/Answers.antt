use Rattle.std.proofs.Common.{◌≡◌, ◌++◌, ◌∙◌, map, take, sym, ap, arith}
use Rattle.std.proofs.lemmas.Grind.{common_steps}
use Rattle.std.proofs.lemmas.List.{append-nil}
use Rattle.std.proofs.lemmas.Result.{err_from_is_err_and}
use Rattle.node_state.specs.declared.state.StoredFolder.{StoredFolder}
use Rattle.node_replay.specs.Recovered.{firsts}
use Rattle.node_replay.proofs.Adding.{ids-more}
use Rattle.node_replay.proofs.All.{some-at}
use Rattle.node_replay.proofs.finding.add_stored.Goals as goal

pub loop-folder-init : goal.loop-folder-init
loop-folder-init c = λ xs is. is ∙ ap firsts (sym (append-nil xs))

pub loop-folder-preserved : goal.loop-folder-preserved
loop-folder-preserved c = λ xs is.
    c.in_ok-add.ensures (xs ++ map (λ (f : StoredFolder). f.id) (take c.loop-folder.folder-index c.args.folders.now)) (c.loop-folder.invariant xs is)
    ∙ ids-more c.args.folders.now c.loop-folder.folder-index c.folder-item.result c.loop-folder-test.true c.folder-item.is (λ f. f.id) xs

pub returns-clause-ids : goal.returns-clause-ids
returns-clause-ids c = λ xs is.
    let all : take c.loop-folder.folder-index c.args.folders.now ≡ c.args.folders.now = grind (arith, common_steps) in
    c.loop-folder.invariant xs is ∙ ap (λ fs. firsts (xs ++ map (λ (f : StoredFolder). f.id) fs)) all

pub returns-in_err-add-clause-some : goal.returns-in_err-add-clause-some
returns-in_err-add-clause-some c =
    let p = err_from_is_err_and c.from_residual.result c.from_residual.ensures.1 in
    rw p.1 (some-at c.args.folders.now c.loop-folder.folder-index c.loop-folder-test.true)
