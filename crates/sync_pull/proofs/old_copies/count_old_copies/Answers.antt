use Rattle.std.proofs.Common.{◌++◌, ◌∷◌, [], take, arith, length-append, subst, sym, ◌∙◌}
use Rattle.std.proofs.lemmas.Bool.{false≢true}
use Rattle.sync_pull.specs.Copies.{AreListedCopies}
use Rattle.sync_pull.proofs.OldCopyLemmas.{listed-push, listed-skip, take-one}
use Rattle.sync_pull.proofs.old_copies.count_old_copies.Goals as goal
use Rattle.sync_pull.proofs.old_copies.count_old_copies.Goals.{then-is_old_copy, else-is_old_copy}

pub loop-listed-preserved : goal.loop-listed-preserved
loop-listed-preserved c =
    let n = c.args.name.now in
    let copy = c.args.copy.now in
    let inv = c.loop-listed.invariant in
    let es = take c.loop-listed.listed-index c.args.entries.now in
    let e = c.listed-item.result in
    let more = take-one c.args.entries.now c.loop-listed.listed-index e c.loop-listed-test.true c.listed-item.is in
    elim c.if-is_old_copy.branch [
      | then-is_old_copy w ↦ record {
        within = (let was = inv.within in omega arith);
        chosen = (
          inv.chosen.0 ++ e.name ∷ [],
          subst (λ l. AreListedCopies n copy l (inv.chosen.0 ++ e.name ∷ [])) (sym more) (listed-push n copy es inv.chosen.0 e inv.chosen.1 (c.is_old_copy.ensures.0 w.if-is_old_copy.true)),
          (let long = length-append inv.chosen.0 (e.name ∷ []) in let was = inv.chosen.2 in omega arith),
        );
      }
      | else-is_old_copy w ↦ record {
        within = (let was = inv.within in omega arith);
        chosen = (
          inv.chosen.0,
          subst (λ l. AreListedCopies n copy l inv.chosen.0) (sym more) (listed-skip n copy es inv.chosen.0 e inv.chosen.1 (λ p. false≢true (sym w.if-is_old_copy.false ∙ c.is_old_copy.ensures.1 p))),
          w.count-is ∙ inv.chosen.2,
        );
      }
    ]
