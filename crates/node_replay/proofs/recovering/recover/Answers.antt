use Rattle.std.proofs.Common.{◌≡◌, ◌++◌, ◌∷◌, ◌∙◌, [], map, take, sym, ap, subst, arith}
use Rattle.std.specs.List.{AllByRecursion}
use Rattle.std.proofs.lemmas.Grind.{common_steps}
use Rattle.std.proofs.lemmas.List.{map-append}
use Rattle.std.proofs.lemmas.Result.{err_from_is_err_and}
use Rattle.node_replay.specs.declared.fault.RecoverFault.TheVariants.{OutOfMemory}
use Rattle.node_replay.specs.declared.recovering.RecoveredFolder.{RecoveredFolder}
use Rattle.node_replay.specs.Clear.{IsClear}
use Rattle.node_replay.specs.Recovered.{IsRecoveredFolder, ids_of}
use Rattle.node_replay.proofs.All.{all-more, all-push, more, not-each, not-in}
use Rattle.node_replay.proofs.recovering.recover.Goals as goal

pub loop-id-preserved : goal.loop-id-preserved
loop-id-preserved c =
    let ids = c.deref-id-items.result.now in
    let i = c.loop-id.id-index in
    let new = c.in_ok-folder.folder in
    record {
      ids = ap (map (λ (r : RecoveredFolder). r.stored.id)) c.in_ok-push.ensures.ok
          ∙ map-append (λ (r : RecoveredFolder). r.stored.id) c.loop-id.folders (new ∷ [])
          ∙ (λ j. c.loop-id.invariant.ids j ++ c.in_ok-folder.ensures.id j ∷ [])
          ∙ sym (more ids i c.id-item.result c.loop-id-test.true c.id-item.is);
      each = subst (AllByRecursion (IsRecoveredFolder c.args.me c.args.state.now c.args.frames.now)) (sym c.in_ok-push.ensures.ok)
          (all-push (IsRecoveredFolder c.args.me c.args.state.now c.args.frames.now) c.loop-id.folders new c.loop-id.invariant.each c.in_ok-folder.ensures.is);
      clear = λ e ne. all-more (IsClear e c.args.me c.args.state.now c.args.frames.now) ids i c.id-item.result c.loop-id-test.true c.id-item.is
          (c.loop-id.invariant.clear e ne) (c.in_ok-folder.ensures.clear e ne);
    }

pub returns-clause-recovered : goal.returns-clause-recovered
returns-clause-recovered c =
    let all : take c.loop-id.id-index c.deref-id-items.result.now ≡ c.deref-id-items.result.now = grind (arith, common_steps) in
    record { ids = c.loop-id.invariant.ids ∙ all ∙ c.deref-id-items.ensures.value ∙ c.in_ok-ids.ensures.ids; each = c.loop-id.invariant.each }

pub returns-clause-clear : goal.returns-clause-clear
returns-clause-clear c = λ e ne.
    let all : take c.loop-id.id-index c.deref-id-items.result.now ≡ c.deref-id-items.result.now = grind (arith, common_steps) in
    subst (AllByRecursion (IsClear e c.args.me c.args.state.now c.args.frames.now)) (all ∙ c.deref-id-items.ensures.value ∙ c.in_ok-ids.ensures.ids) (c.loop-id.invariant.clear e ne)

pub returns-in_err-ids-clause-err : goal.returns-in_err-ids-clause-err
returns-in_err-ids-clause-err c =
    let p = err_from_is_err_and c.from_residual.result c.from_residual.ensures.1 in
    rw (p.1, p.2) (not-each (ids_of c.args.state.now c.args.frames.now) c.in_err-ids.ensures.some)

pub returns-in_err-folder-clause-err : goal.returns-in_err-folder-clause-err
returns-in_err-folder-clause-err c =
    let p = err_from_is_err_and c.from_residual-in_err-folder.result c.from_residual-in_err-folder.ensures.1 in
    rw (p.1, p.2) (not-in (λ e. IsClear e c.args.me c.args.state.now c.args.frames.now) c.deref-id-items.result.now (ids_of c.args.state.now c.args.frames.now) (c.deref-id-items.ensures.value ∙ c.in_ok-ids.ensures.ids)
    c.loop-id.id-index c.id-item.result c.loop-id-test.true c.id-item.is _ c.in_err-folder.ensures.err)

pub returns-in_err-push-clause-err : goal.returns-in_err-push-clause-err
returns-in_err-push-clause-err c =
    let p = err_from_is_err_and c.from_residual-in_err-push.result c.from_residual-in_err-push.ensures.1 in
    rw (p.1, p.2) (not-in (λ e. IsClear e c.args.me c.args.state.now c.args.frames.now) c.deref-id-items.result.now (ids_of c.args.state.now c.args.frames.now) (c.deref-id-items.ensures.value ∙ c.in_ok-ids.ensures.ids)
    c.loop-id.id-index c.id-item.result c.loop-id-test.true c.id-item.is OutOfMemory (λ x. x))
