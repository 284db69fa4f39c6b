use Rattle.std.proofs.Common.{◌≡◌, ◌++◌, ◌∷◌, ◌∙◌, [], List, append_assoc, map, take, sym, ap, subst, arith}
use Rattle.std.specs.List.{AllByRecursion}
use Rattle.std.proofs.lemmas.Grind.{common_steps}
use Rattle.std.proofs.lemmas.List.{append-nil}
use Rattle.std.proofs.lemmas.Result.{err_from_is_err_and}
use Rattle.bep_messages.specs.declared.file_info.FileInfo.{FileInfo}
use Rattle.sync_record.specs.Infos.{record_of}
use Rattle.sync_record.specs.Records.{FileRecord}
use Rattle.node_replay.specs.Clear.{IsClearRecord}
use Rattle.node_replay.specs.declared.fault.RecoverFault.TheVariants.{UnsafeName, OutOfMemory}
use Rattle.node_replay.proofs.Adding.{map-more}
use Rattle.node_replay.proofs.All.{all-more, not-all}
use Rattle.node_replay.proofs.told.add_records.Goals as goal

pub loop-info-init : goal.loop-info-init
loop-info-init c = record { ok = sym (append-nil c.args.records.now.items); safe = tt }

pub loop-info-preserved : goal.loop-info-preserved
loop-info-preserved c =
    let infos = c.args.infos.now in
    let i = c.loop-info.info-index in
    let x = c.info-item.result in
    let old = c.args.records.now.items in
    record {
      ok = c.in_ok-push.ensures.items ∙ (λ j. c.loop-info.invariant.ok j ++ c.in_ok-new.ensures.ok j ∷ [])
          ∙ append_assoc old (map record_of (take i infos)) (record_of x ∷ [])
          ∙ ap (λ (l : List FileRecord). old ++ l) (sym (map-more infos i x c.loop-info-test.true c.info-item.is record_of));
      safe = all-more (IsClearRecord UnsafeName) infos i x c.loop-info-test.true c.info-item.is c.loop-info.invariant.safe c.in_ok-new.ensures.safe;
    }

pub returns-clause-ok : goal.returns-clause-ok
returns-clause-ok c =
    let all : take c.loop-info.info-index c.args.infos.now ≡ c.args.infos.now = grind (arith, common_steps) in
    c.loop-info.invariant.ok ∙ ap (λ (l : List FileInfo). c.args.records.now.items ++ map record_of l) all

pub returns-clause-safe : goal.returns-clause-safe
returns-clause-safe c =
    let all : take c.loop-info.info-index c.args.infos.now ≡ c.args.infos.now = grind (arith, common_steps) in
    subst (AllByRecursion (IsClearRecord UnsafeName)) all c.loop-info.invariant.safe

pub returns-in_err-new-clause-err : goal.returns-in_err-new-clause-err
returns-in_err-new-clause-err c =
    let p = err_from_is_err_and c.from_residual.result c.from_residual.ensures.1 in
    rw (p.1, p.2) (not-all _ c.args.infos.now c.loop-info.info-index c.info-item.result c.loop-info-test.true c.info-item.is c.in_err-new.ensures.err)

pub returns-in_err-push-clause-err : goal.returns-in_err-push-clause-err
returns-in_err-push-clause-err c =
    let p = err_from_is_err_and c.from_residual-in_err-push.result c.from_residual-in_err-push.ensures.1 in
    rw (p.1, p.2) (not-all (IsClearRecord OutOfMemory) c.args.infos.now c.loop-info.info-index c.info-item.result c.loop-info-test.true c.info-item.is (λ x. x))
