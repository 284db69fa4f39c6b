use Rattle.std.proofs.Common.{◌≡◌, ◌≢◌, ◌∙◌, List, map, sym, ap, subst}
use Rattle.std.specs.Prelude.{Option, option_copied}
use Rattle.std.proofs.lemmas.Result.{err_from_is_err_and}
use Rattle.folder_core.proofs.ListTests.{ok_then}
use Rattle.node_journal.specs.declared.part.Part.{Part}
use Rattle.node_state.specs.declared.state.StoredFolder.{StoredFolder}
use Rattle.node_replay.specs.declared.fault.RecoverFault.{RecoverFault}
use Rattle.node_replay.specs.declared.fault.RecoverFault.TheVariants.{OutOfMemory}
use Rattle.node_replay.specs.Clear.{IsClear, IsClearFrom}
use Rattle.node_replay.specs.Recovered.{IsRecoveredFolder, IsRecoveredFrom, stored_of}
use Rattle.node_replay.specs.Told.{parts_of}
use Rattle.node_replay.proofs.All.{both-ok, err-then}
use Rattle.node_replay.proofs.recovering.recovered_folder.Goals as goal

pub returns-clause-is : goal.returns-clause-is
returns-clause-is c =
    let me = c.args.me in
    let st = c.stored_of-stored.ensures ∙ ap (stored_of c.args.id.now) c.as_slice-folders.ensures in
    let ps = ap (map (λ p. p.now)) c.as_slice-told.ensures.value ∙ c.in_ok-parts.ensures in
    both-ok {P = λ r. r.stored.id ≡ c.args.id.now} {Q = IsRecoveredFrom me (option_copied c.stored_of-stored.result) (map (λ p. p.now) c.as_slice-told.result.now)}
    {R = IsRecoveredFolder me c.args.state.now c.args.frames.now}
    c.recovered_from.result
    (λ r same from.
    subst (λ x. IsRecoveredFrom me (stored_of x c.args.state.now.folders) (parts_of x c.args.frames.now) r) (sym same)
    (subst (λ (q : Option StoredFolder × List Part). IsRecoveredFrom me q.0 q.1 r) (λ j. (st j, ps j)) from))
    c.recovered_from.ensures.id c.recovered_from.ensures.is

pub returns-clause-clear : goal.returns-clause-clear
returns-clause-clear c =
    let me = c.args.me in
    let st = c.stored_of-stored.ensures ∙ ap (stored_of c.args.id.now) c.as_slice-folders.ensures in
    let ps = ap (map (λ p. p.now)) c.as_slice-told.ensures.value ∙ c.in_ok-parts.ensures in
    ok_then {P = λ r. (e : RecoverFault) → e ≢ OutOfMemory → IsClearFrom e me (option_copied c.stored_of-stored.result) (map (λ p. p.now) c.as_slice-told.result.now)}
    {Q = λ r. (e : RecoverFault) → e ≢ OutOfMemory → IsClear e me c.args.state.now c.args.frames.now c.args.id.now}
    c.recovered_from.result
    (λ r each e ne. subst (λ (q : Option StoredFolder × List Part). IsClearFrom e me q.0 q.1) (λ j. (st j, ps j)) (each e ne))
    c.recovered_from.ensures.clear

pub returns-clause-err : goal.returns-clause-err
returns-clause-err c =
    let me = c.args.me in
    let st = c.stored_of-stored.ensures ∙ ap (stored_of c.args.id.now) c.as_slice-folders.ensures in
    let ps = ap (map (λ p. p.now)) c.as_slice-told.ensures.value ∙ c.in_ok-parts.ensures in
    err-then {P = λ e. ¬ (IsClearFrom e me (option_copied c.stored_of-stored.result) (map (λ p. p.now) c.as_slice-told.result.now))}
    {Q = λ e. ¬ (IsClear e me c.args.state.now c.args.frames.now c.args.id.now)}
    c.recovered_from.result
    (λ e no. subst (λ (q : Option StoredFolder × List Part). ¬ (IsClearFrom e me q.0 q.1)) (λ j. (st j, ps j)) no)
    c.recovered_from.ensures.err

pub returns-in_err-parts-clause-err : goal.returns-in_err-parts-clause-err
returns-in_err-parts-clause-err c =
    let p = err_from_is_err_and c.from_residual.result c.from_residual.ensures.1 in
    rw (p.1, p.2) (λ x. x)
