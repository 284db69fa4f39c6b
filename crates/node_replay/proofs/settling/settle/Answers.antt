use Rattle.std.proofs.Common.{◌≡◌, ◌∙◌, [], List, take, sym, ap, subst, arith}
use Rattle.std.proofs.lemmas.Grind.{common_steps}
use Rattle.std.proofs.lemmas.Result.{err_from_is_err_and}
use Rattle.folder_core.specs.States.{IsFolder}
use Rattle.folder_core.proofs.ListTests.{ok_then}
use Rattle.sync_record.specs.Records.{FileRecord}
use Rattle.node_replay.specs.declared.fault.SettleFault.TheVariants.{OutOfMemory, SequenceFull}
use Rattle.node_replay.specs.declared.plan.PullPlan.{PullPlan}
use Rattle.node_replay.specs.Settled.{IsFull, IsSettled, advanced}
use Rattle.node_replay.proofs.Advancing.{unchanged}
use Rattle.node_replay.proofs.All.{err-then, some-at}
use Rattle.node_replay.proofs.Turns.{IsUnderWay, begun, ended, full-at, nothing, turned-at}
use Rattle.node_replay.proofs.settling.settle.Goals as goal

pub loop-plan-init : goal.loop-plan-init
loop-plan-init g c =
    let s = c.args.folder.folder in
    subst (λ (fs : List FileRecord). IsUnderWay g.D.Disk.tells s c.args.disk.now [] fs c.args.disk.now) (sym c.new-finished.ensures)
    (begun g.D.Disk.tells s c.args.disk.now c.me-me.ensures.folder)

pub take_turn-requires : goal.take_turn-requires
take_turn-requires g c = omega (arith, c.loop-plan.invariant.folder.room)

pub loop-plan-preserved : goal.loop-plan-preserved
loop-plan-preserved g c =
    let told = c.in_ok-take_turn.ensures.settled in
    turned-at g.D.Disk.tells c.args.folder.folder c.args.disk.now c.args.plans.now c.loop-plan.plan-index c.plan-item.result c.loop-plan-test.true c.plan-item.is
    c.loop-plan.finished c.loop-plan.disk c.loop-plan.invariant c.take_turn.new.disk c.requires.closed c.requires.pullable told.0 c.take_turn.new.finished told.1 told.2
    c.in_ok-take_turn.ensures.room

pub with_finished-requires-clause-folder : goal.with_finished-requires-clause-folder
with_finished-requires-clause-folder g c =
    subst (λ (rs : List FileRecord). IsFolder (advanced c.args.folder.folder rs)) (sym c.into_records.ensures) c.loop-plan.invariant.folder

pub returns-in_err-take_turn-clause-full : goal.returns-in_err-take_turn-clause-full
returns-in_err-take_turn-clause-full g c =
    let p = err_from_is_err_and c.from_residual.result c.from_residual.ensures.1 in
    rw (p.1, p.2) (λ is.
    let found = c.in_err-take_turn.ensures.full is in
    full-at g.D.Disk.tells c.args.folder.folder c.args.disk.now c.args.plans.now c.loop-plan.plan-index c.plan-item.result c.loop-plan-test.true c.plan-item.is
    c.loop-plan.finished c.loop-plan.disk c.loop-plan.invariant c.take_turn.new.disk found.0 found.1 found.2)

pub returns-clause-settled : goal.returns-clause-settled
returns-clause-settled g c =
    let tells = g.D.Disk.tells in
    let s = c.args.folder.folder in
    let d = c.args.disk.now in
    let plans = c.args.plans.now in
    let all : take c.loop-plan.plan-index plans ≡ plans = grind (arith, common_steps) in
    ok_then {P = λ t. t.folder ≡ advanced s c.into_records.result.items} {Q = λ t. IsSettled tells s d plans t.folder c.loop-plan.disk}
    c.with_finished.result
    (λ t is. subst (λ (ps : List PullPlan). IsSettled tells s d ps t.folder c.loop-plan.disk) all
    (ended tells s d (take c.loop-plan.plan-index plans) c.loop-plan.finished c.loop-plan.disk t.folder c.loop-plan.invariant
    (is ∙ ap (λ (rs : List FileRecord). advanced s rs) c.into_records.ensures)))
    c.with_finished.ensures.is

pub returns-clause-same : goal.returns-clause-same
returns-clause-same g c = unchanged (λ t. t.folder) c.args.folder c.into_records.result.items c.with_finished.result c.with_finished.ensures.is c.with_finished.ensures.same

pub returns-clause-full : goal.returns-clause-full
returns-clause-full g c =
    err-then {P = λ e. e ≡ OutOfMemory} {Q = λ e. e ≡ SequenceFull → IsFull g.D.Disk.tells c.args.folder.folder c.args.disk.now c.args.plans.now c.loop-plan.disk}
    c.with_finished.result (λ e is full. absurd (let no_more : OutOfMemory ≡ SequenceFull = sym is ∙ full in cc)) c.with_finished.ensures.memory

pub returns-in_err-take_turn-clause-none : goal.returns-in_err-take_turn-clause-none
returns-in_err-take_turn-clause-none g c = λ none. absurd (some-at c.args.plans.now c.loop-plan.plan-index c.loop-plan-test.true none)

pub returns-clause-none : goal.returns-clause-none
returns-clause-none g c = λ none.
    let plans = c.args.plans.now in
    let all : take c.loop-plan.plan-index plans ≡ plans = grind (arith, common_steps) in
    c.with_finished.ensures.none (c.into_records.ensures
    ∙ nothing g.D.Disk.tells c.args.folder.folder c.args.disk.now (take c.loop-plan.plan-index plans) c.loop-plan.finished c.loop-plan.disk c.loop-plan.invariant (all ∙ none))
