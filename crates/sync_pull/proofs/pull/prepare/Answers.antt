use Rattle.std.proofs.Common.{◌≡◌, subst, sym, true}
use Rattle.file_store.specs.Calls.{HasBadParent}
use Rattle.sync_record.specs.Records.{FileRecord}
use Rattle.sync_pull.specs.Faults.{StopCounts}
use Rattle.sync_pull.specs.Pulled.{IsPullable}
use Rattle.sync_pull.specs.Sources.{HasNoSource}
use Rattle.sync_pull.proofs.FailLemmas.{err-counts}
use Rattle.sync_pull.proofs.pull.prepare.Goals as goal

pub returns-in_err-assembled-clause-counted : goal.returns-in_err-assembled-clause-counted
returns-in_err-assembled-clause-counted g c =
    let stop = c.in_err-assembled.field-0.0 in
    let parent = g.S.FileStore.keeps ≡ true → HasBadParent (g.S.FileStore.tree c.args.store.now) c.args.name.now in
    let before = g.S.FileStore.fault_count c.args.store.now in
    let after = g.S.FileStore.fault_count c.assemble.new.store in
    let source = λ (t : FileRecord). HasNoSource g.B.BlockSource.gives c.args.name.now c.assemble.new.source (g.W.FolderCalls.view c.assemble.new.calls) t (g.W.FolderCalls.view c.args.calls.now) in
    err-counts (source c.args.ticket.now.target) parent c.from_residual-in_err-assembled.result stop before after c.from_residual-in_err-assembled.ensures.1
    (subst (λ (t : FileRecord). StopCounts (source t) parent stop before after) c.target-2.ensures c.in_err-assembled.ensures.counted)

pub assemble-requires-clause-target : goal.assemble-requires-clause-target
assemble-requires-clause-target g c = λ _ _. subst IsPullable (sym c.target-2.ensures) c.requires.target
