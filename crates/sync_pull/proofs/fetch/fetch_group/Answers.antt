use Rattle.std.proofs.Common.{List, ap, subst, ◌∙◌}
use Rattle.sync_blocks.specs.declared.block.Block.{Block}
use Rattle.sync_record.specs.Records.{FileRecord}
use Rattle.sync_pull.specs.Fetching.{IsFound}
use Rattle.sync_pull.specs.Sources.{Lacks}
use Rattle.sync_pull.proofs.FailLemmas.{err-counts}
use Rattle.sync_pull.proofs.SourceLemmas.{found-part, lacks-part, stop-source}
use Rattle.file_store.proofs.SequenceLemmas.{called_on}
use Rattle.sync_pull.proofs.MomentLemmas.{looks_temp}
use Rattle.sync_pull.proofs.fetch.fetch_group.Goals as goal

pub put_group-requires-clause-found : goal.put_group-requires-clause-found
put_group-requires-clause-found g c =
    found-part (IsFound g.B.BlockSource.gives c.args.fetch.now.me c.args.fetch.now.name.now c.args.fetch.now.devices.now c.gather.new.source) c.args.draft.now.assembly.target.blocks c.blocks-2.result.now c.args.start _ _ _
    (c.blocks-2.ensures ∙ ap (λ (r : FileRecord). r.blocks) c.target.ensures) c.in_ok-gather.ensures.found

pub returns-in_err-gather-clause-counted : goal.returns-in_err-gather-clause-counted
returns-in_err-gather-clause-counted g c =
    let after = g.S.FileStore.fault_count c.gather.new.store in
    let before = g.S.FileStore.fault_count c.args.store.now in
    let stop = c.in_err-gather.field-0.0 in
    let lacks : List Block → Type 0 = λ bs. Lacks g.B.BlockSource.gives c.args.fetch.now.me c.args.fetch.now.name.now c.args.fetch.now.devices.now c.gather.new.source bs in
    err-counts (lacks c.args.draft.now.assembly.target.blocks) ⊥ c.from_residual.result stop before after c.from_residual.ensures.1
    (stop-source _ (lacks c.args.draft.now.assembly.target.blocks) ⊥
    (λ h. subst lacks (c.blocks-2.ensures ∙ ap (λ (r : FileRecord). r.blocks) c.target.ensures)
    (lacks-part g.B.BlockSource.gives c.args.fetch.now.me c.args.fetch.now.name.now c.args.fetch.now.devices.now c.gather.new.source c.blocks-2.result.now c.args.start _ h))
    stop before after c.in_err-gather.ensures.counted)

pub returns-in_err-gather-clause-calls : goal.returns-in_err-gather-clause-calls
returns-in_err-gather-clause-calls g c = looks_temp _ c.args.fetch.now.name.now _ _ c.gather.ensures.looks

pub returns-in_err-push_blocks-clause-calls : goal.returns-in_err-push_blocks-clause-calls
returns-in_err-push_blocks-clause-calls g c = looks_temp _ c.args.fetch.now.name.now _ _ c.gather.ensures.looks

pub returns-clause-calls : goal.returns-clause-calls
returns-clause-calls g c = called_on _ _ _ _ _ (looks_temp _ c.args.fetch.now.name.now _ _ c.gather.ensures.looks) c.put_group.ensures.calls
