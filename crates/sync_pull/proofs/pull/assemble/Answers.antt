use Rattle.std.proofs.Common.{subst, sym, ◌&&◌, ◌∙◌}
use Rattle.std.specs.Prelude.{IsTrue}
use Rattle.std.proofs.lemmas.Result.{IfOk-weaker}
use Rattle.sync_record.specs.Records.{FileRecord, is_live_file}
use Rattle.sync_record.specs.Validity.{is_valid}
use Rattle.sync_pull.specs.Fetching.{HoldsBlocks}
use Rattle.sync_pull.specs.Standing.{IsReadyAs}
use Rattle.sync_pull.proofs.FetchLemmas.{ready-file}
use Rattle.sync_pull.proofs.TargetLemmas.{first, pullable-file}
use Rattle.sync_pull.proofs.pull.assemble.Goals as goal

pub returns-in_ok-file-in-File-clause-ready : goal.returns-in_ok-file-in-File-clause-ready
returns-in_ok-file-in-File-clause-ready g c = λ keeps.
    let r = c.args.target.now in
    let n = c.args.name.now in
    let t = g.S.FileStore.tree c.fetch_file.new.store in
    IfOk-weaker c.fetch_file.result (λ _. HoldsBlocks c.in_ok-file-in-File.file.blocks n t) (λ _. IsReadyAs r.deleted r n t)
    (λ _ held.
    ready-file c.tiling_is_tested.ensures.tested c.only_well_formed_files_have_blocks.ensures.whole r (first (is_valid r) _ c.requires.target) (sym c.if-is_deleted.ensures)
    (sym c.kind.ensures ∙ c.in-File.is) n t (subst (λ (x : FileRecord). HoldsBlocks x.blocks n t) c.in_ok-file-in-File.ensures held))
    (c.fetch_file.ensures.held keeps)

pub fetch_file-requires-clause-valid : goal.fetch_file-requires-clause-valid
fetch_file-requires-clause-valid g c = λ _ _. subst (λ (r : FileRecord). IsTrue (is_valid r && is_live_file r)) (sym c.in_ok-file-in-File.ensures)
    (pullable-file c.args.target.now c.requires.target (sym c.if-is_deleted.ensures) (sym c.kind.ensures ∙ c.in-File.is))
