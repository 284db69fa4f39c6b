use Rattle.std.proofs.Common.{◌∙◌, refl}
use Rattle.bep_messages.specs.Forms.{form, Fits, IsShort}
use Rattle.bep_messages.proofs.Written.{list_none, list_more, all_more}
use Rattle.node_state.specs.Reading.{IsWritable}
use Rattle.node_state.specs.Tables.{folder_table}
use Rattle.node_state.specs.Written.{folder_values}
use Rattle.node_state.proofs.Folders.{take-more}
use Rattle.node_state.proofs.writing.write_folders.Goals as goal

pub loop-folder-init : goal.loop-folder-init
loop-folder-init c = record { ok = list_none _ _ _; fits = tt; back = tt; kept = refl }

pub loop-folder-preserved : goal.loop-folder-preserved
loop-folder-preserved c =
    let items = c.args.folders.now in
    let at = c.loop-folder.folder-index in
    record {
      ok = list_more 1 (form folder_table) folder_values items at c.folder-item.result c.loop-folder-test.true c.folder-item.is c.loop-folder.invariant.ok c.in_ok-write_folder.ensures.ok;
      fits = all_more (λ v. Fits folder_table v × IsShort (form folder_table v)) folder_values items at c.folder-item.result c.loop-folder-test.true c.folder-item.is c.loop-folder.invariant.fits c.in_ok-write_folder.ensures.fits;
      back = take-more IsWritable items at c.folder-item.result c.loop-folder-test.true c.folder-item.is c.loop-folder.invariant.back c.in_ok-write_folder.ensures.back;
      kept = c.in_ok-write_folder.ensures.kept ∙ c.loop-folder.invariant.kept;
    }
