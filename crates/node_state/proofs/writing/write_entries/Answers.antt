use Rattle.std.proofs.Common.{◌∙◌, refl}
use Rattle.bep_messages.specs.Forms.{form, Fits, IsShort}
use Rattle.bep_messages.proofs.Written.{list_none, list_more, all_more}
use Rattle.folder_core.specs.PlainRestores.{given}
use Rattle.node_state.specs.Reading.{IsReadBack}
use Rattle.node_state.specs.Tables.{entry_table}
use Rattle.node_state.specs.Written.{entry_values}
use Rattle.node_state.proofs.writing.write_entries.Goals as goal

pub loop-announced-init : goal.loop-announced-init
loop-announced-init c = record { ok = list_none _ _ _; fits = tt; back = tt; kept = refl }

pub loop-announced-preserved : goal.loop-announced-preserved
loop-announced-preserved c =
    let items = c.args.entries.now in
    let at = c.loop-announced.announced-index in
    record {
      ok = list_more 4 (form entry_table) (λ e. entry_values (given e)) items at c.announced-item.result c.loop-announced-test.true c.announced-item.is c.loop-announced.invariant.ok c.in_ok-write_entry.ensures.ok;
      fits = all_more (λ v. Fits entry_table v × IsShort (form entry_table v)) (λ e. entry_values (given e)) items at c.announced-item.result c.loop-announced-test.true c.announced-item.is c.loop-announced.invariant.fits c.in_ok-write_entry.ensures.fits;
      back = all_more IsReadBack given items at c.announced-item.result c.loop-announced-test.true c.announced-item.is c.loop-announced.invariant.back c.in_ok-write_entry.ensures.back;
      kept = c.in_ok-write_entry.ensures.kept ∙ c.loop-announced.invariant.kept;
    }
