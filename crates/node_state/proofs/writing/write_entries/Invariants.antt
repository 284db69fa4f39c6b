use Rattle.std.proofs.Common.{◌≡◌, map, take}
use Rattle.std.specs.List.{AllByRecursion}
use Rattle.bep_messages.specs.Forms.{form, list_form, Fits, IsShort}
use Rattle.bep_messages.specs.Writing.{Adds}
use Rattle.folder_core.specs.PlainRestores.{given}
use Rattle.node_state.specs.Reading.{IsReadBack}
use Rattle.node_state.specs.Tables.{entry_table}
use Rattle.node_state.specs.Written.{entry_values}
use Rattle.node_state.proofs.writing.write_entries.Given as goal

abbrev pub invariant-loop-announced : goal.invariant-loop-announced
invariant-loop-announced l =
    let front = map (λ e. entry_values (given e)) (take l.announced-index l.entries) in
    record {
      ok : Adds l.fn.out (list_form 4 (form entry_table) front) l.out;
      fits : AllByRecursion (λ v. Fits entry_table v × IsShort (form entry_table v)) front;
      back : AllByRecursion IsReadBack (map given (take l.announced-index l.entries));
      kept : l.out.kept ≡ l.fn.out.kept;
    }
