use Rattle.std.proofs.Common.{◌≡◌, map, take}
use Rattle.std.specs.List.{AllByRecursion}
use Rattle.bep_messages.specs.Forms.{form, list_form, Fits, IsShort}
use Rattle.bep_messages.specs.Writing.{Adds}
use Rattle.node_state.specs.Reading.{IsWritable}
use Rattle.node_state.specs.Tables.{folder_table}
use Rattle.node_state.specs.Written.{folder_values}
use Rattle.node_state.proofs.writing.write_folders.Given as goal

abbrev pub invariant-loop-folder : goal.invariant-loop-folder
invariant-loop-folder l =
    let front = map folder_values (take l.folder-index l.folders) in
    record {
      ok : Adds l.fn.out (list_form 1 (form folder_table) front) l.out;
      fits : AllByRecursion (λ v. Fits folder_table v × IsShort (form folder_table v)) front;
      back : AllByRecursion IsWritable (take l.folder-index l.folders);
      kept : l.out.kept ≡ l.fn.out.kept;
    }
