use Rattle.std.proofs.Common.{List, map, subst}
use Rattle.std.specs.List.{AllByRecursion}
use Rattle.bep_messages.specs.Forms.{form, Fits, IsShort}
use Rattle.node_state.specs.declared.state.StoredFolder.{StoredFolder}
use Rattle.node_state.specs.Reading.{IsWritable}
use Rattle.node_state.specs.Tables.{folder_table}
use Rattle.node_state.specs.Written.{folder_values}
use Rattle.node_state.proofs.Back.{means-again}
use Rattle.node_state.proofs.writing.write_state.Goals as goal

pub returns-in-Ok-clause-again : goal.returns-in-Ok-clause-again
returns-in-Ok-clause-again c =
    means-again c.args.state.now
    (subst (λ (fs : List StoredFolder). AllByRecursion (λ v. Fits folder_table v × IsShort (form folder_table v)) (map folder_values fs)) c.as_slice.ensures c.in-Ok.ensures.fits, tt)
    (subst (AllByRecursion IsWritable) c.as_slice.ensures c.in-Ok.ensures.back)
