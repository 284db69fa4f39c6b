use Rattle.std.proofs.Common.{ap, sym, ◌∙◌}
use Rattle.std.specs.Prelude.{map, OnOk, Result, Ok, Err}
use Rattle.std.specs.List.{AllByRecursion}
use Rattle.sync_record.specs.Infos.{record_of}
use Rattle.node_saver.specs.Saving.{IsReadAgain}
use Rattle.node_saver.proofs.Records.{read-again}
use Rattle.node_saver.proofs.frames.records_frame.Goals as goal

either : {T E : Type 0} (r : Result T E) (P : Type 0) → P → OnOk r P
either (Ok x) P p = p
either (Err e) P p = tt

pub returns-clause-again : goal.returns-clause-again
returns-clause-again c =
    let infos = c.in_ok-file_infos.ensures in
    either c.frame_of.result (AllByRecursion IsReadAgain c.args.records.now)
    (read-again c.args.records.now (ap (map record_of) (sym infos.value) ∙ infos.again))
