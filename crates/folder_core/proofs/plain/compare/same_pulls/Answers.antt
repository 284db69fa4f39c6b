use Rattle.folder_core.proofs.PlainRestoreSame.{pulls-same}
use Rattle.folder_core.proofs.plain.compare.same_pulls.Goals as goal

pub returns : goal.returns
returns c = pulls-same c.same_record_is_equality.ensures c.same_counters_are_equal_vectors.ensures.tested c.args.a.now c.args.b.now c.eq.result c.eq.ensures
