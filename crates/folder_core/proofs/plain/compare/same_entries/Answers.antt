use Rattle.std.proofs.lemmas.Slice.Eq.{slice_eq-Decides}
use Rattle.folder_core.proofs.PlainRestoreSame.{entry-Decides}
use Rattle.folder_core.proofs.plain.compare.same_entries.Goals as goal

pub returns : goal.returns
returns c = slice_eq-Decides (entry-Decides c.same_record_is_equality.ensures) c.args.a.now c.args.b.now c.eq.result c.eq.ensures
