use Rattle.std.proofs.Common.{sym, ap, ◌∙◌}
use Rattle.sync_record.specs.Same.{same_record}
use Rattle.sync_record.proofs.SameRecords.{same_record-is, same_record-own}
use Rattle.sync_record.proofs.laws.same_record_is_equality.Goals as goal

pub returns : goal.returns
returns c = λ a b. (same_record-is a b, λ e. ap (same_record a) (sym e) ∙ same_record-own a)
