use Rattle.file_store.proofs.LawLemmas.{counts_down, does_others, fails_after, fails_before, fails_once}
use Rattle.file_store.proofs.laws.failing_stores_fail_one_call.Goals as goal

pub returns : goal.returns
returns g c = record { before = fails_before; after = fails_after; other = does_others; counted = counts_down; once = fails_once }
