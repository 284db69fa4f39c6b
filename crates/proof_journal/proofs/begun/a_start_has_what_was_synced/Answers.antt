use Rattle.std.proofs.Common.{[], subst, take, ◌++◌}
use Rattle.proof_journal.specs.Appended.{no_page}
use Rattle.proof_journal.specs.Own.{IsRecoveredBy}
use Rattle.proof_journal.proofs.Batches.{end-recovered, first-batches, none-recovered, synced-count}
use Rattle.proof_journal.proofs.begun.a_start_has_what_was_synced.Goals as goal

pub returns : goal.returns
returns c = λ f s t synced more n are left is.
    let count = synced-count f s synced more [] n are left in (
      count.0,
      count.1,
      end-recovered f s t (c.saved_records_are_recovered.ensures f s t) (take count.0 (synced ++ more)) [] [] s no_page (none-recovered f s t)
          (first-batches f s count.0 (synced ++ more) [] are)
          (subst (λ frames. IsRecoveredBy f.id frames s t) count.2 is),
    )
