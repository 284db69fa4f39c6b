use Rattle.std.proofs.Common.{◌≡◌, ◌++◌, ℕ, List, length, take, refl, sym, ap, subst, ◌∙◌}
use Rattle.std.specs.List.{AllByRecursion}
use Rattle.std.proofs.lemmas.Grind.{flat_map-append}
use Rattle.node_journal.specs.Cuts.{IsBeginning}
use Rattle.node_journal.specs.Format.{IsWritable, journal_bytes}
use Rattle.node_journal.specs.Journals.{IsJournal}
use Rattle.node_journal.specs.declared.reading.Journal.{Journal}
use Rattle.proof_journal.specs.Batches.{Batch, all_frames, frames_of}
use Rattle.proof_journal.specs.Own.{IsRecoveredBy}
use Rattle.proof_journal.proofs.begun.a_cut_journal_has_what_was_synced.Goals as goal

joined : (synced more : List Batch) → all_frames (synced ++ more) ≡ all_frames synced ++ all_frames more
joined synced more = flat_map-append frames_of synced more

pub returns-clause-reads : goal.returns-clause-reads
returns-clause-reads c = λ h synced more n digests writable left.
    subst (λ frames. IsBeginning h frames (length (all_frames synced)) (take n (journal_bytes h frames))) (sym (joined synced more))
    (c.a_cut_journal_keeps_what_was_synced.ensures h (all_frames synced) (all_frames more) n digests (subst (AllByRecursion IsWritable) (joined synced more) writable) left)

pub returns-clause-has : goal.returns-clause-has
returns-clause-has c = λ f s t h synced more n read are digests writable left is from.
    let begins = returns-clause-reads c h synced more n digests writable left in
    let bytes : List ℕ = take n (journal_bytes h (all_frames (synced ++ more))) in
    let own : Journal = record { header = h; kept = begins.read } in
    let own_is : IsJournal h.device bytes own = record { header = begins.header; device = refl; frames = begins.reads } in
    let one : read ≡ own = c.one_reading.ensures.journal h.device bytes read own is own_is in
    c.a_start_has_what_was_synced.ensures f s t synced more begins.count are begins.enough
    (subst (λ frames. IsRecoveredBy f.id frames s t) (ap (λ j. j.kept.frames) one ∙ begins.is) from)
