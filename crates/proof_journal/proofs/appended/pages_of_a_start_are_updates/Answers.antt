use Rattle.std.proofs.Common.{◌<◌, ◌≤◌, false, List, [], ◌∷◌, sym, ap, subst, ◌∙◌, arith}
use Rattle.std.specs.Prelude.{Contains}
use Rattle.std.specs.List.{AllByRecursion}
use Rattle.std.specs.List.Sorted.{IsStrictlySortedBy}
use Rattle.folder_calls.specs.Shared.{now}
use Rattle.index_sender.specs.Pages.{page_of, records_of}
use Rattle.index_sender.proofs.PageRecords.{Rise}
use Rattle.node_saver.specs.Saving.{IsReadAgain, records_in}
use Rattle.node_saver.proofs.Records.{push-all, records-push}
use Rattle.sync_record.specs.Records.{FileRecord}
use Rattle.proof_journal.specs.Appended.{IsUpdate}
use Rattle.proof_journal.proofs.LastRecords.{given, rise-join}
use Rattle.proof_journal.proofs.appended.pages_of_a_start_are_updates.Goals as goal

is-update : (rs : List FileRecord) → IsUpdate (page_of false rs)
is-update [] = tt
is-update (r ∷ rs) = tt

pub returns-clause-none : goal.returns-clause-none
unfolding IsStrictlySortedBy
returns-clause-none c = record { updates = tt; rise = tt; again = tt }

pub returns-clause-next : goal.returns-clause-next
returns-clause-next c = λ start pages old new page before after so legal gives again.
    let folder = c.views_are_of_folders.ensures.folder after legal in
    let update : IsUpdate page = subst IsUpdate (sym (gives.page_is ∙ ap (λ b. page_of b gives.records) so.owes)) (is-update gives.records) in
    let rises : Rise (records_of page) = (c.pages_have_what_is_local.ensures.rise (now after) old new page folder gives).0 in
    let apart : (q r : FileRecord) → Contains (records_in pages) q → Contains (records_of page) r → q.sequence < r.sequence = λ q r i j.
    let le : q.sequence ≤ old.cursor = given start pages old before so.keeps so.updates q i in
    let lt : old.cursor < r.sequence = (c.pages_have_what_is_local.ensures.only (now after) old new page r folder gives j).2 in
    omega arith in (
      record {
        updates = push-all IsUpdate pages (page ∷ []) so.updates.updates (update, tt);
        rise = subst Rise (sym (records-push pages page)) (rise-join (records_in pages) (records_of page) so.updates.rise rises apart);
        again = subst (AllByRecursion IsReadAgain) (sym (records-push pages page)) (push-all IsReadAgain (records_in pages) (records_of page) so.updates.again again);
      },
      ap (λ p. p.owes_index) gives.new_is,
    )
