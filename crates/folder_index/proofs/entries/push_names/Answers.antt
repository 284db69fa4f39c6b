use Rattle.std.proofs.Common.{sym, ◌∙◌}
use Rattle.folder_core.proofs.ListTests.{contains_in}
use Rattle.folder_index.proofs.Announcing.{has_name}
use Rattle.folder_index.proofs.entries.push_names.Goals as goal

pub returns-in_err-copy-clause-none : goal.returns-in_err-copy-clause-none
returns-in_err-copy-clause-none c = λ none.
    let es = c.args.entries.now in
    let e = c.entry-item.result in
    absurd (has_name c.args.device es e (contains_in es e (c.loop-entry.entry-index, c.loop-entry-test.true, sym c.entry-item.is)) (sym c.eq.ensures ∙ c.if-eq.true) none)

pub returns-in_err-push-clause-none : goal.returns-in_err-push-clause-none
returns-in_err-push-clause-none c = λ none.
    let es = c.args.entries.now in
    let e = c.entry-item.result in
    absurd (has_name c.args.device es e (contains_in es e (c.loop-entry.entry-index, c.loop-entry-test.true, sym c.entry-item.is)) (sym c.eq.ensures ∙ c.if-eq.true) none)
