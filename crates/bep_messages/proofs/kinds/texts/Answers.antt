use Rattle.std.proofs.lemmas.Result.{err_from_is_err_and}
use Rattle.bep_messages.proofs.Texts.{is_text}
use Rattle.bep_messages.proofs.kinds.texts.Goals as goal

pub returns-in_err-push-clause-memory : goal.returns-in_err-push-clause-memory
returns-in_err-push-clause-memory c =
    let p = err_from_is_err_and c.from_residual-in_err-push.result c.from_residual-in_err-push.ensures.1 in
    rw (p.1, p.2) (λ e. rw c.in-Bytes.is (is_text _ (rw c.in-Bytes.is at c.in_ok-words.ensures.ok.0)))
