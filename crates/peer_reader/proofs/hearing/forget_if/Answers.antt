use Rattle.std.proofs.Common.{rules}
use Rattle.std.proofs.lemmas.Result.{err_from_is_err_and}
use Rattle.peer_reader.proofs.EachLemmas.{stops_as}
use Rattle.peer_reader.proofs.hearing.forget_if.Goals as goal

pub returns-in_err-forget-clause-stopped : goal.returns-in_err-forget-clause-stopped
returns-in_err-forget-clause-stopped g c =
    let p = err_from_is_err_and c.from_residual.result c.from_residual.ensures.1 in
    rw (p.1, p.2) (stops_as g.W.FolderCalls.view g.W.FolderCalls.folder _ _ (λ change due. (search (rules, c.if-not-is_due.false), due)) c.args.folder.now c.forget.new.folder c.in_err-forget.field-0.0 c.in_err-forget.ensures.stopped)
