use Rattle.std.proofs.Common.{◌∙◌, ap, sym, ℕ, List}
use Rattle.std.proofs.lemmas.Result.{err_from_is_err_and}
use Rattle.peer_reader.proofs.EachLemmas.{stops_as}
use Rattle.peer_reader.specs.Effects.{index_told, is_new_index}
use Rattle.peer_reader.proofs.hearing.hear_config_of.Goals as goal

pub returns-in_err-forget_if-clause-stopped : goal.returns-in_err-forget_if-clause-stopped
returns-in_err-forget_if-clause-stopped g c =
    let p = err_from_is_err_and c.from_residual.result c.from_residual.ensures.1 in
    let kept = c.args.folder.now.kept_index_id in
    let told = c.index_told-index_id.ensures in
    let of_id = ap (λ (id : List ℕ). is_new_index (index_told c.args.peer c.args.config.now id) kept) (sym c.as_str.ensures) in
    let is = of_id ∙ ap (λ (n : ℕ). is_new_index n kept) (sym told) ∙ sym c.is_new_index-is_due.ensures in
    rw (p.1, p.2) (stops_as g.W.FolderCalls.view g.W.FolderCalls.folder _ _ (λ change due. (is ∙ due.0, due.1)) c.args.folder.now c.forget_if.new.folder c.in_err-forget_if.field-0.0 c.in_err-forget_if.ensures.stopped)
