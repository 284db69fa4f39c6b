use Rattle.std.proofs.Common.{◌∷◌, [], subst, sym, ◌∙◌}
use Rattle.folder_calls.specs.Adds.{Asks}
use Rattle.folder_core.specs.declared.answer.Answer.TheVariants.{Applied}
use Rattle.folder_core.specs.declared.change.Change.TheVariants.{IndexFull, IndexMore}
use Rattle.proof_layers.specs.Told.{changes_of}
use Rattle.std.proofs.lemmas.Result.{on_ok_weaker}
use Rattle.proof_layers.proofs.sending.send_page.Goals as goal

pub returns-in_ok-heard-in-Index-clause-asks : goal.returns-in_ok-heard-in-Index-clause-asks
returns-in_ok-heard-in-Index-clause-asks g c =
    let old = g.B.FolderCalls.view c.args.to.now in
    let new = g.B.FolderCalls.view c.announce_full.new.to in
    let heard = c.in_ok-heard-in-Index.ensures.heard ∙ c.as_slice.ensures in
    on_ok_weaker c.announce_full.result
    (λ a. subst (λ p. Asks old (changes_of c.args.device (p ∷ [])) new) (sym c.in-Index.is) (subst (λ rs. Asks old ((IndexFull c.args.device rs, Applied) ∷ []) new) heard a))
    c.announce_full.ensures.asks

pub returns-in_ok-heard-in-IndexUpdate-clause-asks : goal.returns-in_ok-heard-in-IndexUpdate-clause-asks
returns-in_ok-heard-in-IndexUpdate-clause-asks g c =
    let old = g.B.FolderCalls.view c.args.to.now in
    let new = g.B.FolderCalls.view c.announce_more.new.to in
    let heard = c.in_ok-heard-in-IndexUpdate.ensures.heard ∙ c.as_slice-in-IndexUpdate.ensures in
    on_ok_weaker c.announce_more.result
    (λ a. subst (λ p. Asks old (changes_of c.args.device (p ∷ [])) new) (sym c.in-IndexUpdate.is) (subst (λ rs. Asks old ((IndexMore c.args.device rs, Applied) ∷ []) new) heard a))
    c.announce_more.ensures.asks
