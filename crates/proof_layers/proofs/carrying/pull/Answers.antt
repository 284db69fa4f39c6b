use Rattle.proof_layers.proofs.AloneLemmas.{AnswerLaws}
use Rattle.proof_layers.proofs.CarryLemmas.{asks-to-pull, pulled}
use Rattle.proof_layers.proofs.carrying.pull.Goals as goal

pub returns : goal.returns
returns g c =
    let answers : AnswerLaws = record { accepted = c.answers_are_those_of_the_folder.ensures.accepted; adds = c.changes_are_asked_in_order.ensures.adds } in
    record {
      target = pulled answers _ _ _ _ _ _ _ _ c.pull_name.result (g.B.FolderCalls.view c.args.other.now) _ (g.B.FolderCalls.view c.pull_name.new.calls) _ c.pull_name.ensures.comes;
      asks = asks-to-pull _ _ _ _ _ _ _ _ c.pull_name.result (g.B.FolderCalls.view c.args.other.now) _ (g.B.FolderCalls.view c.pull_name.new.calls) _ c.pull_name.ensures.comes;
    }
