use Rattle.std.proofs.Common.{◌≡◌, ap, ◌∙◌, rules}
use Rattle.std.proofs.lemmas.Fn.{filter_same}
use Rattle.folder_index.specs.Latest.{Waiting, without_sequence}
use Rattle.folder_index.proofs.latest.Latest.remove.Goals as goal

pub returns : goal.returns
returns c =
    let items : c.retain.new.self.items ≡ without_sequence c.args.sequence c.self.inside.records.items = filter_same _ _ _ (λ x b f' k. search rules) _ _ c.retain.ensures.filtered in
    let same : Waiting → Waiting = λ w. record { records = without_sequence c.args.sequence w.records; promised = w.promised } in
    (λ i. record { records = items i; promised = c.self.inside.promised }) ∙ ap same c.self.view_is
