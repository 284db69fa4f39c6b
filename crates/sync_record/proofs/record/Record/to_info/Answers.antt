use Rattle.std.proofs.Common.{◌≡◌, ◌∙◌, ap, None}
use Rattle.std.proofs.lemmas.Result.{IfOk-weaker}
use Rattle.sync_names.specs.Refusal.{refusal}
use Rattle.sync_record.specs.Infos.{record_of}
use Rattle.sync_record.proofs.Again.{again, unrefused}
use Rattle.sync_record.proofs.record.Record.to_info.Goals as goal

pub returns-clause-again : goal.returns-clause-again
returns-clause-again c =
    let kept = c.facts.ensures.kept in
    let fits = c.facts.ensures.fits in
    IfOk-weaker _ _ (λ info. (refusal info.name ≡ None) × (record_of info ≡ c.args.self.now)) (λ info is.
    (ap (λ i. refusal i.name) is ∙ unrefused c.args.self.now kept fits, ap record_of is ∙ again c.args.self.now kept fits)) c.write_info.ensures
