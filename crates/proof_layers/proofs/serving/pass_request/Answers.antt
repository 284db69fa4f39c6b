use Rattle.std.proofs.Common.{sym, ◌∙◌}
use Rattle.bep_session.specs.declared.event.Event.TheVariants.{Asked}
use Rattle.proof_layers.proofs.HeardLemmas.{asked-inside, last-one, request-heard}
use Rattle.proof_layers.proofs.serving.pass_request.Goals as goal

pub returns-in-Some-Asked-clause-heard : goal.returns-in-Some-Asked-clause-heard
returns-in-Some-Asked-clause-heard c opened =
    let heard = request-heard c.args.to.now c.pass.new.to c.args.moment c.in_ok-events.events.items opened c.args.request c.in_ok-events.ensures.heard in
    let last = last-one c.pop.new.self.items c.in-Some-Asked.field-0 (Asked c.args.request) (sym heard ∙ c.in-Some-Asked.ensures.items) in
    asked-inside c.in-Some-Asked.request c.args.request (sym c.in-Some-Asked.field-0-is ∙ last)
