use Rattle.proof_layers.proofs.HeardLemmas.{answered-is, response-heard}
use Rattle.proof_layers.proofs.serving.pass_response.Goals as goal

pub returns-in-Some-Answered : goal.returns-in-Some-Answered
returns-in-Some-Answered c opened =
    let heard = response-heard c.args.to.now c.pass.new.to c.args.moment c.in_ok-events.events.items opened c.args.response c.in_ok-events.ensures.heard in
    answered-is c.args.response c.in-Some-Answered.response _ c.in_ok-events.events.items c.pop.new.self.items c.in-Some-Answered.field-0 heard
    c.in-Some-Answered.ensures.items c.in-Some-Answered.field-0-is
