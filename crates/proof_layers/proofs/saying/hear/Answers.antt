use Rattle.proof_layers.proofs.HeardLemmas.{Reading, fed-alone}
use Rattle.proof_layers.proofs.saying.hear.Goals as goal

pub returns : goal.returns
returns c f between live is after =
    let reading : Reading = record { read = c.one_reading.ensures.read; only = c.one_reading.ensures.only } in
    fed-alone (λ events. events.items) reading c.args.session.now c.feed.new.self c.args.frame.now f c.args.moment c.feed.result between live is after
    c.feed.ensures.events c.feed.ensures.session
