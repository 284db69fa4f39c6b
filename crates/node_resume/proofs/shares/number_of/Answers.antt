use Rattle.std.proofs.Common.{◌∙◌, sym, ap}
use Rattle.std.specs.Prelude.{option_map, unwrap_or}
use Rattle.node_resume.proofs.KeptNumbers.{number-in}
use Rattle.node_resume.proofs.shares.number_of.Goals as goal

pub returns-in-None : goal.returns-in-None
returns-in-None c =
    ap (λ o. unwrap_or o 0)
    (ap (option_map (λ p. p.index_id)) c.in-None.ensures ∙ sym (number-in c.args.peers.now c.as_slice.result.now c.args.device c.as_slice.ensures))

pub returns-in-Some : goal.returns-in-Some
returns-in-Some c =
    ap (λ o. unwrap_or o 0)
    (ap (option_map (λ p. p.index_id)) c.in-Some.ensures ∙ sym (number-in c.args.peers.now c.as_slice.result.now c.args.device c.as_slice.ensures))
