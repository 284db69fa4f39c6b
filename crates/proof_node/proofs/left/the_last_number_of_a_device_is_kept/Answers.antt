use Rattle.std.proofs.Common.{◌∙◌, ap, sym}
use Rattle.std.specs.FinMap.{get}
use Rattle.node_state.specs.Peers.{Peers}
use Rattle.proof_node.proofs.LastNumbers.{last-number, no-number}
use Rattle.proof_node.proofs.LeftPlaces.{left-peers}
use Rattle.proof_node.proofs.left.the_last_number_of_a_device_is_kept.Goals as goal

pub returns-clause-last : goal.returns-clause-last
returns-clause-last c = λ run place f d n e g.
    last-number place d run.config.peers run.shares run.kept n (ap (λ (m : Peers). get m d) (sym (left-peers run.config run.index_ids run.shares run.records run.kept place f e)) ∙ g)

pub returns-clause-never_0 : goal.returns-clause-never_0
returns-clause-never_0 c = λ run place f d n e g.
    let r = last-number place d run.config.peers run.shares run.kept n (ap (λ (m : Peers). get m d) (sym (left-peers run.config run.index_ids run.shares run.records run.kept place f e)) ∙ g) in
    r.2.some

pub returns-clause-none : goal.returns-clause-none
returns-clause-none c = λ run place f d e g.
    no-number place d run.config.peers run.shares run.kept (ap (λ (m : Peers). get m d) (sym (left-peers run.config run.index_ids run.shares run.records run.kept place f e)) ∙ g)
