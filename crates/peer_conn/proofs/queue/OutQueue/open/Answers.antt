use Rattle.std.proofs.Common.{ap, ◌∙◌}
use Rattle.peer_conn.specs.declared.known.Known.{Known}
use Rattle.peer_conn.specs.Rule.{rest_of}
use Rattle.peer_conn.proofs.Moves.{begins, cut_all, cut_last_two, cut_only}
use Rattle.peer_conn.proofs.queue.OutQueue.open.Goals as goal

pub bounded_with-requires-clause-rule : goal.bounded_with-requires-clause-rule
bounded_with-requires-clause-rule g c = begins

pub another-first-requires-clause-rule : goal.another-first-requires-clause-rule
another-first-requires-clause-rule g c = cut_all _ _ c.in_ok-sender.ensures.3

pub another-second-requires-clause-rule : goal.another-second-requires-clause-rule
another-second-requires-clause-rule g c = cut_last_two _ _ (ap (λ (v : Known g.row.T.Denot). v.accounts) c.another-first.ensures.rule.0 ∙ ap (λ (v : Known g.row.T.Denot). rest_of v.accounts) c.in_ok-sender.ensures.3)

pub another-third-requires-clause-rule : goal.another-third-requires-clause-rule
another-third-requires-clause-rule g c = cut_only _ _ _ (ap (λ (v : Known g.row.T.Denot). v.accounts) c.another-second.ensures.rule.0 ∙ ap (λ (v : Known g.row.T.Denot). rest_of v.accounts) c.another-first.ensures.rule.0
    ∙ ap (λ (v : Known g.row.T.Denot). rest_of (rest_of v.accounts)) c.in_ok-sender.ensures.3)
