use Rattle.std.proofs.Common.{◌≡◌, ◌∙◌, Some, ap, sym, rules}
use Rattle.node_need.specs.Retries.{after_asked, put_at, retry_at}
use Rattle.node_need.proofs.RetryLemmas.{put_is}
use Rattle.node_need.proofs.retries.Retries.is_over.Goals as goal

pub returns-in-Some-clause-left : goal.returns-in-Some-clause-left
returns-in-Some-clause-left c =
    let n = c.args.wanted.now.name in
    let f = retry_at c.args.self.now in
    let there : f n ≡ Some c.in-Some.retry.now = search rules in
    let asked = c.ask.ensures.left ∙ ap (after_asked c.args.wanted.now c.args.up c.args.is_later) (sym there) in
    put_is c.args.self.now.retries (c.get_mut.follows.lender c.ask.new.self) n _ ((c.get_mut.follows.holds c.ask.new.self).3 (search rules))
    ∙ ap (λ w. put_at n w f) asked
