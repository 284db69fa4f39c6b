use Rattle.std.proofs.Common.{◌∙◌}
use Rattle.node_need.proofs.RetryLemmas.{search_finds}
use Rattle.node_need.proofs.retries.is_among.Goals as goal

pub returns : goal.returns
returns c = λ sorted.
    c.is_ok.ensures.value ∙ search_finds c.args.names.now c.args.name.now c.binary_search.result c.binary_search.ensures.position c.binary_search.ensures.bound sorted
