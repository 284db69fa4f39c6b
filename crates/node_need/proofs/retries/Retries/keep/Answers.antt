use Rattle.std.proofs.Common.{rules}
use Rattle.std.proofs.lemmas.Map.Made.{filter_same_pairs}
use Rattle.node_need.specs.Retries.{is_among}
use Rattle.node_need.proofs.RetryLemmas.{only_is}
use Rattle.node_need.proofs.retries.Retries.keep.Goals as goal

pub returns-clause-names : goal.returns-clause-names
returns-clause-names c = λ sorted.
    only_is c.args.needed.now c.args.self.now.retries c.retain.new.self
    (filter_same_pairs _ (λ e. is_among c.args.needed.now e.0) _ (λ k v b w f' t. search rules) _ _ c.retain.ensures.filtered)
