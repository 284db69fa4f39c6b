use Rattle.std.proofs.Common.{rules}
use Rattle.std.specs.FinMap.{empty_of_len}
use Rattle.std.proofs.lemmas.List.Sums.{AllPass-from_list_all}
use Rattle.node_replay.specs.Told.{is_pullable}
use Rattle.bepd_run.proofs.plans.settle_at.Goals as goal

pub settle-requires-clause-closed : goal.settle-requires-clause-closed
settle-requires-clause-closed g c = empty_of_len _ (search rules)

pub settle-requires-clause-pullable : goal.settle-requires-clause-pullable
settle-requires-clause-pullable g c = AllPass-from_list_all (λ p. is_pullable p.target) _ (search rules)
