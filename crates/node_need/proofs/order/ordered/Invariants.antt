use Rattle.std.proofs.Common.{◌≡◌, ◌++◌}
use Rattle.node_need.proofs.OrderLemmas.{IsSorting}
use Rattle.node_need.proofs.order.ordered.Given as goal

-- those that came are sorted, and the others are still to come
abbrev pub invariant-loop-one : goal.invariant-loop-one
invariant-loop-one l = record {
  sorting : IsSorting l.yielded l.live.items l.files.items l.deleted.items;
  divided : l.fn.wanted.items ≡ l.yielded ++ l.one-iterator.rest.items;
}
