use Rattle.std.proofs.Common.{◌≡◌, drop}
use Rattle.node_need.specs.Retries.{retry_at}
use Rattle.node_need.proofs.ChoiceLemmas.{GoesOn}
use Rattle.node_need.proofs.order.PullOrder.new.Given as goal

-- what is tried of the names that are left is tried after those so far
abbrev pub invariant-loop-name : goal.invariant-loop-name
invariant-loop-name g l = record {
  folder : g.W.FolderCalls.folder l.calls ≡ g.W.FolderCalls.folder l.initial.calls;
  on : GoesOn l.up l.is_later l.needed (g.W.FolderCalls.view l.initial.calls) (retry_at l.initial.retries) (drop l.name-index l.needed) l.wanted.items
      (g.W.FolderCalls.view l.calls) (retry_at l.retries);
}
