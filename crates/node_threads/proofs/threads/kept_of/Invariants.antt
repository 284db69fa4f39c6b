use Rattle.std.proofs.Common.{◌≡◌, ◌++◌}
use Rattle.std.specs.Prelude.{map}
use Rattle.node_threads.specs.Workers.{kept_numbers}
use Rattle.node_threads.proofs.threads.kept_of.Given as goal

-- the numbers of those that came, and the others are still to come
abbrev pub invariant-loop-folders : goal.invariant-loop-folders
invariant-loop-folders g l = record {
  kept : map (λ kept. kept.items) l.all.items ≡ map (λ folders. kept_numbers folders.read.items) l.yielded;
  divided : l.fn.left.items ≡ l.yielded ++ l.folders-iterator.rest.items;
}
