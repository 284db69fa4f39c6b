use Rattle.std.proofs.Common.{◌≡◌, take}
use Rattle.node_threads.specs.Workers.{kept_numbers}
use Rattle.node_threads.proofs.threads.kept_numbers.Given as goal

abbrev pub invariant-loop-folder : goal.invariant-loop-folder
invariant-loop-folder g l = l.kept.items ≡ kept_numbers (take l.folder-index l.read)
