use Rattle.std.proofs.Common.{◌≡◌, ◌++◌}
use Rattle.std.specs.List.{AllZip}
use Rattle.bepd_run.specs.Plans.{IsSettledFolder}
use Rattle.bepd_run.proofs.plans.settle_all.Given as goal

abbrev pub invariant-loop-folder : goal.invariant-loop-folder
invariant-loop-folder g l = record {
  each : AllZip IsSettledFolder l.yielded l.settled.items;
  divided : l.fn.folders.items ≡ l.yielded ++ l.folder-iterator.rest.items;
}
