use Rattle.std.proofs.Common.{◌≡◌, ◌++◌}
use Rattle.std.specs.Prelude.{flat_map}
use Rattle.bepd_run.specs.Plans.{open_in}
use Rattle.bepd_run.proofs.plans.open_in.Given as goal

abbrev pub invariant-loop-folder : goal.invariant-loop-folder
invariant-loop-folder l = record {
  each : l.left.items ≡ flat_map (open_in l.state) l.yielded;
  divided : l.fn.plans.items ≡ l.yielded ++ l.folder-iterator.rest.items;
}
