use Rattle.std.proofs.Common.{◌≡◌, ◌++◌, map}
use Rattle.bepd_run.specs.Renumbered.{renumbered}
use Rattle.bepd_run.proofs.starts.renumbered.Given as goal

abbrev pub invariant-loop-folder : goal.invariant-loop-folder
invariant-loop-folder l = record {
  each : l.folders.items ≡ map (renumbered l.config l.index_ids) l.yielded;
  divided : l.fn.state.folders ≡ l.yielded ++ l.folder-iterator.rest.items;
}
