use Rattle.std.proofs.Common.{◌-◌, drop, length}
use Rattle.folder_core.proofs.ReadLists.{Apart}
use Rattle.node_state.proofs.States.{GoesOn, ids}
use Rattle.node_state.proofs.reading.read_folders.Given as goal

abbrev pub invariant-loop-folders : goal.invariant-loop-folders
invariant-loop-folders l = record {
  goes : GoesOn l.me l.edition l.body l.folders.items (drop l.at l.body);
  once : Apart (ids l.folders.items);
}

abbrev pub decreases-loop-folders : goal.decreases-loop-folders
decreases-loop-folders l = length l.body - l.at
