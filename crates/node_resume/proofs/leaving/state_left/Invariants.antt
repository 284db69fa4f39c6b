use Rattle.std.proofs.Common.{◌≡◌, ◌++◌}
use Rattle.std.specs.Prelude.{map}
use Rattle.node_resume.specs.Left.{folders_left}
use Rattle.node_resume.proofs.leaving.state_left.Given as goal

-- those that came are stored, and the others are still to come
abbrev pub invariant-loop-folder : goal.invariant-loop-folder
invariant-loop-folder l = record {
  stored : l.folders ≡ folders_left l.config l.index_ids (map (λ s. s.items) l.shares) (map (λ r. r.folder) l.yielded) (map (λ k. k.items) l.kept);
  divided : l.fn.records.items ≡ l.yielded ++ l.folder-iterator.rest.items;
}
