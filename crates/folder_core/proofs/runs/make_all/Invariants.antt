use Rattle.folder_core.proofs.ChangeRuns.{Ran}
use Rattle.folder_core.proofs.runs.make_all.Given as goal

abbrev pub invariant-loop-change : goal.invariant-loop-change
invariant-loop-change g l =
    (goal.iterator-loop-change g).can_next l.change-iterator × (goal.iterator-loop-change g).is_finite l.change-iterator
    × Ran (g.C.FolderCore.state l.fn.core) (g.C.FolderCore.state l.core) l.fn.changes l.change-iterator.rest.items l.answers.items
