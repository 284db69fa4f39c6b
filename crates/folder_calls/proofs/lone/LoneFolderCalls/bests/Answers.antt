use Rattle.std.specs.Prelude.{map, option_copied}
use Rattle.folder_core.specs.Reads.{Bests}
use Rattle.folder_calls.specs.Calls.{best_entry}
use Rattle.folder_calls.proofs.LoneCalls.{look-done, look-replies}
use Rattle.folder_calls.proofs.lone.LoneFolderCalls.bests.Goals as goal

pub returns-clause-reads : goal.returns-clause-reads
returns-clause-reads g c =
    look-replies c.args.self.now _ _ c.self.view_is c.self.invariant c.go_on.ensures.goes_on c.go_on.ensures.seen c.core.ensures.core (Bests (option_copied c.args.after) c.args.limit) (λ page. map best_entry page)
    _ c.bests-answer.ensures _ _ c.with_point.ensures

pub returns-clause-planned : goal.returns-clause-planned
returns-clause-planned g c =
    look-done c.args.self.now _ _ c.self.view_is c.self.invariant c.go_on.ensures.goes_on c.go_on.ensures.seen c.core.ensures.core (Bests (option_copied c.args.after) c.args.limit) (λ page. map best_entry page)
    _ c.bests-answer.ensures _ _ c.with_point.ensures
