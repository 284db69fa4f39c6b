use Rattle.folder_core.specs.Reads.{FindBlock}
use Rattle.folder_calls.proofs.LoneCalls.{look-done, look-replies}
use Rattle.folder_calls.proofs.lone.LoneFolderCalls.find_block.Goals as goal

pub returns-clause-reads : goal.returns-clause-reads
returns-clause-reads g c =
    look-replies c.args.self.now _ _ c.self.view_is c.self.invariant c.go_on.ensures.goes_on c.go_on.ensures.seen c.core.ensures.core (FindBlock c.args.hash.now) (λ place. place)
    _ c.find_block-answer.ensures _ _ c.with_point.ensures

pub returns-clause-planned : goal.returns-clause-planned
returns-clause-planned g c =
    look-done c.args.self.now _ _ c.self.view_is c.self.invariant c.go_on.ensures.goes_on c.go_on.ensures.seen c.core.ensures.core (FindBlock c.args.hash.now) (λ place. place)
    _ c.find_block-answer.ensures _ _ c.with_point.ensures
