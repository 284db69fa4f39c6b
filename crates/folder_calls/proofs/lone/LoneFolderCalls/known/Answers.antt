use Rattle.folder_core.specs.Reads.{Known}
use Rattle.folder_calls.proofs.LoneCalls.{count-done, count-replies}
use Rattle.folder_calls.proofs.lone.LoneFolderCalls.known.Goals as goal

pub returns-clause-reads : goal.returns-clause-reads
returns-clause-reads g c =
    count-replies c.args.self.now _ _ c.self.view_is c.self.invariant c.go_on.ensures.goes_on c.go_on.ensures.seen c.core.ensures.core (Known c.args.device) _
    c.known-value.ensures _ c.len-self-inside.ensures.len

pub returns-clause-planned : goal.returns-clause-planned
returns-clause-planned g c =
    count-done c.args.self.now _ _ c.self.view_is c.self.invariant c.go_on.ensures.goes_on c.go_on.ensures.seen c.core.ensures.core (Known c.args.device) _
    c.known-value.ensures _ c.len-self-inside.ensures.len
