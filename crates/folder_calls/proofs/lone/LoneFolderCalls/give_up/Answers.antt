use Rattle.folder_core.specs.declared.change.Change.TheVariants.{GiveUp}
use Rattle.folder_core.specs.Calls.{close_answer}
use Rattle.folder_calls.proofs.LoneCalls.{end-done, end-replies}
use Rattle.folder_calls.proofs.lone.LoneFolderCalls.give_up.Goals as goal

pub returns-clause-changes : goal.returns-clause-changes
returns-clause-changes g c =
    end-replies c.args.self.now _ _ c.self.view_is c.self.invariant c.go_on.ensures.goes_on c.go_on.ensures.seen (GiveUp c.args.ticket) _
    (close_answer c.give_up-value.result) c.give_up-value.ensures.appends _ c.len-self-inside.ensures.len tt

pub returns-clause-planned : goal.returns-clause-planned
returns-clause-planned g c =
    end-done c.args.self.now _ _ c.self.view_is c.self.invariant c.go_on.ensures.goes_on c.go_on.ensures.seen (GiveUp c.args.ticket) _
    (close_answer c.give_up-value.result) c.give_up-value.ensures.appends _ c.len-self-inside.ensures.len
