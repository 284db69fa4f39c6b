use Rattle.folder_core.specs.declared.change.Change.TheVariants.{Finish}
use Rattle.folder_core.specs.Calls.{finish_answer}
use Rattle.folder_calls.proofs.LoneCalls.{end-done, end-replies}
use Rattle.folder_calls.proofs.lone.LoneFolderCalls.finish.Goals as goal

pub returns-clause-changes : goal.returns-clause-changes
returns-clause-changes g c =
    end-replies c.args.self.now _ _ c.self.view_is c.self.invariant c.go_on.ensures.goes_on c.go_on.ensures.seen (Finish c.args.commit c.args.assembled) _
    (finish_answer c.finish-value.result) c.finish-value.ensures.appends _ c.len-self-inside.ensures.len (c.requires, c.finish-value.ensures.assembled)

pub returns-clause-planned : goal.returns-clause-planned
returns-clause-planned g c =
    end-done c.args.self.now _ _ c.self.view_is c.self.invariant c.go_on.ensures.goes_on c.go_on.ensures.seen (Finish c.args.commit c.args.assembled) _
    (finish_answer c.finish-value.result) c.finish-value.ensures.appends _ c.len-self-inside.ensures.len
