use Rattle.folder_core.specs.declared.change.Change.TheVariants.{BeginPull}
use Rattle.folder_calls.specs.Calls.{begin_value}
use Rattle.folder_calls.proofs.LoneCalls.{change-done, change-replies}
use Rattle.folder_calls.proofs.lone.LoneFolderCalls.begin_pull.Goals as goal

pub returns-clause-changes : goal.returns-clause-changes
returns-clause-changes g c =
    change-replies c.args.self.now _ _ c.self.view_is c.self.invariant c.go_on.ensures.goes_on c.go_on.ensures.seen begin_value (BeginPull c.args.name.now)
    _ _ c.begin_pull-answer.ensures.appends _ _ c.with_point.ensures tt

pub returns-clause-planned : goal.returns-clause-planned
returns-clause-planned g c =
    change-done c.args.self.now _ _ c.self.view_is c.self.invariant c.go_on.ensures.goes_on c.go_on.ensures.seen begin_value (BeginPull c.args.name.now)
    _ _ c.begin_pull-answer.ensures.appends _ _ c.with_point.ensures
