use Rattle.folder_core.specs.declared.change.Change.TheVariants.{EnterCommit}
use Rattle.folder_calls.specs.Calls.{enter_value}
use Rattle.folder_calls.proofs.LoneCalls.{change-lone, change-done, change-replies}
use Rattle.folder_calls.proofs.lone.LoneFolderCalls.enter_commit.Goals as goal

pub returns-clause-changes : goal.returns-clause-changes
returns-clause-changes g c =
    change-replies c.args.self.now _ _ c.self.view_is c.self.invariant c.go_on.ensures.goes_on c.go_on.ensures.seen enter_value (EnterCommit c.args.ticket)
    _ _ c.enter_commit-answer.ensures.appends _ _ c.with_point.ensures tt

pub returns-clause-planned : goal.returns-clause-planned
returns-clause-planned g c =
    change-done c.args.self.now _ _ c.self.view_is c.self.invariant c.go_on.ensures.goes_on c.go_on.ensures.seen enter_value (EnterCommit c.args.ticket)
    _ _ c.enter_commit-answer.ensures.appends _ _ c.with_point.ensures

pub invariant_of-self : goal.invariant_of-self
invariant_of-self g c =
    change-lone c.args.self.now _ _ c.self.view_is c.self.invariant c.go_on.ensures.goes_on c.go_on.ensures.seen enter_value (EnterCommit c.args.ticket)
    _ _ c.enter_commit-answer.ensures.appends _ _ c.with_point.ensures c.enter_commit-answer.ensures.history
