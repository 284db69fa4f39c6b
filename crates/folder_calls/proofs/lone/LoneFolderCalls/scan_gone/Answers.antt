use Rattle.std.specs.Prelude.{option_copied}
use Rattle.folder_core.specs.declared.change.Change.TheVariants.{ScanGone}
use Rattle.folder_calls.specs.Calls.{scan_value}
use Rattle.folder_calls.proofs.LoneCalls.{change-done, change-replies}
use Rattle.folder_calls.proofs.lone.LoneFolderCalls.scan_gone.Goals as goal

pub returns-clause-changes : goal.returns-clause-changes
returns-clause-changes g c =
    change-replies c.args.self.now _ _ c.self.view_is c.self.invariant c.go_on.ensures.goes_on c.go_on.ensures.seen scan_value (ScanGone c.args.name.now (option_copied c.args.expected) c.args.moment)
    _ _ c.scan_gone-answer.ensures.appends _ _ c.with_point.ensures tt

pub returns-clause-planned : goal.returns-clause-planned
returns-clause-planned g c =
    change-done c.args.self.now _ _ c.self.view_is c.self.invariant c.go_on.ensures.goes_on c.go_on.ensures.seen scan_value (ScanGone c.args.name.now (option_copied c.args.expected) c.args.moment)
    _ _ c.scan_gone-answer.ensures.appends _ _ c.with_point.ensures
