use Rattle.folder_calls.proofs.RecordedSteps.{more-passes, more-passes-recorded}
use Rattle.folder_calls.proofs.recorded.RecordedFolder.add_pass.Goals as goal

pub invariant_of-self : goal.invariant_of-self
invariant_of-self g c = more-passes-recorded _ _ _ _ c.self.invariant c.if-self.false

pub returns-clause-history : goal.returns-clause-history
returns-clause-history g c = more-passes _ c.self.invariant.history c.if-self.false
