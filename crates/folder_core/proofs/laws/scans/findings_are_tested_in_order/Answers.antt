use Rattle.folder_core.proofs.ChangeAnswers.{found-busy, found-moved, found-unchanged, found-counter, found-sequence, found-made}
use Rattle.folder_core.proofs.laws.scans.findings_are_tested_in_order.Goals as goal

pub returns-clause-busy : goal.returns-clause-busy
returns-clause-busy c = λ s n expected f moment p g stage. found-busy s n f moment expected p g stage

pub returns-clause-moved : goal.returns-clause-moved
returns-clause-moved c = λ s n expected f moment idle other. found-moved s n f moment expected idle other

pub returns-clause-unchanged : goal.returns-clause-unchanged
returns-clause-unchanged c = λ s n f moment r idle here same. found-unchanged s n f moment r idle here same

pub returns-clause-counter : goal.returns-clause-counter
returns-clause-counter c = λ s n f moment idle other full. found-counter s n f moment idle other full

pub returns-clause-sequence : goal.returns-clause-sequence
returns-clause-sequence c = λ s n f moment idle other left full. found-sequence s n f moment idle other left full

pub returns-clause-recorded : goal.returns-clause-recorded
returns-clause-recorded c = λ s n f moment idle other left room. found-made s n f moment idle other left room
