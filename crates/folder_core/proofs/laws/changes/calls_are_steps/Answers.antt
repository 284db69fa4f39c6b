use Rattle.std.proofs.Common.{refl, sym, ap}
use Rattle.folder_core.specs.States.{FolderState}
use Rattle.folder_core.specs.declared.answer.Answer.{Answer}
use Rattle.folder_core.proofs.laws.changes.calls_are_steps.Goals as goal

pub returns-clause-made : goal.returns-clause-made
returns-clause-made c = λ s t x a shown. (sym (ap (λ (d : Answer × FolderState). d.0) shown), sym (ap (λ (d : Answer × FolderState). d.1) shown))

pub returns-clause-out_of_memory : goal.returns-clause-out_of_memory
returns-clause-out_of_memory c = λ s t x shown. shown

pub returns-clause-answered : goal.returns-clause-answered
returns-clause-answered c = λ done tested. (refl, refl)
