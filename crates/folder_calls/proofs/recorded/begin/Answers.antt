use Rattle.std.proofs.Common.{subst}
use Rattle.std.specs.Prelude.{Ok}
use Rattle.folder_core.specs.Calls.{Changes, begin_answer}
use Rattle.folder_core.specs.declared.change.Change.TheVariants.{BeginPull}
use Rattle.folder_calls.proofs.RecordedPulls.{given-back}
use Rattle.folder_calls.proofs.recorded.begin.Goals as goal

pub returns-in_default-clause-change : goal.returns-in_default-clause-change
returns-in_default-clause-change g c =
    given-back _ _ _ c.args.name.now c.in-Begun.inner _
    (subst (λ b. Changes (g.C.FolderCore.state c.args.core.now) (BeginPull c.args.name.now) (begin_answer (Ok b)) (g.C.FolderCore.state c.begin_pull.new.self)) c.in-Begun.is c.in_ok-inner.ensures)
    c.give_up.ensures
