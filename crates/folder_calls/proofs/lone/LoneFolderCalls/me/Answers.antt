use Rattle.std.proofs.Common.{ap, subst, ◌∙◌}
use Rattle.folder_core.specs.States.{FolderState}
use Rattle.folder_calls.specs.declared.lone_state.LoneState.{LoneState}
use Rattle.folder_calls.specs.LoneStates.{seen_by}
use Rattle.folder_calls.specs.Shared.{IsLegalView}
use Rattle.folder_calls.proofs.LoneCalls.{seen-legal}
use Rattle.folder_calls.proofs.HistoryEntries.{state-me}
use Rattle.folder_calls.proofs.lone.LoneFolderCalls.me.Goals as goal

pub returns-clause-me : goal.returns-clause-me
returns-clause-me g c =
    c.me.ensures.me ∙ ap (λ (s : FolderState). s.me) c.core.ensures.core ∙ state-me c.self.inside.recorded.opening c.self.inside.recorded.entries
    ∙ ap (λ (a : LoneState). a.history.opening.me) c.self.view_is

pub returns-clause-legal : goal.returns-clause-legal
returns-clause-legal g c = ∣ subst (λ a. IsLegalView (seen_by a)) c.self.view_is (seen-legal _ c.self.invariant) ∣₁
