use Rattle.std.proofs.Common.{[], ◌∷◌, sym, subst}
use Rattle.folder_calls.specs.declared.lone_state.LoneState.{LoneState}
use Rattle.folder_calls.specs.LoneStates.{seen_by}
use Rattle.folder_calls.specs.Shared.{Closes}
use Rattle.folder_calls.proofs.LoneCalls.{lone-closes}
use Rattle.folder_calls.proofs.lone.Lone.close.Goals as goal

pub returns-clause-closes : goal.returns-clause-closes
returns-clause-closes g c =
    subst (λ (a : LoneState). Closes a.history.opening a.history.limit 2 (seen_by a ∷ []) (g.C.FolderCore.state c.into_core.result)) c.self.view_is
    (subst (Closes c.self.inside.recorded.opening c.self.inside.recorded.limit 2 _) (sym c.into_core.ensures.core) (lone-closes _ c.self.invariant))
