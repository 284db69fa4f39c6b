-- What is left of folders, one after another.
use Rattle.std.proofs.Common.{◌≡◌, ◌++◌, ◌∷◌, [], List, ℕ, ap, subst, sym}
use Rattle.folder_core.specs.States.{FolderState}
use Rattle.folder_calls.specs.declared.history.History.{History}
use Rattle.folder_shared.specs.declared.shared.SharedFolder.{SharedFolder}
use Rattle.folder_shared.specs.Passes.{opened_of}
use Rattle.node_threads.specs.declared.folders.StartFolder.{StartFolder}
use Rattle.node_threads.specs.Left.{AreClosed, AreLeft, AreOpened, IsClosed, IsOpened, LeadsTo}

module _ {C : Type 0} (state : C → FolderState) where
  -- one more was opened
  pub opened_more : (fs : List (StartFolder C)) (f : StartFolder C) (ss : List (SharedFolder C)) (s : SharedFolder C)
      → AreOpened state fs ss → IsOpened state (state f.core) f.settings.history_limit s → AreOpened state (fs ++ f ∷ []) (ss ++ s ∷ [])
  opened_more [] f [] s all one = (one, tt)
  opened_more (g ∷ fs) f [] s all one = absurd all
  opened_more [] f (t ∷ ss) s all one = absurd all
  opened_more (g ∷ fs) f (t ∷ ss) s all one = (all.0, opened_more fs f ss s all.1 one)

  -- one more was closed
  pub closed_more : (ss : List (SharedFolder C)) (s : SharedFolder C) (cs : List C) (c : C)
      → AreClosed state ss cs → IsClosed state s (state c) → AreClosed state (ss ++ s ∷ []) (cs ++ c ∷ [])
  closed_more [] s [] c all one = (one, tt)
  closed_more (t ∷ ss) s [] c all one = absurd all
  closed_more [] s (d ∷ cs) c all one = absurd all
  closed_more (t ∷ ss) s (d ∷ cs) c all one = (all.0, closed_more ss s cs c all.1 one)

  -- what was opened and then closed is left
  pub are_left : (fs : List (StartFolder C)) (ss : List (SharedFolder C)) (cs : List C) → AreOpened state fs ss → AreClosed state ss cs → AreLeft state fs cs
  are_left [] [] [] opened closed = tt
  are_left (f ∷ fs) [] cs opened closed = absurd opened
  are_left [] (s ∷ ss) cs opened closed = absurd opened
  are_left [] [] (c ∷ cs) opened closed = absurd closed
  are_left (f ∷ fs) (s ∷ ss) [] opened closed = absurd closed
  are_left (f ∷ fs) (s ∷ ss) (c ∷ cs) opened closed =
      (subst (λ (h : History). LeadsTo h.opening h.limit (state c)) opened.0 closed.0, are_left fs ss cs opened.1 closed.1)
