-- A history that is made once more, entry by entry.
use Rattle.std.proofs.Common.{◌≡◌, ℕ, ◌+◌, ◌<◌, suc, List, [], ◌∷◌, ◌++◌, length, take, drop, get_or, sym, ap, subst, ◌∙◌}
use Rattle.std.proofs.Math.Seq.{drop-cons}
use Rattle.std.proofs.lemmas.List.{take_more, take-append-drop}
use Rattle.folder_core.specs.States.{FolderState}
use Rattle.folder_calls.specs.declared.entry.Entry.{Entry}
use Rattle.folder_calls.specs.Histories.{IsLegal, MayFollow, after, state_after}
use Rattle.folder_calls.proofs.HistoryEntries.{legal-push, state-push}
use Rattle.folder_calls.proofs.HistoryFronts.{legal-divided}

module _ (passes : ℕ) (opening : FolderState) (es : List Entry) (i : ℕ) (e : Entry) (short : i < length es) (here : e ≡ get_or es i e)
    (s : FolderState) (at : s ≡ state_after opening (take i es)) where
  more : take (i + 1) es ≡ take i es ++ e ∷ []
  more = take_more es i e short ∙ ap (λ x. take i es ++ x ∷ []) (sym here)

  -- the entry may come next
  pub legal-more_made : IsLegal passes opening (take i es) → MayFollow passes s e → IsLegal passes opening (take (i + 1) es)
  legal-more_made legal may =
      subst (IsLegal passes opening) (sym more)
      (legal-push passes opening (take i es) e legal (subst (λ t. MayFollow passes t e) at may))

  pub state-more_made : (t : FolderState) → t ≡ after s e → t ≡ state_after opening (take (i + 1) es)
  state-more_made t made = made ∙ ap (λ x. after x e) at ∙ sym (ap (state_after opening) more ∙ state-push opening (take i es) e)

  -- the entry may not come next, so the history isn't legal
  pub legal-may_follow : IsLegal passes opening es → MayFollow passes s e
  legal-may_follow legal =
      let divided : es ≡ take i es ++ e ∷ drop (suc i) es =
      sym (take-append-drop i es) ∙ ap (λ xs. take i es ++ xs) (drop-cons es i e short ∙ ap (λ x. x ∷ drop (suc i) es) (sym here)) in
      subst (λ t. MayFollow passes t e) (sym at)
      (legal-divided passes opening (take i es) (e ∷ drop (suc i) es) (subst (IsLegal passes opening) divided legal)).1.0
