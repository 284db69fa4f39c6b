-- Changes that are made one after the other.
use Rattle.std.proofs.Common.{◌≡◌, ℕ, List, [], ◌∷◌, ◌++◌, refl, sym, ap, ◌∙◌, arith, append_assoc}
use Rattle.std.specs.List.{All}
use Rattle.folder_core.specs.Runs.{run}
use Rattle.folder_core.specs.States.{FolderState}
use Rattle.folder_core.specs.declared.answer.Answer.{Answer}
use Rattle.folder_core.specs.declared.change.Change.{Change}
use Rattle.folder_core.specs.Steps.{MayChange, step}
use Rattle.folder_core.proofs.ChangeRest.{step-me}

-- some of the changes were made, and these are left
pub record Ran (start now : FolderState) (all rest : List Change) (answers : List Answer) : Type 0 where
  pub made : List Change
  pub divided : all ≡ made ++ rest
  pub answered : run start made ≡ (answers, now)
  pub may : All (MayChange start.me) rest
  pub me : now.me ≡ start.me

run-push : (s : FolderState) (cs : List Change) (c : Change) → run s (cs ++ c ∷ []) ≡ ((run s cs).0 ++ (step (run s cs).1 c).0 ∷ [], (step (run s cs).1 c).1)
run-push s [] c = refl
run-push s (d ∷ cs) c = ap (λ (r : List Answer × FolderState). ((step s d).0 ∷ r.0, r.1)) (run-push (step s d).1 cs c)

All-tail : (P : Change → Type 0) (x : Change) (xs : List Change) → All P (x ∷ xs) → All P xs
All-tail P x xs all k d short = all (ℕ.suc k) d (omega arith)

-- one more
pub ran-more : (start now next : FolderState) (all rest : List Change) (answers : List Answer) (c : Change) (a : Answer) → Ran start now all (c ∷ rest) answers → step now c ≡ (a, next) → Ran start next all rest (answers ++ a ∷ [])
ran-more start now next all rest answers c a r is = record {
  made = r.made ++ c ∷ [];
  divided = r.divided ∙ sym (append_assoc r.made (c ∷ []) rest);
  answered =
      run-push start r.made c
      ∙ ap (λ (d : List Answer × FolderState). (d.0 ++ (step d.1 c).0 ∷ [], (step d.1 c).1)) r.answered
      ∙ ap (λ (d : Answer × FolderState). (answers ++ d.0 ∷ [], d.1)) is;
  may = All-tail (MayChange start.me) c rest r.may;
  me = ap (λ (d : Answer × FolderState). d.1.me) (sym is) ∙ step-me now c ∙ r.me;
}
