-- Changes that are made one after the other.
use Rattle.std.specs.Prelude.{◌≡◌, Bool, true, false, List, [], ◌∷◌, ◌++◌, Option, Some, None, Result, Ok, Err}
use Rattle.std.specs.declared.alloc.AllocError.{AllocError}
use Rattle.folder_core.specs.States.{FolderState}
use Rattle.folder_core.specs.declared.answer.Answer.{Answer}
use Rattle.folder_core.specs.declared.change.Change.{Change}
use Rattle.folder_core.specs.declared.change.Change.TheVariants.{Finish, GiveUp, Abort}
use Rattle.folder_core.specs.Steps.{step}

-- the answers of the changes, and the state after them
abbrev pub run : FolderState → List Change → List Answer × FolderState
run s [] = ([], s)
run s (c ∷ cs) = ((step s c).0 ∷ (run (step s c).1 cs).0, (run (step s c).1 cs).1)

-- what a call of a change by its value answers; without an answer it is out of memory
abbrev pub made_answer : Result Answer AllocError → Option Answer
made_answer (Ok answer) = Some answer
made_answer (Err fault) = None

-- the change ends a pull, if it is open: this needs no memory
abbrev pub ends_pull : Change → Bool
ends_pull (Finish commit assembled) = true
ends_pull (GiveUp ticket) = true
ends_pull (Abort commit) = true
ends_pull _ = false

-- the answers are those of some of the changes, from the first on, and the state is that after these
pub record IsPartway (s : FolderState) (changes : List Change) (answers : List Answer) (t : FolderState) : Type 0 where
  pub made : List Change
  pub rest : List Change
  pub divided : changes ≡ made ++ rest
  pub ran : (answers, t) ≡ run s made
