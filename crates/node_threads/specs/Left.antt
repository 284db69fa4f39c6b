-- What a node leaves of its folders (own rule).
use Rattle.std.specs.Prelude.{◌≡◌, ⊤, ℕ, List, [], ◌∷◌}
use Rattle.folder_core.specs.States.{FolderState}
use Rattle.folder_calls.specs.RecordedFolders.{new_history}
use Rattle.folder_calls.specs.Shared.{CallerView, Closes}
use Rattle.folder_shared.specs.declared.shared.SharedFolder.{SharedFolder}
use Rattle.folder_shared.specs.Passes.{limit_of, opened_of, opening_of}
use Rattle.node_threads.specs.declared.folders.StartFolder.{StartFolder}

-- A folder that began in one state, with room for so many entries, ends in another: a legal history leads there.
abbrev pub LeadsTo : FolderState → ℕ → FolderState → Type 0
LeadsTo opening limit end = (passes : ℕ) × ((callers : List CallerView) × Closes opening limit passes callers end)

module _ {C : Type 0} (state : C → FolderState) where
  -- the records that are left of each folder
  abbrev pub AreLeft : List (StartFolder C) → List C → Type 0
  AreLeft [] [] = ⊤
  AreLeft (f ∷ fs) [] = ⊥
  AreLeft [] (c ∷ cs) = ⊥
  AreLeft (f ∷ fs) (c ∷ cs) = LeadsTo (state f.core) f.settings.history_limit (state c) × AreLeft fs cs

  -- a folder is shared from this state on, with room for so many entries
  abbrev pub IsOpened : FolderState → ℕ → SharedFolder C → Type 0
  IsOpened opening limit s = opened_of s.locked ≡ new_history opening limit 0

  abbrev pub AreOpened : List (StartFolder C) → List (SharedFolder C) → Type 0
  AreOpened [] [] = ⊤
  AreOpened (f ∷ fs) [] = ⊥
  AreOpened [] (s ∷ ss) = ⊥
  AreOpened (f ∷ fs) (s ∷ ss) = IsOpened (state f.core) f.settings.history_limit s × AreOpened fs ss

  -- what is left of a shared folder
  abbrev pub IsClosed : SharedFolder C → FolderState → Type 0
  IsClosed s end = LeadsTo (opening_of s.locked) (limit_of s.locked) end

  abbrev pub AreClosed : List (SharedFolder C) → List C → Type 0
  AreClosed [] [] = ⊤
  AreClosed (s ∷ ss) [] = ⊥
  AreClosed [] (c ∷ cs) = ⊥
  AreClosed (s ∷ ss) (c ∷ cs) = IsClosed s (state c) × AreClosed ss cs
