-- The worked rows, by computation.
use Rattle.std.proofs.Common.{◌≡◌, ℕ, [], ◌∷◌, refl, ap, ◌∙◌}
use Rattle.std.specs.Prelude.{◌+◌, if◌then◌else◌, map, ⊤}
use Rattle.folder_core.specs.Samples.{Row, folder}
use Rattle.folder_core.specs.States.{FolderState}
use Rattle.folder_core.specs.Steps.{is_accepted}
use Rattle.folder_core.specs.declared.answer.Answer.{Answer}
use Rattle.folder_core.proofs.RowsListed.{listed}
use Rattle.folder_calls.specs.Histories.{shared_step}
use Rattle.folder_calls.specs.Samples.{IsRow, history_of_2, history_of_3, history_of_4, shared_row}

-- from a state, after a history of some length, each change of the row gives its answer and its state, one after another
abbrev Leads : ℕ → ℕ → FolderState → Row → Type 0
Leads limit entries s [] = ⊤
Leads limit entries s (m ∷ ms) = (shared_step limit entries s m.0 ≡ (m.1, m.2)) × Leads limit (if is_accepted m.1 then entries + 1 else entries) m.2 ms

leads-row : (limit entries : ℕ) (s : FolderState) (row : Row) → Leads limit entries s row → shared_row limit entries s (map (λ m. m.0) row) ≡ row
leads-row limit entries s [] leads = refl
leads-row limit entries s (m ∷ ms) leads =
    ap (λ (d : Answer × FolderState). (m.0, d.0, d.1) ∷ shared_row limit (if is_accepted d.0 then entries + 1 else entries) d.1 (map (λ m. m.0) ms)) leads.0
    ∙ ap (λ (row : Row). m ∷ row) (leads-row limit (if is_accepted m.1 then entries + 1 else entries) m.2 ms leads.1)

pub history-2 : IsRow 2 history_of_2
history-2 = leads-row 2 0 (folder [] 0 []) history_of_2 (simp listed, (simp listed, (simp listed, tt)))

pub history-3 : IsRow 3 history_of_3
history-3 = leads-row 3 0 (folder [] 0 []) history_of_3 (simp listed, (simp listed, (simp listed, (simp listed, tt))))

pub history-4 : IsRow 4 history_of_4
history-4 = leads-row 4 0 (folder [] 0 []) history_of_4 (simp listed, (simp listed, (simp listed, (simp listed, (simp listed, tt)))))
