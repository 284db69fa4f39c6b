-- Histories as codes, by which a proof compares them.
use Rattle.std.specs.Prelude.{ℕ, Bool, List, Option, refl}
use Rattle.std.specs.Coded.{Coded, code_by, coded_ℕ, coded_bool, coded_list, coded_option, coded×}
use Rattle.folder_core.specs.Codes.{coded_folder}
use Rattle.folder_core.specs.States.{FolderState}
use Rattle.folder_calls.specs.contracts.planned.Plan as plan
use Rattle.folder_calls.specs.contracts.entry.Entry as entry
use Rattle.folder_calls.specs.declared.lone_state.LoneState.{LoneState}
use Rattle.folder_calls.specs.declared.planned.Plan.{Plan}
use Rattle.folder_calls.specs.declared.entry.Entry.{Entry}
use Rattle.folder_calls.specs.declared.history.History.{History}

abbrev pub coded_history : Coded History
coded_history = code_by (FolderState × (List Entry × (ℕ × ℕ)))
    (coded× coded_folder (coded× (coded_list entry.the_row.coded) (coded× coded_ℕ coded_ℕ)))
    (λ h. (h.opening, (h.entries, (h.limit, h.passes))))
    (λ p. record { opening = p.0; entries = p.1.0; limit = p.1.1.0; passes = p.1.1.1 }) (λ _. refl)

abbrev pub coded_lone : Coded LoneState
coded_lone = code_by (History × (ℕ × (Option Plan × Bool)))
    (coded× coded_history (coded× coded_ℕ (coded× (coded_option plan.the_row.coded) coded_bool)))
    (λ a. (a.history, (a.seen, (a.plan, a.planned))))
    (λ p. record { history = p.0; seen = p.1.0; plan = p.1.1.0; planned = p.1.1.1 }) (λ _. refl)
