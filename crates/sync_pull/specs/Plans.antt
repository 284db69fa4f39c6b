-- Whether a pull keeps the file that it replaces, and under which name (Syncthing, "Conflicting Changes").
use Rattle.std.specs.Prelude.{◌≡◌, ℕ, true, false, ℤ, Option, Some, None, IsSome}
use Rattle.folder_core.specs.Steps.{is_copy_due}
use Rattle.sync_names.specs.Made.{conflict_text}
use Rattle.sync_names.specs.Refusal.{refusal}
use Rattle.sync_record.specs.Records.{Name, FileRecord}
use Rattle.sync_pull.specs.declared.replace.CopyPlan.{CopyPlan}
use Rattle.sync_pull.specs.declared.replace.CopyPlan.TheVariants.{Due, NotDue}

-- the name of the conflict copy of a local file, by who changed it last
abbrev pub copy_name : Name → ℕ → Option FileRecord → Name
copy_name n moment None = n
copy_name n moment (Some base) = conflict_text n moment base.modified_by

-- a copy is planned exactly where one is due, under the name of the conflict copy if that is safe
abbrev pub IsPlanned : ℤ → ℕ → Name → Option FileRecord → FileRecord → CopyPlan → Type 0
IsPlanned most moment n base target NotDue = is_copy_due most base target ≡ false
IsPlanned most moment n base target (Due None) =
    (is_copy_due most base target ≡ true) × IsSome (refusal (copy_name n moment base))
IsPlanned most moment n base target (Due (Some copy)) = (is_copy_due most base target ≡ true) × (copy ≡ copy_name n moment base)
