-- What a folder is in (own rule).
use Rattle.std.specs.Prelude.{ℕ, ◌+◌, ◌-◌, ◌^◌, min, nat_lt, ◌&&◌, Bool, if◌then◌else◌, is_some, Option, Some, None}
use Rattle.node_context.specs.declared.doing.Doing.{Doing}
use Rattle.node_context.specs.declared.doing.Standing.{Standing}
use Rattle.node_context.specs.declared.doing.Standing.TheVariants as at
use Rattle.node_status.specs.declared.status.FolderState.{FolderState}
use Rattle.node_status.specs.declared.status.FolderState.TheVariants.{UpToDate, Behind, Failing, Scanning, Pulling, NoRoom, Away, InUse, Held}
use Rattle.node_status.specs.declared.status.Progress.{Progress}

-- of one that is there: needed names are pulled; or one had no room; or all names are scanned; or names are needed, of which some have failed or none; or
-- it is up to date
abbrev pub state_there : Doing → Bool → ℕ → FolderState
state_there d has_failed needed =
    if is_some d.round && nat_lt 0 needed then Pulling else
    if d.has_no_room then NoRoom else
    if is_some d.scan then Scanning else
    if nat_lt 0 needed && has_failed then Failing else
    if nat_lt 0 needed then Behind else UpToDate

-- of a folder of which so many names are needed
abbrev pub state_of : Standing → Doing → Bool → ℕ → FolderState
state_of at.There d has_failed needed = state_there d has_failed needed
state_of at.Away d has_failed needed = Away
state_of at.InUse d has_failed needed = InUse
state_of at.Held d has_failed needed = Held

-- how far it is: a scan by its names; a pull by those that were pulled and those that are needed still
abbrev pub progress_of : FolderState → Doing → ℕ → Option Progress
progress_of Scanning d needed = d.scan
progress_of Pulling d needed = Some (record { at = d.pulled; of = min (d.pulled + needed) (2 ^ 64 - 1) })
progress_of UpToDate d needed = None
progress_of Behind d needed = None
progress_of Failing d needed = None
progress_of NoRoom d needed = None
progress_of Away d needed = None
progress_of InUse d needed = None
progress_of Held d needed = None
