-- What the scan of a name asks of the folder (own rule).
use Rattle.std.specs.Prelude.{◌≡◌, ◌⊎◌, ℕ, List, [], ◌∷◌, Option, true}
use Rattle.sync_version.specs.Versions.{Vector}
use Rattle.sync_record.specs.Records.{Name}
use Rattle.folder_core.specs.States.{local_version}
use Rattle.folder_core.specs.Steps.{is_accepted}
use Rattle.folder_core.specs.declared.answer.Answer.{Answer}
use Rattle.folder_core.specs.declared.change.Change.{Change}
use Rattle.folder_core.specs.declared.change.Change.TheVariants.{ScanFound, ScanGone}
use Rattle.folder_calls.specs.Adds.{Adds}
use Rattle.folder_calls.specs.Calls.{scan_value}
use mathlib.Core.List.{IsPrefix}
use Rattle.folder_calls.specs.Shared.{CallerView, Gets, Sees, now, seeing}
use Rattle.sync_scan.specs.declared.scanned.Look.{Look}
use Rattle.sync_scan.specs.declared.scanned.Look.TheVariants as look
use Rattle.sync_scan.specs.declared.scanned.Scanned.{Scanned}
use Rattle.sync_scan.specs.declared.scanned.Scanned.TheVariants as scanned

-- What was found is recorded over the expected version by one change, which got this answer; where nothing is recorded, none is
-- asked for.
abbrev pub AsksFor : CallerView → Name → Option Vector → ℕ → Look → Scanned → CallerView → Type 0
AsksFor old n expected moment (look.Found found) (scanned.Answered answer) new =
    Gets old (ScanFound n expected found moment) (scan_value answer) new
AsksFor old n expected moment look.Gone (scanned.Answered answer) new =
    Gets old (ScanGone n expected moment) (scan_value answer) new
AsksFor old n expected moment look.Skipped scanned.Skipped new = new ≡ old
AsksFor old n expected moment look.Changing scanned.Changing new = new ≡ old
AsksFor old n expected moment _ _ new = ⊥

-- The local record was read first. Over its version, what was then found was recorded by one change, which got this answer. What
-- may be found, by what the caller had seen when the record was read, is handed in.
pub record Scans (old : CallerView) (n : Name) (moment : ℕ) (may : CallerView → Look → Type 0) (result : Scanned) (new : CallerView) : Type 0 where
  pub read : CallerView
  pub sees : Sees old read
  pub found : Look
  pub may_be : may read found
  pub asks : AsksFor read n (local_version (now read) n) moment found result new

-- the caller saw the history go on, maybe by entries of its own
pub record GoesOn (old new : CallerView) : Type 0 where
  pub longer : IsPrefix old.seen new.seen
  pub same : new ≡ seeing old new.seen

-- The same of one of several names: its local record was read at a point since the first of them was begun with, and changes of the
-- others may have been made between that and its own.
pub record ScansSince (first old : CallerView) (n : Name) (moment : ℕ) (may : CallerView → Look → Type 0) (result : Scanned) (new : CallerView) : Type 0 where
  pub read : CallerView
  pub since : GoesOn first read
  pub found : Look
  pub may_be : may read found
  pub point : CallerView
  pub until : GoesOn read point
  pub sees : Sees old point
  pub asks : AsksFor point n (local_version (now read) n) moment found result new

-- the change is a scan of the name at the moment
abbrev pub IsScanOf : Name → ℕ → Change → Type 0
IsScanOf n moment (ScanFound m expected found at) = (m ≡ n) × (at ≡ moment)
IsScanOf n moment (ScanGone m expected at) = (m ≡ n) × (at ≡ moment)
IsScanOf n moment _ = ⊥

-- no entry was added to those of the caller, or the one of a scan of the name at the moment, with an answer that accepts it
abbrev pub AddsOneAtMost : CallerView → Name → ℕ → CallerView → Type 0
AddsOneAtMost old n moment new =
    Adds old [] new ⊎ ((c : Change) × (a : Answer) × IsScanOf n moment c × (is_accepted a ≡ true) × Adds old ((c, a) ∷ []) new)
