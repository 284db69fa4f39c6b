use Rattle.std.proofs.Common.{◌≡◌, ℕ, Bool, true, false, List, [], ◌∷◌, ◌++◌, refl, sym, subst, inl, inr}
use Rattle.std.specs.Prelude.{filter, if◌then◌else◌, Option}
use Rattle.sync_version.specs.Versions.{Vector}
use Rattle.sync_record.specs.Records.{Name}
use Rattle.folder_core.specs.States.{local_version}
use Rattle.folder_core.specs.Steps.{is_accepted}
use Rattle.folder_core.specs.declared.answer.Answer.{Answer}
use Rattle.folder_core.specs.declared.change.Change.{Change}
use Rattle.folder_core.specs.declared.change.Change.TheVariants.{ScanFound, ScanGone}
use Rattle.folder_calls.specs.Adds.{Adds, Asked, Asks}
use Rattle.folder_calls.specs.Calls.{scan_value}
use Rattle.folder_calls.specs.Shared.{CallerView, Gets, Sees, now}
use Rattle.sync_scan.specs.Scans.{AddsOneAtMost, AsksFor, IsScanOf}
use Rattle.sync_scan.specs.declared.scanned.Look.{Look}
use Rattle.sync_scan.specs.declared.scanned.Look.TheVariants as look
use Rattle.sync_scan.specs.declared.scanned.Scanned.{Scanned}
use Rattle.sync_scan.specs.declared.scanned.Scanned.TheVariants as scanned
use Rattle.sync_scan.proofs.laws.a_scan_adds_one_entry_at_most.Goals as goal

module _ (adds : (asked : List Asked) (old new : CallerView) → Asks old asked new → Adds old (filter (λ m. is_accepted m.1) asked) new)
    (seen : (old new : CallerView) → Sees old new → Adds old [] new)
    (together : (one two three : CallerView) (xs ys : List Asked) → Adds one xs two → Adds two ys three → Adds one (xs ++ ys) three) where
  one : (old read new : CallerView) (n : Name) (moment : ℕ) (c : Change) (a : Answer) → Sees old read → Gets read c a new → IsScanOf n moment c → AddsOneAtMost old n moment new
  one old read new n moment c a sees gets of = by (is_accepted a) refl
    where
      all : Adds old (filter (λ m. is_accepted m.1) ((c, a) ∷ [])) new
      all = together old read new [] (filter (λ m. is_accepted m.1) ((c, a) ∷ [])) (seen old read sees) (adds ((c, a) ∷ []) read new (new, gets, refl))

      by : (b : Bool) → is_accepted a ≡ b → AddsOneAtMost old n moment new
      by true e = inr (c, a, of, e, subst (λ t. Adds old (if t then (c, a) ∷ [] else []) new) e all)
      by false e = inl (subst (λ t. Adds old (if t then (c, a) ∷ [] else []) new) e all)

  asked : (old read new : CallerView) (n : Name) (v : Option Vector) (moment : ℕ) (l : Look) (r : Scanned) → Sees old read → AsksFor read n v moment l r new → AddsOneAtMost old n moment new
  asked old read new n v moment (look.Found f) (scanned.Answered a) sees gets = one old read new n moment (ScanFound n v f moment) (scan_value a) sees gets (refl, refl)
  asked old read new n v moment look.Gone (scanned.Answered a) sees gets = one old read new n moment (ScanGone n v moment) (scan_value a) sees gets (refl, refl)
  asked old read new n v moment look.Skipped scanned.Skipped sees same = inl (seen old new (subst (Sees old) (sym same) sees))
  asked old read new n v moment look.Changing scanned.Changing sees same = inl (seen old new (subst (Sees old) (sym same) sees))
  asked old read new n v moment (look.Found f) scanned.Skipped sees never = absurd never
  asked old read new n v moment (look.Found f) scanned.Changing sees never = absurd never
  asked old read new n v moment look.Gone scanned.Skipped sees never = absurd never
  asked old read new n v moment look.Gone scanned.Changing sees never = absurd never
  asked old read new n v moment look.Skipped (scanned.Answered a) sees never = absurd never
  asked old read new n v moment look.Skipped scanned.Changing sees never = absurd never
  asked old read new n v moment look.Changing (scanned.Answered a) sees never = absurd never
  asked old read new n v moment look.Changing scanned.Skipped sees never = absurd never

pub returns-clause-alone : goal.returns-clause-alone
returns-clause-alone g c gate begun tree old new n moment result scans =
    asked c.changes_are_asked_in_order.ensures.adds (λ o w. (c.entries_add_up.ensures.seen o w).0) c.entries_add_up.ensures.together old scans.read new n
    (local_version (now scans.read) n) moment scans.found result scans.sees scans.asks

pub returns-clause-of_several : goal.returns-clause-of_several
returns-clause-of_several g c gate begun tree first old new n moment result scans =
    asked c.changes_are_asked_in_order.ensures.adds (λ o w. (c.entries_add_up.ensures.seen o w).0) c.entries_add_up.ensures.together old scans.point new n
    (local_version (now scans.read) n) moment scans.found result scans.sees scans.asks
