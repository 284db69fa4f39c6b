-- A folder with one caller, and a change that is planned for another. Own rule.
use Rattle.std.specs.Prelude.{◌≡◌, ℕ, ◌-◌, ◌≤◌, nat_le, false, length, take, Option, Some, None, IfSome, MatchBool, Result, Ok, Err}
use Rattle.folder_core.specs.declared.answer.Answer.{Answer}
use Rattle.folder_core.specs.declared.change.Change.{Change}
use Rattle.folder_core.specs.declared.change.Change.TheVariants.{ScanFound, ScanGone, IndexFull, IndexMore, Forget}
use Rattle.folder_core.specs.Reads.{Query, Reply, Reads}
use Rattle.folder_core.specs.States.{FolderState}
use Rattle.folder_core.specs.Steps.{MayChange}
use Rattle.folder_calls.specs.declared.lone_state.LoneState.{LoneState}
use Rattle.folder_calls.specs.declared.planned.Plan.{Plan}
use Rattle.folder_calls.specs.declared.at.At.{At}
use Rattle.folder_calls.specs.declared.planned.Outside.{Outside}
use Rattle.folder_calls.specs.declared.planned.Outside.TheVariants as outside
use Rattle.folder_calls.specs.Histories.{own_entries}
use Rattle.folder_calls.specs.RecordedFolders.{Appends, IsHistory, end, new_history}
use Rattle.folder_calls.specs.Shared.{CallerView}

-- the change that another caller makes
abbrev pub change_of : Outside → Change
change_of (outside.ScanFound name expected found moment) = ScanFound name expected found moment
change_of (outside.ScanGone name expected moment) = ScanGone name expected moment
change_of (outside.IndexFull device records) = IndexFull device records
change_of (outside.IndexMore device records) = IndexMore device records
change_of (outside.Forget device) = Forget device

-- what the caller knows: it is pass 1
abbrev pub seen_by : LoneState → CallerView
seen_by a = record { opening = a.history.opening; limit = a.history.limit; pass = 1; seen = take a.seen a.history.entries }

-- There are two passes, of which the caller has seen all entries of its own. As long as nothing was ever planned, it has seen
-- the whole history.
pub record IsLone (a : LoneState) : Type 0 where
  pub history : IsHistory a.history
  pub passes : a.history.passes ≡ 2
  pub seen : a.seen ≤ length a.history.entries
  pub own : own_entries 1 a.history.entries ≡ own_entries 1 (take a.seen a.history.entries)
  pub may : IfSome a.plan (λ p. MayChange a.history.opening.me (change_of p.change))
  pub whole : a.planned ≡ false → (a.seen ≡ length a.history.entries) × (a.plan ≡ None)

-- a folder that was just opened
abbrev pub new_lone : FolderState → ℕ → LoneState
new_lone s limit = record { history = new_history s limit 2; seen = 0; plan = None; planned = false }

-- the planned change is made, as one of pass 2, and nothing is planned any more
abbrev pub IsPlanMade : LoneState → Plan → LoneState → Type 0
IsPlanMade old p new =
    (answer : Option Answer) × Appends old.history 2 (change_of p.change) answer new.history
    × (new ≡ record old { history = new.history; plan = None })

-- what happens just before a call: the planned change is made if this is its call, and else its call is one nearer
abbrev pub PlanGoesOn : Option Plan → LoneState → LoneState → Type 0
PlanGoesOn None old new = new ≡ old
PlanGoesOn (Some p) old new =
    MatchBool (nat_le p.call 1) (IsPlanMade old p new) (new ≡ record old { plan = Some (record p { call = p.call - 1 }) })

-- the caller's own change, and what it has then seen; without an answer it is out of memory, and nothing changed
abbrev pub IsOwnChange : LoneState → Change → Option (At Answer) → LoneState → Type 0
IsOwnChange old change None new = new ≡ old
IsOwnChange old change (Some reply) new =
    Appends old.history 1 change (Some reply.value) new.history
    × (reply.at ≡ length new.history.entries)
    × (new ≡ record old { history = new.history; seen = reply.at })

-- the caller's read, and what it has then seen
abbrev pub IsOwnRead : LoneState → (q : Query) → Option (At (Reply q)) → LoneState → Type 0
IsOwnRead old q None new = new ≡ old
IsOwnRead old q (Some reply) new =
    Reads (end old.history) q reply.value × (reply.at ≡ length old.history.entries) × (new ≡ record old { seen = reply.at })

-- a call that changes: first what is planned, then the caller's own change
pub record ChangesAfterPlan (old : LoneState) (change : Change) (reply : Option (At Answer)) (new : LoneState) : Type 0 where
  pub point : LoneState
  pub goes_on : PlanGoesOn old.plan old point
  pub asked : IsOwnChange point change reply new

-- a call that reads: first what is planned, then the caller's read
pub record ReadsAfterPlan (old : LoneState) (q : Query) (reply : Option (At (Reply q))) (new : LoneState) : Type 0 where
  pub point : LoneState
  pub goes_on : PlanGoesOn old.plan old point
  pub looked_up : IsOwnRead point q reply new

-- a call got this of the folder, whose history has so many entries: it returns this with that point, which the caller has then seen
abbrev pub WithPoint : {X E : Type 0} → ℕ → Result X E → Result (At X) E → (before seen : ℕ) → Type 0
WithPoint entries (Ok x) result before seen = (result ≡ Ok (record { at = entries; value = x })) × (seen ≡ entries)
WithPoint entries (Err fault) result before seen = (result ≡ Err fault) × (seen ≡ before)
