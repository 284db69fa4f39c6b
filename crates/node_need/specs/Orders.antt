-- In which order the names of a folder are pulled (own rule).
use Rattle.std.specs.Prelude.{◌≡◌, ◌++◌, ◌∷◌, ◌⊎◌, ◌&&◌, ◌||◌, ℕ, Bool, true, not, bytes_eq, if◌then◌else◌, List, [], filter, length, reverse, Option, None, Some}
use Rattle.std.specs.Global.{Vec}
use Rattle.std.specs.List.{AllByRecursion, list_any}
use Rattle.folder_calls.specs.Shared.{CallerView, ReadsAt}
use Rattle.folder_calls.specs.declared.at.At.{At}
use Rattle.folder_core.specs.Reads.{Best, BestEntry, Local}
use Rattle.sync_record.specs.Records.{FileRecord, is_file, is_live}
use Rattle.sync_record.specs.Devices.{Identity}
use Rattle.node_need.specs.declared.order.PullOrder.{PullOrder}
use Rattle.node_need.specs.declared.retries.Retry.{Retry}
use Rattle.node_need.specs.declared.wanted.Wanted.{Wanted}
use Rattle.node_need.specs.Retries.{Name, after_asked, may_try, put_at, told_last}

-- ---- which names are tried

-- the folder said that the name has no best
pub record HasNone (v : CallerView) (n : Name) (new : CallerView) : Type 0 where
  pub reply : At (Option BestEntry)
  pub reads : ReadsAt v (Best n) (Some reply) new
  pub none : reply.value ≡ None

-- the device is among those that are up
abbrev pub is_up : List Identity → Identity → Bool
is_up up d = list_any (λ u. bytes_eq u d) up

-- one of these devices is
abbrev pub is_reached : List Identity → List Identity → Bool
is_reached devices up = list_any (is_up up) devices

-- the folder said that this is the best of the name, and then what this device has recorded of it
pub record Has (up : List Identity) (v : CallerView) (n : Name) (w : Wanted) (new : CallerView) : Type 0 where
  pub name : w.name ≡ n
  pub devices : List Identity
  pub best : At (Option BestEntry)
  pub point : CallerView
  pub reads_best : ReadsAt v (Best n) (Some best) point
  pub best_is : best.value ≡ Some (w.best, devices)
  pub reached : w.is_reached ≡ is_reached devices up
  pub local : At (Option FileRecord)
  pub reads_local : ReadsAt point (Local n) (Some local) new
  pub local_is : local.value ≡ w.local

-- what the folder said of the name
abbrev pub IsAsked : List Identity → CallerView → Name → Option Wanted → CallerView → Type 0
IsAsked up v n None new = HasNone v n new
IsAsked up v n (Some w) new = Has up v n w new

-- its best has no bytes, or somebody who is up has announced it
abbrev pub may_come : Wanted → Bool
may_come w = w.is_reached || w.best.deleted || not (is_file w.best)

-- it is tried, if it has a best that may come, and is not left alone, with what was told of it last
abbrev pub tried : ℕ → (Name → Option Retry) → Option Wanted → Option Wanted
tried up r None = None
tried up r (Some w) = if may_come w && may_try w up (r w.name) then Some (record w { told = told_last (r w.name) w }) else None

-- what is kept of each name after it was asked whether this one may be tried
abbrev pub left_after : ℕ → Bool → (Name → Option Retry) → Option Wanted → Name → Option Retry
left_after up is_later r None = r
left_after up is_later r (Some w) = if may_come w then put_at w.name (after_asked w up is_later (r w.name)) r else r

-- the list of it, or of nothing
abbrev pub listed : Option Wanted → List Wanted
listed None = []
listed (Some w) = w ∷ []

-- the folder was asked for this name, and this is tried of it
pub record Chooses (up : List Identity) (is_later : Bool) (v : CallerView) (r : Name → Option Retry) (n : Name) (one : Option Wanted) (new : CallerView) (left : Name → Option Retry) : Type 0 where
  pub known : Option Wanted
  pub asked : IsAsked up v n known new
  pub one_is : one ≡ tried (length up) r known
  pub left_is : left ≡ left_after (length up) is_later r known

-- the folder was asked for these names one after another, and these are tried of them
abbrev pub ChoosesAll : List Identity → Bool → CallerView → (Name → Option Retry) → List Name → List Wanted → CallerView → (Name → Option Retry) → Type 0
ChoosesAll up is_later v r [] ws new left = (ws ≡ []) × (new ≡ v) × (left ≡ r)
ChoosesAll up is_later v r (n ∷ ns) ws new left = (one : Option Wanted) × (point : CallerView) × (before : Name → Option Retry) × Chooses up is_later v r n one point before
    × ((rest : List Wanted) × (ws ≡ listed one ++ rest) × ChoosesAll up is_later point before ns rest new left)

-- ---- in which order

-- its best is a deleted record
abbrev pub has_gone : Wanted → Bool
has_gone w = w.best.deleted

-- its best is a live record
abbrev pub is_there : Wanted → Bool
is_there w = is_live w.best

-- its best is a record of a file
abbrev pub IsFile : Wanted → Type 0
IsFile w = is_file w.best ≡ true

-- the names of these groups, one after another
abbrev pub all_of : List (Vec Wanted) → List Wanted
all_of [] = []
all_of (g ∷ gs) = g.items ++ all_of gs

-- names that may be pulled side by side: only files, or one name
abbrev pub IsGroup : Vec Wanted → Type 0
IsGroup g = AllByRecursion IsFile g.items ⊎ (length g.items ≡ 1)

-- These names in this order: each once; those with a live best as they come, in groups that may each be pulled side by side, and those with a deleted best
-- the other way round.
pub record IsOrderOf (ws : List Wanted) (o : PullOrder) : Type 0 where
  pub live : all_of o.live.items ≡ filter is_there ws
  pub groups : AllByRecursion IsGroup o.live.items
  pub deleted : o.deleted.items ≡ reverse (filter has_gone ws)

-- what is tried of these names, in its order
pub record IsOrderNow (up : List Identity) (is_later : Bool) (v : CallerView) (r : Name → Option Retry) (names : List Name) (o : PullOrder) (new : CallerView) (left : Name → Option Retry) : Type 0 where
  pub wanted : List Wanted
  pub chosen : ChoosesAll up is_later v r names wanted new left
  pub order : IsOrderOf wanted o
