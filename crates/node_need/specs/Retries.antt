-- Names that could not be pulled, and when each is tried again (own rule).
use Rattle.std.specs.Prelude.{ℕ, ◌-◌, ◌*◌, ◌==◌, ◌&&◌, Bool, true, false, if◌then◌else◌, min, List, Option, Some, None, bytes_eq}
use Rattle.std.specs.BTreeMap.{get}
use Rattle.std.specs.Cmp.Lexicographic.{slice_cmp}
use Rattle.std.specs.List.{list_any}
use Rattle.std.specs.List.Sorted.{IsStrictlySortedBy}
use Rattle.std.specs.Ordering.{nat_cmp}
use Rattle.sync_pull.specs.declared.answer.PullAnswer.{PullAnswer}
use Rattle.sync_record.specs.Records.{FileRecord}
use Rattle.sync_version.specs.Computed.{same_version}
use Rattle.node_need.specs.declared.retries.Retries.{Retries}
use Rattle.node_need.specs.declared.retries.Retry.{Retry}
use Rattle.node_need.specs.declared.wanted.Wanted.{Wanted}

-- the bytes of a name
abbrev pub Name : Type 0
Name = List ℕ

-- what is kept of each name that could not be pulled
abbrev pub retry_at : Retries → Name → Option Retry
retry_at r q = get (slice_cmp nat_cmp) r.retries q

-- the same but for one name
abbrev pub put_at : {X : Type 0} → Name → Option X → (Name → Option X) → Name → Option X
put_at n x f q = if bytes_eq n q then x else f q

-- whether the disk had no room in this round, and whether that was told
abbrev pub room : Retries → Bool × Bool
room r = (r.lacks_room, r.is_lack_told)

-- ---- what happened since

-- both are of the same version, or there is none
abbrev pub is_local : Option FileRecord → Option FileRecord → Bool
is_local None None = true
is_local None (Some b) = false
is_local (Some a) None = false
is_local (Some a) (Some b) = same_version a.version b.version

-- nothing happened at the name: its local record and its best have the versions that they had
abbrev pub is_as : Retry → Wanted → Bool
is_as r w = is_local r.local w.local && same_version r.best.version w.best.version

-- what was told last of the name, if nothing happened at it since
abbrev pub told_last : Option Retry → Wanted → Option PullAnswer
told_last None w = None
told_last (Some r) w = if is_as r w then r.told else None

-- ---- whether a name is left alone

-- nothing happened at the name, and as many peers are up
abbrev pub is_same : Retry → Wanted → ℕ → Bool
is_same r w up = (r.up == up) && is_as r w

-- it may be tried but where it is the same, and seconds are left
abbrev pub may_try : Wanted → ℕ → Option Retry → Bool
may_try w up None = true
may_try w up (Some r) = if is_same r w up then r.left == 0 else true

-- where it is the same, a second later there is one less to wait; otherwise the next pause is the first again
abbrev pub after_asked : Wanted → ℕ → Bool → Option Retry → Option Retry
after_asked w up is_later None = None
after_asked w up is_later (Some r) = Some (if is_same r w up then (if is_later then record r { left = r.left - 1 } else r) else record r { next = 1 })

-- ---- a name that could not be pulled

-- how many seconds it is left alone: one at first
abbrev pub pause_of : Option Retry → ℕ
pause_of None = 1
pause_of (Some r) = r.next

-- the next time twice as long, 256 seconds at most
abbrev pub longer : ℕ → ℕ
longer pause = min (2 * pause) 256

-- it is left alone from now on, for this pause; for a minute where the disk had no room, and the next pause is the first again
abbrev pub begun : Wanted → ℕ → Bool → ℕ → Retry
begun w up lacks_room pause = record {
  best = w.best;
  local = w.local;
  told = w.told;
  up = up;
  next = if lacks_room then 1 else longer pause;
  left = if lacks_room then 60 else pause;
}

-- ---- names that are needed

-- in byte order, each once
abbrev pub AreInOrder : List Name → Type 0
AreInOrder names = IsStrictlySortedBy (slice_cmp nat_cmp) names

-- one of them is this name
abbrev pub is_among : List Name → Name → Bool
is_among names q = list_any (bytes_eq q) names

-- what is kept of these names, and of no other
abbrev pub only_at : List Name → (Name → Option Retry) → Name → Option Retry
only_at names f q = if is_among names q then f q else None
