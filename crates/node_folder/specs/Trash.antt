-- When the versions of a folder's files are removed (own rule).
use Rattle.std.specs.Prelude.{ℕ, ◌-◌, ◌*◌, ◌==◌, Bool, ◌||◌, if◌then◌else◌, min, not, Option, Some, None}
use Rattle.node_folder.specs.declared.trash.TrashSchedule.{TrashSchedule}

-- in how many seconds the next turn is; never where versions are kept for 0 days
abbrev pub next_turn : TrashSchedule → Option ℕ
next_turn s = if s.days == 0 then None else Some s.left

-- so many seconds fewer are left, and not fewer than none
abbrev pub passed : ℕ → TrashSchedule → TrashSchedule
passed seconds s = record s { left = s.left - seconds }

-- versions are kept that are not older than these days
abbrev pub kept_since : ℕ → ℕ → ℕ
kept_since days now = now - days * 86400

-- there is none where versions are kept for 0 days, or seconds are left
abbrev pub is_waiting : TrashSchedule → Bool
is_waiting s = s.days == 0 || not (s.left == 0)

-- the second before which versions are removed at a turn, if it has come
abbrev pub turn_at : ℕ → TrashSchedule → Option ℕ
turn_at now s = if is_waiting s then None else Some (kept_since s.days now)

-- after a turn the next one is in an hour
abbrev pub emptied : TrashSchedule → TrashSchedule
emptied s = if is_waiting s then s else record s { left = 3600 }

-- what comes first of both
abbrev pub first_turn : Option ℕ → Option ℕ → Option ℕ
first_turn None trash = trash
first_turn (Some scan) None = Some scan
first_turn (Some scan) (Some trash) = Some (min scan trash)
