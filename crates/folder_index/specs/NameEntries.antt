-- What is kept of the records of one name.
use Rattle.std.specs.Prelude.{bytes_eq, IsTrue, ℕ, ◌-◌, ◌==◌, ◌^◌, Bool, true, false, List, [], ◌∷◌, if◌then◌else◌, min, Vec, vec_len, vec_capacity}
use Rattle.std.specs.List.{list_all}
use Rattle.std.specs.declared.alloc.Global.{Global}
use Rattle.sync_record.specs.Devices.{Identity}
use Rattle.sync_record.specs.Records.{Name}
use Rattle.folder_core.specs.declared.announcement.Announcement.{Announcement as Entry}
use Rattle.folder_core.specs.PlainReads.{is_from}
use Rattle.folder_index.specs.declared.name_entries.NameEntries.{NameEntries}
use Rattle.folder_index.specs.declared.name_entries.NameEntries.TheVariants.{Vacant, Emptied, One, Many}

-- the records, by device
abbrev pub entries_kept : NameEntries → List Entry
entries_kept (Vacant n es) = es.items
entries_kept (Emptied r es) = es.items
entries_kept (One e) = e ∷ []
entries_kept (Many es) = es.items

abbrev pub name_of_first : List Entry → Name
name_of_first [] = []
name_of_first (e ∷ es) = e.record.name

-- the name
abbrev pub name_kept : NameEntries → Name
name_kept (Vacant n es) = n
name_kept (Emptied r es) = r.name
name_kept (One e) = e.record.name
name_kept (Many es) = name_of_first es.items

-- how many more fit in a list, of 2^32 - 1 at most
abbrev pub room_of : Vec Entry Global → ℕ
room_of es = min (vec_capacity es) (2 ^ 32 - 1) - vec_len es

-- the same, or one where the list has no memory: one record needs no list
abbrev pub room_of_none : Vec Entry Global → ℕ
room_of_none es = if vec_capacity es == 0 then 1 else room_of es

-- how many more fit without allocating
abbrev pub room_kept : NameEntries → ℕ
room_kept (Vacant n es) = room_of_none es
room_kept (Emptied r es) = room_of_none es
room_kept (One e) = 0
room_kept (Many es) = room_of es

-- all are of the name
abbrev pub AreNamed : Name → List Entry → Type 0
AreNamed n es = IsTrue (list_all (λ e. bytes_eq e.record.name n) es)

-- the device's is the only one
abbrev pub is_alone : Identity → List Entry → Bool
is_alone d [] = false
is_alone d (e ∷ []) = is_from d e
is_alone d (e ∷ f ∷ es) = false

-- there is one record, in no list
abbrev pub is_one : NameEntries → Bool
is_one (Vacant n es) = false
is_one (Emptied r es) = false
is_one (One e) = true
is_one (Many es) = false

-- and it is the device's
abbrev pub is_one_from : Identity → NameEntries → Bool
is_one_from d (Vacant n es) = false
is_one_from d (Emptied r es) = false
is_one_from d (One e) = is_from d e
is_one_from d (Many es) = false
