-- What an index has, and what its changes make of it.
use Rattle.std.specs.Prelude.{bytes_eq, ◌≢◌, ℕ, ◌+◌, ◌-◌, ◌^◌, Bool, false, List, [], ◌∷◌, length, if◌then◌else◌, min, refl}
use Rattle.std.specs.Option.{option_map_or}
use Rattle.std.specs.FinMap.{empty, entries, contains_key, insert, remove}
use Rattle.std.specs.FinMap as map
use Rattle.std.specs.FinSet as set
use Rattle.std.specs.Coded.{Coded, code_by, coded_ℕ, coded×}
use Rattle.sync_record.specs.Devices.{Identity, bytes_cmp}
use Rattle.sync_record.specs.Records.{Name, FileRecord}
use Rattle.folder_core.specs.Announced.{Announced, announce, best, key}
use Rattle.folder_core.specs.Codes.{Bytes, coded_bytes, coded_key, coded_record}
use Rattle.folder_core.specs.States.{FolderState, is_needed}

abbrev pub Names : Type 0
Names = set.FinSet bytes_cmp

-- this device, what each device announces, how often a best was chosen, and the names of which this device's record can be put
-- without allocating
pub record IndexState : Type 0 where
  pub me : Identity
  pub announced : Announced
  pub choices : ℕ
  pub promised : Names

-- the folder of this device that has these records; no read of the index asks for more of it
abbrev pub folder : IndexState → FolderState
folder s = record { me = s.me; announced = s.announced; last = 0; pulls = empty }

-- one more, up to the greatest number of 64 bits
abbrev pub counted : ℕ → ℕ
counted n = min (n + 1) (2 ^ 64 - 1)

-- the device announces the record, in place of what it announced of its name
abbrev pub with_record : Identity → FileRecord → IndexState → IndexState
with_record d r s = record {
  me = s.me;
  announced = insert s.announced (key r.name d) r;
  choices = counted s.choices;
  promised = if bytes_eq d s.me then set.remove s.promised r.name else s.promised;
}

-- the device announces nothing of the name
abbrev pub without_record : Identity → Name → IndexState → IndexState
without_record d n s =
    if contains_key s.announced (key n d) then record { me = s.me; announced = remove s.announced (key n d); choices = counted s.choices; promised = s.promised }
    else s

-- this device's record of the name can be put without allocating, or that isn't promised
abbrev pub with_promise : Name → IndexState → IndexState
with_promise n s = record { me = s.me; announced = s.announced; choices = s.choices; promised = set.insert s.promised n }

abbrev pub without_promise : Name → IndexState → IndexState
without_promise n s = record { me = s.me; announced = s.announced; choices = s.choices; promised = set.remove s.promised n }

-- whether this device needs the best of the name
abbrev pub needs : IndexState → Name → Bool
needs s n = option_map_or (is_needed (folder s)) (best (entries s.announced) n) false

abbrev pub coded_index : Coded IndexState
coded_index = code_by (Bytes × (Announced × (ℕ × Names)))
    (coded× coded_bytes (coded× (map.code coded_key coded_record) (coded× coded_ℕ (set.code coded_bytes))))
    (λ s. (s.me, (s.announced, (s.choices, s.promised)))) (λ p. record { me = p.0; announced = p.1.0; choices = p.1.1.0; promised = p.1.1.1 }) (λ _. refl)

-- none of the records is of the name
abbrev pub AreUnlike : Name → List FileRecord → Type 0
AreUnlike n [] = Unit {0}
AreUnlike n (r ∷ rs) = (r.name ≢ n) × AreUnlike n rs

-- no two of the records are of one name
abbrev pub AreApart : List FileRecord → Type 0
AreApart [] = Unit {0}
AreApart (r ∷ rs) = AreUnlike r.name rs × AreApart rs

-- another device announces the records, each in place of what it announced of its name
abbrev pub with_records : Identity → List FileRecord → IndexState → IndexState
with_records d rs s = record {
  me = s.me;
  announced = announce d rs s.announced;
  choices = min (s.choices + length rs) (2 ^ 64 - 1);
  promised = s.promised;
}
