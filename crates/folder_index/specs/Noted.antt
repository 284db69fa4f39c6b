-- The greatest sequences of other devices, as they are noted.
use Rattle.std.specs.Prelude.{bytes_eq, ◌≡◌, ◌≢◌, ◌≤◌, ◌==◌, true, IsTrue, List, find, map, max, nat_le, Some, unwrap_or}
use Rattle.std.specs.FinMap.{entries, get}
use Rattle.std.specs.List.{list_all}
use Rattle.sync_record.specs.Devices.{Identity}
use Rattle.sync_record.specs.Records.{Name, FileRecord}
use Rattle.folder_core.specs.Announced.{Announced, key}
use Rattle.folder_index.specs.declared.chunks.Chunks.{Chunks}
use Rattle.folder_index.specs.declared.noted.Noted.{Noted}
use Rattle.folder_index.specs.declared.totals.Totals.{Totals}
use Rattle.folder_index.specs.Chunks.{AreChunked, groups_in}
use Rattle.folder_index.specs.Groups.{announced_in}
use Rattle.folder_index.specs.Devices.{greatest_of, sequences_by}

-- where nothing is noted of a device, it announced nothing
abbrev pub nothing_of : Identity → Noted
nothing_of d = record { device = d; greatest = 0; is_exact = true }

abbrev pub noted_of : List Noted → Identity → Noted
noted_of ks d = unwrap_or (find (λ k. bytes_eq k.device d) ks) (nothing_of d)

-- No record of the device has a greater sequence than the one that is noted; and where that is exact, it is the greatest.
pub record IsNoted (k : Noted) (d : Identity) (a : Announced) : Type 0 where
  pub bounded : (n : Name) (r : FileRecord) → get a (key n d) ≡ Some r → r.sequence ≤ k.greatest
  pub exact : IsTrue k.is_exact → greatest_of (sequences_by d (entries a)) ≡ k.greatest

abbrev pub AreNoted : Identity → List Noted → Announced → Type 0
AreNoted me ks a = (d : Identity) → d ≢ me → IsNoted (noted_of ks d) d a

-- once the device announces some records: exact where none has a lesser sequence than was noted
abbrev pub raised : List FileRecord → Noted → Noted
raised rs k = record {
  device = k.device;
  greatest = max (greatest_of (map (λ r. r.sequence) rs)) k.greatest;
  is_exact = list_all (λ r. nat_le k.greatest r.sequence) rs;
}

-- once a record is taken away
abbrev pub loosened : Noted → Noted
loosened k = record { device = k.device; greatest = k.greatest; is_exact = k.greatest == 0 }

-- What holds of what is kept by name.
pub record AreKeptByName (me : Identity) (cs : Chunks) (totals : Totals) (ks : List Noted) : Type 0 where
  pub chunked : AreChunked me cs totals
  pub noted : AreNoted me ks (announced_in (groups_in cs))
