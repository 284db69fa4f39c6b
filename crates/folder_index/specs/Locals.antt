-- The local records by their sequences, and where the blocks of the live files among them are.
use Rattle.std.specs.Prelude.{bytes_eq, ◌≡◌, ◌≢◌, ℕ, ◌-◌, ◌<◌, ◌^◌, Bool, true, false, List, [], ◌∷◌, ◌++◌, Contains, MatchOption, Option, Some, if◌then◌else◌, not, slice_get}
use Rattle.std.specs.FinMap.{empty, get, insert, remove}
use Rattle.std.specs.FinSet as set
use Rattle.std.specs.Option.{option_map_or}
use Rattle.sync_blocks.specs.declared.block.Block.{Block}
use Rattle.sync_record.specs.Devices.{Identity}
use Rattle.sync_record.specs.Records.{Name, FileRecord, is_live_file}
use Rattle.folder_core.specs.Announced.{Announced, IsNamed, key}
use Rattle.folder_core.specs.Codes.{Bytes}
use Rattle.folder_core.specs.declared.place.Place.{Place}
use Rattle.folder_index.specs.declared.local.Local.{Local}
use Rattle.folder_index.specs.Digests.{Places, Spot, start_of, with_blocks, without_blocks}
use Rattle.folder_index.specs.Indexes.{IndexState}
use Rattle.folder_index.specs.Latest.{AreLatest, none_waiting, with_latest, without_sequence}
use Rattle.folder_index.specs.Numbers.{is_second, number_of, other_number_of}
use Rattle.folder_index.specs.Sequences.{Sequenced}

-- the blocks of a live file
abbrev pub live_blocks : FileRecord → List Block
live_blocks r = if is_live_file r then r.blocks else []

-- those of the record of a sequence
abbrev pub blocks_at : Sequenced → ℕ → List Block
blocks_at records q = option_map_or live_blocks (get records q) []

-- nothing is kept
abbrev pub no_local : Local
no_local = record { records = empty; places = set.empty; numbers = empty; latest = none_waiting }

-- the record is filed under its sequence, with its blocks
abbrev pub with_filed : FileRecord → Local → Local
with_filed r l = record {
  records = insert l.records r.sequence r;
  places = with_blocks (number_of l.numbers r.sequence) (live_blocks r) l.places;
  numbers = l.numbers;
  latest = l.latest;
}

-- the record of a sequence is taken out, with its blocks
abbrev pub without_filed : ℕ → Local → Local
without_filed q l = record {
  records = remove l.records q;
  places = without_blocks (number_of l.numbers q) (blocks_at l.records q) l.places;
  numbers = l.numbers;
  latest = l.latest;
}

-- the record of a sequence is taken out, whether it is filed or not
abbrev pub without_local : ℕ → Local → Local
without_local q l = record {
  records = remove l.records q;
  places = without_blocks (number_of l.numbers q) (blocks_at l.records q) l.places;
  numbers = l.numbers;
  latest = record { records = without_sequence q l.latest.records; promised = l.latest.promised };
}

-- the record is put last, in room that is promised
abbrev pub with_last : FileRecord → Local → Local
with_last r l = record {
  records = l.records;
  places = l.places;
  numbers = l.numbers;
  latest = record { records = l.latest.records ++ r ∷ []; promised = l.latest.promised - 1 };
}

-- the first of the records that were put last is filed
abbrev pub with_first_filed : FileRecord → List FileRecord → Local → Local
with_first_filed r rs l = record {
  records = insert l.records r.sequence r;
  places = with_blocks (number_of l.numbers r.sequence) (live_blocks r) l.places;
  numbers = l.numbers;
  latest = record { records = rs; promised = l.latest.promised };
}

-- the blocks of a record are put beside those of the record of its sequence
abbrev pub with_prepared : FileRecord → Local → Local
with_prepared r l = record {
  records = l.records;
  places = with_blocks (other_number_of l.numbers r.sequence) (live_blocks r) l.places;
  numbers = insert l.numbers r.sequence (is_second l.numbers r.sequence);
  latest = l.latest;
}

-- they are taken away again
abbrev pub without_prepared : FileRecord → Local → Local
without_prepared r l = record {
  records = l.records;
  places = without_blocks (other_number_of l.numbers r.sequence) (live_blocks r) l.places;
  numbers = l.numbers;
  latest = l.latest;
}

-- the record whose blocks were prepared takes the place of the one of its sequence
abbrev pub with_exchanged : FileRecord → Local → Local
with_exchanged r l = record {
  records = insert l.records r.sequence r;
  places = without_blocks (number_of l.numbers r.sequence) (blocks_at l.records r.sequence) l.places;
  numbers = insert l.numbers r.sequence (not (is_second l.numbers r.sequence));
  latest = l.latest;
}

-- What holds of the local records by sequence: each is under its own, and there are no others.
pub record AreLocals (me : Identity) (announced : Announced) (records : Sequenced) : Type 0 where
  pub named : IsNamed announced
  pub has : (n : Name) (r : FileRecord) → get announced (key n me) ≡ Some r → get records r.sequence ≡ Some r
  pub only : (q : ℕ) (r : FileRecord) → get records q ≡ Some r → (r.sequence ≡ q) × (q < 2 ^ 63) × (get announced (key r.name me) ≡ Some r)

-- What holds of the places of blocks: each block of a live file has one, by the start of its digest, under the number of the
-- record's sequence, and there are no others.
pub record AreFiled (number : ℕ → ℕ) (records : Sequenced) (places : Places) : Type 0 where
  pub has : (q i : ℕ) (b : Block) → slice_get (blocks_at records q) i ≡ Some b → set.contains places (start_of b.hash, number q, i) ≡ true
  pub only : (s : Spot) → set.contains places s ≡ true → (q : ℕ) × (b : Block) × (slice_get (blocks_at records q) s.2 ≡ Some b) × (s ≡ (start_of b.hash, number q, s.2))

-- whether the block at this place of the live file of a sequence has the digest
abbrev pub has_digest : Sequenced → Bytes → ℕ → ℕ → Bool
has_digest records hash q i = option_map_or (λ b. bytes_eq b.hash hash) (slice_get (blocks_at records q) i) false

-- the local records by sequence: those that are filed, and those that were put last
abbrev pub all_local : Local → Sequenced
all_local l = with_latest l.latest.records l.records

-- What holds of what is filed, and of what waits for it.
pub record AreKept (l : Local) : Type 0 where
  pub filed : AreFiled (number_of l.numbers) l.records l.places
  pub latest : AreLatest l.records l.latest.records

-- What holds of an index.
pub record IsIndex (s : IndexState) (l : Local) : Type 0 where
  pub locals : AreLocals s.me s.announced (all_local l)
  pub kept : AreKept l
  pub promised : l.latest.promised ≡ set.len s.promised

-- What holds of an index where all local records are filed. It says nothing of promises.
pub record IsSettled (s : IndexState) (l : Local) : Type 0 where
  pub locals : AreLocals s.me s.announced l.records
  pub filed : AreFiled (number_of l.numbers) l.records l.places

-- no local record of another name has the sequence
abbrev pub IsFree : IndexState → Name → ℕ → Type 0
IsFree s n q = (m : Name) (r : FileRecord) → get s.announced (key m s.me) ≡ Some r → m ≢ n → r.sequence ≢ q

-- each local record has a lesser sequence
abbrev pub AreEarlier : IndexState → ℕ → Type 0
AreEarlier s q = (n : Name) (r : FileRecord) → get s.announced (key n s.me) ≡ Some r → r.sequence < q

-- the place of a block of a record
abbrev pub placed : FileRecord → Block → Place
placed r b = record { name = r.name; offset = b.offset; size = b.size }

-- it is the place of a block with the digest, of a live file among the records
pub record IsBlockPlace (rs : List FileRecord) (hash : Bytes) (p : Place) : Type 0 where
  pub it : FileRecord
  pub block : Block
  pub among : Contains rs it
  pub has : Contains (live_blocks it) block
  pub digest : block.hash ≡ hash
  pub place : p ≡ placed it block

abbrev pub HasNoBlock : List FileRecord → Bytes → Type 0
HasNoBlock rs hash = (p : Place) → IsBlockPlace rs hash p → ⊥

-- any of them may be found, and none only where there is none
abbrev pub IsPlaceAmong : List FileRecord → Bytes → Option Place → Type 0
IsPlaceAmong rs hash found = MatchOption found (HasNoBlock rs hash) (λ p. IsBlockPlace rs hash p)
