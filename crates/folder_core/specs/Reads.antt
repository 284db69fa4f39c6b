-- What each read of a folder answers.
use Rattle.std.specs.Prelude.{bytes_eq, ◌≡◌, ◌≢◌, ◌↔◌, ◌⊎◌, ℕ, ◌+◌, ◌<◌, ◌≤◌, ◌++◌, Bool, true, if◌then◌else◌, unwrap_or, not, ◌&&◌, ◌||◌, nat_lt, nat_le, max, List, [], ◌∷◌, length, map, filter, take, sum_by, count_by, flat_map, fold, Option, Some, None, option_map, MatchOption, Contains, AllPairs, IsTrue}
use Rattle.std.specs.List.{last_or, range_with_len}
use Rattle.std.specs.Option.{option_map_or}
use Rattle.std.specs.Ordering.{nat_cmp, is_gt}
use Rattle.std.specs.declared.cmp.Ordering.TheVariants.{Less, Greater}
use Rattle.std.specs.FinMap.{entries, get, len, put}
use Rattle.folder_core.specs.declared.place.Place.{Place}
use Rattle.folder_core.specs.declared.counts.Counts.{Counts}
use Rattle.sync_record.specs.Devices.{Identity, bytes_cmp}
use Rattle.sync_record.specs.Records.{Name, FileRecord, is_live, is_live_file, is_directory}
use Rattle.folder_core.specs.Announced.{KeyedRecord, Key, is_by, best, bests, devices_of}
use Rattle.folder_core.specs.States.{FolderState, Pull, local, need}

-- this device's records, in byte order of their names
abbrev pub locals : FolderState → List FileRecord
locals s = map (λ e. e.1) (filter (is_by s.me) (entries s.announced))

-- the record, and the devices that have it
abbrev pub BestEntry : Type 0
BestEntry = FileRecord × List Identity

abbrev pub with_devices : List KeyedRecord → KeyedRecord → BestEntry
with_devices es b = (b.1, devices_of es b)

-- the best of a name, with the devices that have it
abbrev pub best_with_devices : FolderState → Name → Option BestEntry
best_with_devices s n = option_map (with_devices (entries s.announced)) (best (entries s.announced) n)

-- the name is greater than the one given, if one is given
abbrev pub is_after : Option Name → Name → Bool
is_after after n = option_map_or (λ a. is_gt (bytes_cmp n a)) after true

-- The same in the words of the rules: the name comes after the one given, if one is given.
abbrev pub IsAfter : Option Name → Name → Type 0
IsAfter after n = (a : Name) → after ≡ Some a → bytes_cmp n a ≡ Greater

-- a page of what has names has as many as asked for, and each of them comes before the name
abbrev pub IsFullBefore : {X : Type 0} → (X → Name) → List X → ℕ → Name → Type 0
IsFullBefore name_of page limit n = (length page ≡ limit) × ((x : _) → Contains page x → bytes_cmp (name_of x) n ≡ Less)

-- the bests of the names after a name, with their devices, in byte order
abbrev pub bests_after : FolderState → Option Name → List BestEntry
bests_after s after =
    map (with_devices (entries s.announced)) (filter (λ b. is_after after b.0.name) (bests (entries s.announced)))

-- the first of these, at most limit of them
abbrev pub bests_page : FolderState → Option Name → ℕ → List BestEntry
bests_page s after limit = take limit (bests_after s after)

-- the first needed names after a name, at most limit of them
abbrev pub need_page : FolderState → Option Name → ℕ → List Name
need_page s after limit = take limit (filter (is_after after) (need s))

-- records in rising sequence
abbrev pub by_sequence : List FileRecord → List FileRecord
by_sequence rs = map (λ e. e.1) (fold (λ es r. put nat_cmp r.sequence r es) [] rs)

-- the beginnings of a list, the empty one first
abbrev pub beginnings : {X : Type 0} → List X → List (List X)
beginnings xs = map (λ n. take n xs) (range_with_len 0 (length xs + 1))

-- the most blocks in a page of more than one record
abbrev pub max_page_blocks : ℕ
max_page_blocks = 1000000

-- no more than limit records, and no more than the most blocks, except that one record always fits
abbrev pub fits_page : ℕ → List FileRecord → Bool
fits_page limit rs =
    nat_le (length rs) limit && (nat_le (sum_by (λ r. length r.blocks) rs) max_page_blocks || nat_le (length rs) 1)

-- the longest beginning that fits
abbrev pub page_of : ℕ → List FileRecord → List FileRecord
page_of limit rs = unwrap_or (last_or None (filter (fits_page limit) (beginnings rs))) []

-- A page of local records stops before a record: there was no room for it, or for a local record of lesser sequence.
abbrev pub StopsBefore : FolderState → ℕ → List FileRecord → FileRecord → Type 0
StopsBefore s limit page r =
    (m : Name) × (q : FileRecord) × (local s m ≡ Some q) × (q.sequence ≤ r.sequence)
    × ((p : FileRecord) → Contains page p → p.sequence < q.sequence)
    × ((length page ≡ limit)
    ⊎ ((1 ≤ length page) × (max_page_blocks < sum_by (λ r. length r.blocks) page + length q.blocks)))

-- the local records of greater sequence, in rising sequence, as many as a page has
abbrev pub local_since : FolderState → ℕ → ℕ → List FileRecord
local_since s seq limit = page_of limit (by_sequence (filter (λ r. nat_lt seq r.sequence) (locals s)))

-- the blocks with this digest in live local files
abbrev pub places : FolderState → List ℕ → List Place
places s hash =
    flat_map (λ r. map (λ b. record { name = r.name; offset = b.offset; size = b.size })
    (filter (λ b. bytes_eq b.hash hash) r.blocks))
    (filter is_live_file (locals s))

-- any of them may be found, and none only where there is none
abbrev pub IsSomePlace : FolderState → List ℕ → Option Place → Type 0
IsSomePlace s hash found = MatchOption found (places s hash ≡ []) (λ p. Contains (places s hash) p)

-- the greatest sequence that a device announced, 0 without any; of this device the last one given
abbrev pub known : FolderState → Identity → ℕ
known s d =
    if bytes_eq d s.me then s.last
    else fold max 0 (map (λ e. e.1.sequence) (filter (is_by d) (entries s.announced)))

-- what a folder has, counted
abbrev pub counts : FolderState → Counts
counts s = record {
  files = count_by is_live_file (locals s);
  directories = count_by (λ r. is_live r && is_directory r) (locals s);
  deletions = count_by (λ r. r.deleted) (locals s);
  needed = length (need s);
  others = count_by (λ e. not (is_by s.me e)) (entries s.announced);
  pulls = len s.pulls;
  last = s.last;
}

pub data Query : Type 0 where
  Local Best : Name → Query
  Bests Need : Option Name → ℕ → Query
  LocalSince : ℕ → ℕ → Query
  FindBlock : List ℕ → Query
  Known : Identity → Query
  CountAll : Query

-- what kind of answer a query has
abbrev pub Reply : Query → Type 0
Reply (Local n) = Option FileRecord
Reply (Best n) = Option BestEntry
Reply (Bests after limit) = List BestEntry
Reply (Need after limit) = List Name
Reply (LocalSince seq limit) = List FileRecord
Reply (FindBlock hash) = Option Place
Reply (Known d) = ℕ
Reply CountAll = Counts

-- the folder may answer so
abbrev pub Reads : FolderState → (q : Query) → Reply q → Type 0
Reads s (Local n) r = r ≡ local s n
Reads s (Best n) r = r ≡ best_with_devices s n
Reads s (Bests after limit) r = r ≡ bests_page s after limit
Reads s (Need after limit) r = r ≡ need_page s after limit
Reads s (LocalSince seq limit) r = r ≡ local_since s seq limit
Reads s (FindBlock hash) r = IsSomePlace s hash r
Reads s (Known d) r = r ≡ known s d
Reads s CountAll r = r ≡ counts s

-- Pages of bests after a name, one after the other: each is read after the last name of the one before it, and the last
-- page has fewer than limit.
pub data ArePages (s : FolderState) (limit : ℕ) : Option Name → List (List BestEntry) → Type 0 where
  last_page : (after : Option Name) (page : List BestEntry) → Reads s (Bests after limit) page → length page < limit → ArePages s limit after (page ∷ [])
  next_page : (after : Option Name) (front : List BestEntry) (b : BestEntry) (pages : List (List BestEntry)) →
      Reads s (Bests after limit) (front ++ b ∷ []) → ArePages s limit (Some b.0.name) pages → ArePages s limit after ((front ++ b ∷ []) ∷ pages)

-- There are n of them: they can be listed, each once.
pub record IsNumberOf {X : Type 0} (P : X → Type 0) (n : ℕ) : Type 0 where
  pub listed : List X
  pub once : AllPairs (λ x y. x ≢ y) listed
  pub each : (x : X) → Contains listed x ↔ P x
  pub many : length listed ≡ n

-- The counts in the words of the rules. Of names: whose local record is a live file, a live directory, and deleted, of
-- whatever kind; that are needed; and that have an open pull. Of records: of other devices, whether valid or not.
pub record IsCounted (s : FolderState) (c : Counts) : Type 0 where
  pub files : IsNumberOf (λ n. (r : FileRecord) × (local s n ≡ Some r) × IsTrue (is_live_file r)) c.files
  pub directories : IsNumberOf (λ n. (r : FileRecord) × (local s n ≡ Some r) × IsTrue (is_live r) × IsTrue (is_directory r)) c.directories
  pub deletions : IsNumberOf (λ n. (r : FileRecord) × (local s n ≡ Some r) × IsTrue r.deleted) c.deletions
  pub needed : IsNumberOf (Contains (need s)) c.needed
  pub others : IsNumberOf (λ (k : Key). (r : FileRecord) × (get s.announced k ≡ Some r) × (k.device ≢ s.me)) c.others
  pub pulls : IsNumberOf (λ n. (p : Pull) × (get s.pulls n ≡ Some p)) c.pulls
  pub last : c.last ≡ s.last
