-- The scan of all names: those of the store, and then those that the folder has and the store has not (own rule).
use Rattle.std.specs.Prelude.{◌≡◌, ℕ, List, [], ◌∷◌, Contains, ◌⊎◌, Option, Some, None, MatchOption, Result, Ok, Err, IfErr, IfOk, IsTrue, fold, Bool, true, false, map}
use Rattle.std.specs.List.{list_any}
use Rattle.sync_record.specs.Records.{FileRecord, Name, is_live}
use Rattle.folder_core.specs.States.{local}
use Rattle.folder_calls.specs.Shared.{CallerView, Sees, now}
use Rattle.file_store.specs.Asked.{ListAll}
use Rattle.file_store.specs.Listings.{AreAscending, IsInOrder, IsListing}
use Rattle.file_store.specs.Refusals.{IsPlain}
use Rattle.file_store.specs.Trees.{Tree}
use Rattle.sync_scan.specs.Told.{Giving}
use Rattle.file_store.specs.Names.{is_parent}
use Rattle.file_store.specs.declared.node.Listing.{Listing}
use Rattle.file_store.specs.declared.refusal.StoreRefusal.{StoreRefusal}
use Rattle.sync_scan.specs.Scans.{ScansSince}
use Rattle.sync_scan.specs.Stops.{counted, empty_sum, stop_by, stop_of}
use Rattle.sync_scan.specs.declared.scanned.Look.{Look}
use Rattle.sync_scan.specs.declared.scanned.Look.TheVariants.{Skipped}
use Rattle.sync_scan.specs.declared.scanned.Scanned.{Scanned}
use Rattle.sync_scan.specs.declared.sum.ScanStop.{ScanStop}
use Rattle.sync_scan.specs.declared.sum.ScanStop.TheVariants.{OutOfMemory}
use Rattle.sync_scan.specs.declared.sum.ScanSum.{ScanSum}

-- a name that was scanned, and what that came to
abbrev pub Tried : Type 0
Tried = Name × Result Scanned StoreRefusal

-- the scan of one name of several; or why it was not looked at to the end, and then nothing was asked of the folder
abbrev pub ScansOne : CallerView → CallerView → Name → ℕ → (CallerView → Look → Type 0) → (StoreRefusal → Type 0) → Result Scanned StoreRefusal → CallerView → Type 0
ScansOne first old n moment may fails (Ok scanned) new = ScansSince first old n moment may scanned new
ScansOne first old n moment may fails (Err refusal) new = Sees old new × fails refusal

-- These names were scanned, their changes one after another. A local record and a content may be read while those of names before it
-- are still to be changed, but not before the first point.
abbrev pub ScansEach : CallerView → CallerView → ℕ → (Name → CallerView → Look → Type 0) → (Name → StoreRefusal → Type 0) → List Tried → CallerView → Type 0
ScansEach first old moment may fails [] new = Sees old new
ScansEach first old moment may fails (t ∷ ts) new =
    (next : CallerView) × ScansOne first old t.0 moment (may t.0) (fails t.0) t.1 next × ScansEach first next moment may fails ts new

-- the names in their order, all of them, or those up to the first that stops the scan
abbrev pub GoesOver : List Name → List Tried → Option ScanStop → Type 0
GoesOver [] [] stopped = stopped ≡ None
GoesOver (n ∷ ns) [] stopped = ⊥
GoesOver [] (t ∷ ts) stopped = ⊥
GoesOver (n ∷ ns) (t ∷ ts) stopped =
    (t.0 ≡ n) × MatchOption (stop_of t.1) (GoesOver ns ts stopped) (λ stop. (ts ≡ []) × (stopped ≡ Some stop))

-- what was counted of them
abbrev pub sum_after : ScanSum → List Tried → ScanSum
sum_after sum tried = fold (λ s (t : Tried). counted s t.1) sum tried

-- To some names those of records were added that are live and not listed.
pub record AddsMissing (listed : List Name) (records : List FileRecord) (old new : List Name) : Type 0 where
  pub kept : (n : Name) → Contains old n → Contains new n
  pub added : (r : FileRecord) → Contains records r → IsTrue (is_live r) → Contains listed r.name ⊎ Contains new r.name
  pub only : (n : Name) → Contains new n →
      Contains old n ⊎ ((r : FileRecord) × Contains records r × (r.name ≡ n) × IsTrue (is_live r) × (Contains listed n → ⊥))

-- The names that are not listed and of which the folder has a live local record: in byte order, each once. Each had one at a
-- point that the caller had seen by then.
pub record AreMissing (old point : CallerView) (listed names : List Name) : Type 0 where
  pub order : AreAscending names
  pub apart : (n : Name) → Contains names n → Contains listed n → ⊥
  pub had : (n : Name) → Contains names n → (before : CallerView) × (r : FileRecord) × Sees old before × Sees before point × (local (now before) n ≡ Some r) × IsTrue (is_live r)
  pub all : (n : Name) (r : FileRecord) → local (now point) n ≡ Some r → IsTrue (is_live r) → Contains listed n ⊎ Contains names n

-- the name is below one of the directories
abbrev pub is_below_any : List Name → Name → Bool
is_below_any directories n = list_any (λ d. is_parent d n) directories

-- what is below a directory that could not be read is skipped, and is not looked at
abbrev pub UnlessBelow : List Name → (Name → CallerView → Look → Type 0) → Name → CallerView → Look → Type 0
UnlessBelow unread may n view look =
    (is_below_any unread n ≡ true → look ≡ Skipped) × (is_below_any unread n ≡ false → may n view look)

abbrev pub names_of : Listing → List Name
names_of listing = map (λ e. e.name) listing.entries.items

-- What the store lists, in order: of a store that keeps what is written, all that is there. Or it fails, or memory is out.
abbrev pub HasListed : {S : Type 0} → Giving S → Type 0 → Tree → S → Result Listing StoreRefusal → Type 0
HasListed {S} gives keeps tree store listed =
    (new : S) × gives store ListAll listed new × IfOk listed IsInOrder × IfErr listed IsPlain × (keeps → IfOk listed (IsListing tree.names))

-- What the scan of all names comes to. How the store lists its names is handed in, and what may be found at a name by what the
-- caller had seen when its local record was read, and why a name may not be looked at to the end.
pub data ScansAll (lists : Result Listing StoreRefusal → Type 0) (may : Name → CallerView → Look → Type 0) (fails : Name → StoreRefusal → Type 0) (old : CallerView) (moment : ℕ) (sum : ScanSum) (new : CallerView) : Type 0 where
  -- the names are not listed
  not_listed : (refusal : StoreRefusal) → lists (Err refusal) → new ≡ old → sum ≡ record empty_sum { stopped = Some (stop_by refusal) }
      → ScansAll lists may fails old moment sum new
  -- the scan of a listed name stops it
  stopped : (listing : Listing) (tried : List Tried) (stop : ScanStop) → lists (Ok listing) → ScansEach old old moment may fails tried new
      → GoesOver (names_of listing) tried (Some stop) → sum ≡ sum_after empty_sum tried → ScansAll lists may fails old moment sum new
  -- memory is out while the other local names are looked for
  not_read : (listing : Listing) (tried : List Tried) → lists (Ok listing) → ScansEach old old moment may fails tried new
      → GoesOver (names_of listing) tried None → sum ≡ record (sum_after empty_sum tried) { stopped = Some OutOfMemory }
      → ScansAll lists may fails old moment sum new
  -- all, or those up to one that is not listed
  scanned : (listing : Listing) (missing : List Name) (tried later : List Tried) (done point : CallerView) (stop : Option ScanStop) → lists (Ok listing)
      → ScansEach old old moment may fails tried done → GoesOver (names_of listing) tried None → Sees done point
      → AreMissing done point (names_of listing) missing → ScansEach point point moment (UnlessBelow listing.unread.items may) fails later new
      → GoesOver missing later stop → sum ≡ sum_after (sum_after empty_sum tried) later → ScansAll lists may fails old moment sum new
