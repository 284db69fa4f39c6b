-- What a scan of all names reads ahead of the changes (own rule).
use Rattle.std.specs.Prelude.{◌≡◌, ℕ, ◌+◌, ◌-◌, ◌*◌, ◌≤◌, ⊤, min, List, length, take, drop, map, Option}
use Rattle.std.specs.List.{AllZip, range_with_len}
use Rattle.sha2.specs.Sha256.{sha256}
use Rattle.sync_blocks.specs.declared.block.Block.{Block}
use Rattle.sync_blocks.specs.BlockList.{block_count, block_list}
use Rattle.sync_blocks.specs.Sizes.{block_size_for}
use Rattle.sync_record.specs.Records.{FileRecord, Name}
use Rattle.folder_core.specs.States.{local}
use Rattle.folder_calls.specs.Shared.{CallerView, now}
use Rattle.file_store.specs.declared.refusal.StoreRefusal.{StoreRefusal}
use Rattle.sync_scan.specs.Looks.{file_finding}
use Rattle.sync_scan.specs.Scans.{GoesOn}
use Rattle.sync_scan.specs.declared.ahead.Ahead.{Ahead}
use Rattle.sync_scan.specs.declared.ahead.Part.{Part}
use Rattle.sync_scan.specs.declared.ahead.Seen.{Seen}
use Rattle.sync_scan.specs.declared.ahead.Sight.{Sight}
use Rattle.sync_scan.specs.declared.ahead.Sight.TheVariants.{Read, Changing, Failed, Later}
use Rattle.sync_scan.specs.declared.cuts.Cut.{Cut}
use Rattle.sync_scan.specs.declared.scanned.Look.{Look}
use Rattle.sync_scan.specs.declared.scanned.Look.TheVariants as look

-- the block of the bytes that a cut stands for
abbrev pub cut_block : List ℕ → Cut → Block
cut_block bytes c = record {
  offset = c.offset;
  size = length (take c.size (drop c.start bytes));
  hash = sha256 (take c.size (drop c.start bytes));
}

-- the cut for block i of a file of this size whose bytes begin there
abbrev pub cut_at : ℕ → ℕ → ℕ → ℕ → Cut
cut_at start size block_size i = record { start = start + i * block_size; size = min block_size (size - i * block_size); offset = i * block_size }

-- the cuts for all its blocks
abbrev pub file_cuts : ℕ → ℕ → ℕ → List Cut
file_cuts start size block_size = map (λ i. cut_at start size block_size i) (range_with_len 0 (block_count size block_size))

-- so many elements from a place on
abbrev pub run : {X : Type 0} → ℕ → ℕ → List X → List X
run start count xs = take count (drop start xs)

-- a file's part of what was read, and of the cuts
pub record HasBytes (known : List ℕ) (cuts : List Cut) (part : Part) (bytes : List ℕ) : Type 0 where
  pub within : part.start + part.size ≤ length known
  pub bytes_are : bytes ≡ run part.start part.size known
  pub cut_within : part.first + block_count part.size (block_size_for part.size) ≤ length cuts
  pub cuts_are : run part.first (block_count part.size (block_size_for part.size)) cuts ≡ file_cuts part.start part.size (block_size_for part.size)

-- a file's part of the blocks of all files
abbrev pub HasBlocks : List Block → Part → List ℕ → Type 0
HasBlocks blocks part bytes = run part.first (block_count part.size (block_size_for part.size)) blocks ≡ block_list bytes (block_size_for part.size)

-- The local record was read between two points, and this may then be found.
pub record Knows (first last : CallerView) (n : Name) (may : CallerView → Look → Type 0) (known : Option FileRecord) (found : Look) : Type 0 where
  pub read : CallerView
  pub since : GoesOn first read
  pub until : GoesOn read last
  pub is : known ≡ local (now read) n
  pub may_be : may read found

-- What was seen of a name. What a file that was read has of the bytes or of the blocks of all files is handed in, and what may be
-- found, and why it may not be looked at to the end.
abbrev pub SightIs : (Part → List ℕ → Type 0) → (Look → Type 0) → (StoreRefusal → Type 0) → Sight → Type 0
SightIs has may fails (Read part) =
    (bytes : List ℕ) × (length bytes ≡ part.size) × has part bytes × may (look.Found (file_finding (block_size_for part.size) bytes part.modified))
SightIs has may fails Changing = may look.Changing
SightIs has may fails (Failed refusal) = fails refusal
SightIs has may fails Later = ⊤

-- what was read of a name between two points
abbrev pub IsSeen : (Part → List ℕ → Type 0) → CallerView → CallerView → (Name → CallerView → Look → Type 0) → (Name → StoreRefusal → Type 0) → Name → Seen → Type 0
IsSeen has first last may fails n seen = SightIs has (Knows first last n (may n) seen.local) (fails n) seen.sight

-- what was read of the first ones of names, with the blocks of their files
abbrev pub AreSeen : Ahead → CallerView → CallerView → (Name → CallerView → Look → Type 0) → (Name → StoreRefusal → Type 0) → List Name → Type 0
AreSeen ahead first last may fails names =
    (k : ℕ) × AllZip (IsSeen (HasBlocks ahead.blocks.items) first last may fails) (take k names) ahead.seen.items
