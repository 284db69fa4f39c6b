-- What a scan finds at a name (own rule; the blocks by Block Exchange Protocol v1, "Fields of the FileInfo message").
use Rattle.std.specs.Prelude.{◌≡◌, ◌<◌, ◌≤◌, ◌^◌, ℕ, ℤ, pos, negsuc, ⊤, Bool, ◌&&◌, ◌||◌, ◌==◌, nat_lt, if◌then◌else◌, List, [], length, Option, Some, None, IsTrue}
use Rattle.std.specs.Ordering.{int_eq}
use Rattle.std.specs.Cmp.Lexicographic.{pointwise}
use Rattle.sync_blocks.specs.declared.block.Block.{Block}
use Rattle.sync_blocks.specs.BlockList.{block_list}
use Rattle.sync_blocks.specs.Sizes.{block_size_for, is_block_size}
use Rattle.sync_blocks.specs.Tiling.{same_block}
use Rattle.sync_record.specs.Records.{FileRecord, is_live_file}
use Rattle.folder_core.specs.declared.finding.Finding.{Finding}
use Rattle.folder_core.specs.declared.finding.FoundContent.TheVariants as content
use Rattle.folder_core.specs.States.{local}
use Rattle.folder_core.specs.Steps.{is_recordable}
use Rattle.folder_calls.specs.Shared.{CallerView, now}
use Rattle.file_store.specs.Names.{Name}
use Rattle.file_store.specs.Sequences.{LooksOnly, Since}
use Rattle.file_store.specs.Trees.{Tree}
use Rattle.file_store.specs.declared.node.Node.{Node}
use Rattle.file_store.specs.declared.node.Node.TheVariants.{Directory, File}
use Rattle.file_store.specs.declared.node.Stat.{Stat}
use Rattle.file_store.specs.declared.node.Stat.TheVariants as stat
use Rattle.sync_scan.specs.Told.{Giving, HasNoOtherParent, HasOtherParent, ReadsOther, ReadsWhole, Says}
use Rattle.sync_scan.specs.declared.scanned.Look.{Look}
use Rattle.sync_scan.specs.declared.scanned.Look.TheVariants.{Found, Gone, Skipped, Changing}

-- the most bytes of a file that is recorded
abbrev pub max_file_size : ℕ
max_file_size = 2 ^ 46

abbrev pub blocks_in : Option FileRecord → List Block
blocks_in None = []
blocks_in (Some r) = r.blocks

-- the block size that a message has, if files may have it
abbrev pub block_size_in : ℤ → Option ℕ
block_size_in (pos n) = if is_block_size n then Some n else None
block_size_in (negsuc n) = None

-- the block size of the local record, if that is of a live file of this size
abbrev pub recorded_block_size : Option FileRecord → ℕ → Option ℕ
recorded_block_size None size = None
recorded_block_size (Some r) size = if is_live_file r && int_eq r.size (pos size) then block_size_in r.block_size else None

-- blocks of a file of this size that are those of the local record; empty files are the same whatever their blocks
abbrev pub are_recorded : Option FileRecord → ℕ → List Block → Bool
are_recorded local size blocks = (size == 0) || pointwise same_block (blocks_in local) blocks

-- the recorded block size if the blocks of that size are the recorded ones, and else that of new files
abbrev pub chosen_block_size : Option FileRecord → List ℕ → Option ℕ → ℕ
chosen_block_size local bytes None = block_size_for (length bytes)
chosen_block_size local bytes (Some size) =
    if are_recorded local (length bytes) (block_list bytes size) then size else block_size_for (length bytes)

-- The block size by which a file's bytes are cut: that of its local record, if the content is then the recorded one, and else that
-- of new files.
abbrev pub block_size_of : Option FileRecord → List ℕ → ℕ
block_size_of local bytes = chosen_block_size local bytes (recorded_block_size local (length bytes))

-- a file with its blocks of this size
abbrev pub file_finding : ℕ → List ℕ → ℕ → Finding
file_finding block_size bytes modified = record {
  content = content.File (length bytes) block_size (block_list bytes block_size);
  modified_s = pos modified;
  modified_ns = pos 0;
}

abbrev pub directory_finding : Finding
directory_finding = record { content = content.Directory; modified_s = pos 0; modified_ns = pos 0 }

-- a file with too many bytes is skipped
abbrev pub look_of_file : Option FileRecord → List ℕ → ℕ → Look
look_of_file local bytes modified =
    if nat_lt max_file_size (length bytes) then Skipped else Found (file_finding (block_size_of local bytes) bytes modified)

-- what is found where this is at the name
abbrev pub look_of : Option FileRecord → Option Node → Look
look_of local None = Gone
look_of local (Some Directory) = Found directory_finding
look_of local (Some (File bytes modified)) = look_of_file local bytes modified

-- A file that was read of any store: these bytes, cut by the block size that the local record leads to for the bytes that were read
-- first, and with the time that the store said.
pub record IsRead {S : Type 0} (gives : Giving S) (n : Name) (local : Option FileRecord) (size modified : ℕ) (found : Finding) : Type 0 where
  pub first : List ℕ
  pub bytes : List ℕ
  pub first_read : ReadsWhole gives n first
  pub read : ReadsWhole gives n bytes
  pub first_long : length first ≡ size
  pub long : length bytes ≡ size
  pub is : found ≡ file_finding (block_size_of local first) bytes modified

-- what may be found by what the store says of the name
abbrev pub LeadsTo : {S : Type 0} → Giving S → Name → Option FileRecord → Stat → Look → Type 0
LeadsTo gives n local stat.Missing Gone = HasNoOtherParent gives n
LeadsTo gives n local stat.Missing Skipped = HasOtherParent gives n
LeadsTo gives n local stat.Directory (Found found) = found ≡ directory_finding
LeadsTo gives n local (stat.File size modified) (Found found) = (size ≤ max_file_size) × IsRead gives n local size modified found
LeadsTo gives n local (stat.File size modified) Skipped = max_file_size < size
LeadsTo gives n local (stat.File size modified) Changing = (size ≤ max_file_size) × ReadsOther gives n size
LeadsTo gives n local stat.Other Skipped = ⊤
LeadsTo gives n local _ _ = ⊥

-- What is found of any store is what it says: where nothing is, a deletion, unless it says that something else is in a parent's
-- place; what is neither a file nor a directory is skipped.
abbrev pub IsTold : {S : Type 0} → Giving S → Name → Option FileRecord → Look → Type 0
IsTold gives n local look = (said : Stat) × Says gives n said × LeadsTo gives n local said look

-- what is found can be recorded
abbrev pub IsRecordable : Look → Type 0
IsRecordable (Found found) = IsTrue (is_recordable found.content)
IsRecordable Gone = ⊤
IsRecordable Skipped = ⊤
IsRecordable Changing = ⊤

-- What may be found at a name, by its local record: what the store says, and if it keeps what is written, what is there.
abbrev pub MayFind : {S : Type 0} → Giving S → Type 0 → Tree → Name → Option FileRecord → Look → Type 0
MayFind gives keeps tree n local look = IsTold gives n local look × (keeps → look ≡ look_of local (tree.names n))

-- What may be found at a name by the folder as it was read first: at a moment when the store was so, the caller had seen this, and all
-- that the store said and gave of the name came since then, with nothing but looks in between.
abbrev pub MayFindAt : {S : Type 0} → Giving S → (S → CallerView → Type 0) → Type 0 → Tree → Name → CallerView → Look → Type 0
MayFindAt {S} gives shown keeps tree n view look = (s : S) × shown s view × MayFind (Since gives s) keeps tree n (local (now view) n) look

-- at a moment when the store was as at the beginning, before any call of it, a caller of the folder had seen this
abbrev pub ShownFirst : {S W : Type 0} → (S → W → Type 0) → (W → CallerView) → S → S → CallerView → Type 0
ShownFirst {S} {W} shown view first s v = (s ≡ first) × ((w : W) × shown s w × (view w ≡ v))

-- the same at a moment since then, with nothing but looks of the store in between
abbrev pub ShownSince : {S W : Type 0} → Giving S → (S → W → Type 0) → (W → CallerView) → S → S → CallerView → Type 0
ShownSince {S} {W} gives shown view first s v = LooksOnly gives first s × ((w : W) × shown s w × (view w ≡ v))

-- what may be found where the local record was read before any call of the store, at a moment that was shown
abbrev pub MayFindFirst : {S W : Type 0} → Giving S → (S → W → Type 0) → (W → CallerView) → S → Type 0 → Tree → Name → CallerView → Look → Type 0
MayFindFirst gives shown view first keeps tree = MayFindAt gives (ShownFirst shown view first) keeps tree

-- what may be found where it was read at such a moment since then
abbrev pub MayFindSince : {S W : Type 0} → Giving S → (S → W → Type 0) → (W → CallerView) → S → Type 0 → Tree → Name → CallerView → Look → Type 0
MayFindSince gives shown view first keeps tree = MayFindAt gives (ShownSince gives shown view first) keeps tree
