-- When no bytes are found of a block: what the devices gave that were asked for it (own rule).
use Rattle.std.specs.Prelude.{◌≡◌, ◌≢◌, ◌⊎◌, ℕ, Bool, true, List, [], ◌∷◌, ◌++◌, Contains, IsTrue}
use Rattle.std.specs.Option.{option_map_or}
use mathlib.Core.List.{IsPrefix}
use Rattle.sha2.specs.Sha256.{sha256}
use Rattle.folder_core.specs.Reads.{best_with_devices}
use Rattle.folder_calls.specs.Shared.{CallerView, Sees, now}
use Rattle.sync_blocks.specs.declared.block.Block.{Block}
use Rattle.sync_record.specs.Assemblies.{put_answer}
use Rattle.sync_record.specs.Devices.{Identity}
use Rattle.sync_record.specs.Records.{FileRecord, Name, is_live_file}
use Rattle.sync_record.specs.declared.put.Put.TheVariants.{Ok}

-- What a device may give for a block of a name: the source of blocks before it is asked, whether it gave bytes, these, and the source then.
abbrev pub Gives : Type 0 → Type 1
Gives B = B → Identity → Name → Block → Bool → List ℕ → B → Type 0

-- devices were asked for blocks of the name, one after the other: how the source was, and how it is then
pub data AsksOnly {B : Type 0} (gives : Gives B) (n : Name) (old : B) : B → Type 0 where
  not_asked : AsksOnly gives n old old
  asked : (mid new : B) (d : Identity) (b : Block) (given : Bool) (bytes : List ℕ) → AsksOnly gives n old mid → gives mid d n b given bytes new → AsksOnly gives n old new

-- what was given is of no use: no bytes, or bytes that are not the block's
abbrev pub IsOfNoUse : Block → Bool → List ℕ → Type 0
IsOfNoUse b given bytes = given ≡ true → put_answer b bytes ≢ Ok

-- Each of the devices but this one was asked for the block, in their order, and gave nothing of use; meanwhile the source was asked only for
-- blocks of the name.
pub data AskedInVain {B : Type 0} (gives : Gives B) (me : Identity) (n : Name) (b : Block) : List Identity → B → Type 0 where
  nobody : (now : B) → AskedInVain gives me n b [] now
  this_device : (ds : List Identity) (now : B) → AskedInVain gives me n b ds now → AskedInVain gives me n b (ds ++ me ∷ []) now
  in_vain : (ds : List Identity) (before now : B) (d : Identity) (given : Bool) (bytes : List ℕ) → AskedInVain gives me n b ds before
      → gives before d n b given bytes now → IsOfNoUse b given bytes → AskedInVain gives me n b (ds ++ d ∷ []) now
  meanwhile : (ds : List Identity) (before now : B) → AskedInVain gives me n b ds before → AsksOnly gives n before now → AskedInVain gives me n b ds now

-- the block is empty, and its digest is another than that of no bytes
abbrev pub IsWronglyEmpty : Block → Type 0
IsWronglyEmpty b = (b.size ≡ 0) × (b.hash ≢ sha256 [])

-- there are no bytes of the block, or none of these devices gave them
abbrev pub HasNoBytes : {B : Type 0} → Gives B → Identity → Name → List Identity → B → Block → Type 0
HasNoBytes gives me n ds now b = IsWronglyEmpty b ⊎ AskedInVain gives me n b ds now

-- so it is with one of the blocks
abbrev pub Lacks : {B : Type 0} → Gives B → Identity → Name → List Identity → B → List Block → Type 0
Lacks gives me n ds now blocks = (b : Block) × Contains blocks b × HasNoBytes gives me n ds now b

-- the devices that have the best of the name, in rising identity
abbrev pub best_devices : CallerView → Name → List Identity
best_devices v n = option_map_or (λ b. b.1) (best_with_devices (now v) n) []

-- The target is a live file with a block that none of the devices gave which had the best of the name, at a point that the caller knew.
pub record HasNoSource {B : Type 0} (gives : Gives B) (n : Name) (source : B) (new : CallerView) (target : FileRecord) (old : CallerView) : Type 0 where
  pub live : IsTrue (is_live_file target)
  pub point : CallerView
  pub since : Sees old point
  pub until : IsPrefix point.seen new.seen
  pub lacks : Lacks gives old.opening.me n (best_devices point n) source target.blocks
