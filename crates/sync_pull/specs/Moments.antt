-- When what is at a name is compared with its record, and what the store is called for before and after, by its own answers (own rule).
use Rattle.std.specs.Prelude.{◌≡◌, ◌⊎◌, ◌+◌, ◌≤◌, ⊤, ℕ, Bool, true, false, List, [], ◌∷◌, ◌++◌, Option, Some, None, Result, Ok, pos}
use Rattle.file_store.specs.Asked.{Call, Value, ListAll, StatAt, ReadAt, MakeTemp, WriteAt, CommitTemp, DropTemp, Rename, Remove, MakeDir, RemoveDir}
use Rattle.file_store.specs.FullReads.{FillsAll}
use Rattle.file_store.specs.Names.{Name}
use Rattle.file_store.specs.Sequences.{CallsOnly, IsOfTemp}
use Rattle.file_store.specs.declared.node.Stat.TheVariants as stat
use Rattle.file_store.specs.declared.refusal.StoreRefusal.{StoreRefusal}
use Rattle.folder_core.specs.declared.answer.Answer.TheVariants.{Begun}
use Rattle.folder_core.specs.declared.change.Change.TheVariants.{BeginPull}
use Rattle.folder_core.specs.declared.pull_info.PullInfo.{PullInfo}
use Rattle.folder_calls.specs.Shared.{CallerView, Gets}
use Rattle.sync_blocks.specs.declared.block.Block.{Block}
use Rattle.sync_names.specs.Copies.{IsConflictCopy}
use Rattle.sync_record.specs.Records.{FileRecord, kind_of}
use Rattle.sync_record.specs.declared.kind.Kind.{Kind}
use Rattle.sync_record.specs.declared.kind.Kind.TheVariants as kind
use Rattle.sync_pull.specs.Bytes.{HasBlock}
use Rattle.sync_pull.specs.Chains.{AsksAndSees}
use Rattle.sync_pull.specs.Ends.{Ends, IsNotBegun, enters}
use Rattle.sync_pull.specs.Plans.{copy_name}
use Rattle.sync_pull.specs.Pulled.{IfDone}
use Rattle.sync_pull.specs.declared.answer.PullAnswer.{PullAnswer}
use Rattle.sync_pull.specs.declared.replace.CopyPlan.{CopyPlan}
use Rattle.sync_pull.specs.declared.replace.CopyPlan.TheVariants.{Due, NotDue}

-- A file was read from its front on and gave the bytes of these blocks, one after the other: how many bytes those are.
pub data GivesBlocks {S : Type 0} (gives : S → (call : Call) → Result (Value call) StoreRefusal → S → Type 0) (n : Name) (old : S) : List Block → ℕ → S → Type 0 where
  no_block : GivesBlocks gives n old [] 0 old
  one_more : (blocks : List Block) (b : Block) (at count : ℕ) (asked new : S) (before bytes : List ℕ) → GivesBlocks gives n old blocks at asked
      → FillsAll gives n at asked before (Ok count) new bytes → b.size ≤ count → HasBlock b bytes
      → GivesBlocks gives n old (blocks ++ b ∷ []) (at + b.size) new

-- a file of the record's size and, unless that is 0, with the bytes of its blocks
pub data SaysFile {S : Type 0} (gives : S → (call : Call) → Result (Value call) StoreRefusal → S → Type 0) (n : Name) (r : FileRecord) (old : S) : ℕ → S → Type 0 where
  empty : SaysFile gives n r old 0 old
  whole : (size : ℕ) (new : S) → GivesBlocks gives n old r.blocks size new → SaysFile gives n r old size new

-- what the store says and gives of the name is what a live record of this kind says
abbrev pub SaysOfKind : {S : Type 0} → (S → (call : Call) → Result (Value call) StoreRefusal → S → Type 0) → Name → Kind → FileRecord → S → S → Type 0
SaysOfKind {S} gives n kind.File r old new =
    (size modified : ℕ) × (asked : S) × gives old (StatAt n) (Ok (stat.File size modified)) asked × (r.size ≡ pos size) × SaysFile gives n r asked size new
SaysOfKind gives n kind.Directory r old new = gives old (StatAt n) (Ok stat.Directory) new
SaysOfKind gives n kind.Other r old new = ⊥

abbrev pub SaysOfRecord : {S : Type 0} → (S → (call : Call) → Result (Value call) StoreRefusal → S → Type 0) → Name → Bool → FileRecord → S → S → Type 0
SaysOfRecord gives n true r old new = gives old (StatAt n) (Ok stat.Missing) new
SaysOfRecord gives n false r old new = SaysOfKind gives n (kind_of r) r old new

-- What the store says and gives of the name is what the base says: nothing where there is none, or a deleted one.
abbrev pub SaysStands : {S : Type 0} → (S → (call : Call) → Result (Value call) StoreRefusal → S → Type 0) → Name → Option FileRecord → S → S → Type 0
SaysStands gives n None old new = gives old (StatAt n) (Ok stat.Missing) new
SaysStands gives n (Some r) old new = SaysOfRecord gives n r.deleted r old new

-- a file is moved to the name of its copy, or back
abbrev pub IsMove : Name → Option Name → Name → Name → Type 0
IsMove n None from to = ⊥
IsMove n (Some copy) from to = ((from ≡ n) × (to ≡ copy)) ⊎ ((from ≡ copy) × (to ≡ n))

-- a look, or a call that changes what is at the name, drops its temporary file, or moves it to the name of its copy or back
abbrev pub IsOfPlace : Name → Option Name → Call → Type 0
IsOfPlace n copy ListAll = ⊤
IsOfPlace n copy (StatAt m) = ⊤
IsOfPlace n copy (ReadAt m offset before after) = ⊤
IsOfPlace n copy (MakeTemp m) = ⊥
IsOfPlace n copy (WriteAt m offset piece) = ⊥
IsOfPlace n copy (CommitTemp m) = m ≡ n
IsOfPlace n copy (DropTemp m) = m ≡ n
IsOfPlace n copy (Rename from to) = IsMove n copy from to
IsOfPlace n copy (Remove m) = m ≡ n
IsOfPlace n copy (MakeDir m) = m ≡ n
IsOfPlace n copy (RemoveDir m) = m ≡ n

-- one of these, or a call that removes a conflict copy
abbrev pub IsOfPull : Name → Name → Call → Type 0
IsOfPull n copy ListAll = ⊤
IsOfPull n copy (StatAt m) = ⊤
IsOfPull n copy (ReadAt m offset before after) = ⊤
IsOfPull n copy (MakeTemp m) = ⊥
IsOfPull n copy (WriteAt m offset piece) = ⊥
IsOfPull n copy (CommitTemp m) = m ≡ n
IsOfPull n copy (DropTemp m) = m ≡ n
IsOfPull n copy (Rename from to) = IsMove n (Some copy) from to
IsOfPull n copy (Remove m) = (m ≡ n) ⊎ IsConflictCopy n m
IsOfPull n copy (MakeDir m) = m ≡ n
IsOfPull n copy (RemoveDir m) = m ≡ n

-- the name of the copy that is planned
abbrev pub copy_of : CopyPlan → Option Name
copy_of NotDue = None
copy_of (Due copy) = copy

-- Nothing is called for but the temporary file of the name, only where it is undone; or the store says what the base says, and only
-- then, by calls of this kind, it is changed.
pub data ChecksFirst {S : Type 0} (gives : S → (call : Call) → Result (Value call) StoreRefusal → S → Type 0) (n : Name) (base : Option FileRecord) (kind : Call → Type 0) (undone : Type 0) (old new : S) : Type 0 where
  unchanged : undone → CallsOnly gives (IsOfTemp n) old new → ChecksFirst gives n base kind undone old new
  checked : (said : S) → SaysStands gives n base old said → CallsOnly gives kind said new → ChecksFirst gives n base kind undone old new

-- As long as the commit is not entered, nothing is called for but the temporary file of the name. Then, at a moment when the caller knew
-- that it was entered and the store was still so, what is at the name is compared with the base first.
pub data EntersFirst {S : Type 0} (gives : S → (call : Call) → Result (Value call) StoreRefusal → S → Type 0) (shown : S → CallerView → Type 0) (n : Name) (t : PullInfo) (kind : Call → Type 0) (undone : Type 0) (old : CallerView) (before after : S) : Type 0 where
  not_entered : undone → CallsOnly gives (IsOfTemp n) before after → EntersFirst gives shown n t kind undone old before after
  entered : (view : CallerView) (mid : S) → CallsOnly gives (IsOfTemp n) before mid → AsksAndSees old (enters t ∷ []) view → shown mid view
      → ChecksFirst gives n t.base kind undone mid after → EntersFirst gives shown n t kind undone old before after

-- The same of the pull of a name: where it is not begun, as its answer says, the store is not called; where it is, this is the pull that ends so.
pub data BeginsFirst {S : Type 0} (gives : S → (call : Call) → Result (Value call) StoreRefusal → S → Type 0) (shown : S → CallerView → Type 0) (moment : ℕ) (n : Name) (result : PullAnswer) (old : CallerView) (before : S) (new : CallerView) (after : S) : Type 0 where
  not_begun : IsNotBegun old n result new → after ≡ before → BeginsFirst gives shown moment n result old before new after
  begun : (t : PullInfo) (view : CallerView) → Gets old (BeginPull n) (Begun t) view → Ends view t result new
      → EntersFirst gives shown n t (IsOfPull n (copy_name n moment t.base)) (IfDone result ⊥) view before after → BeginsFirst gives shown moment n result old before new after
