-- What a store is asked, and what kind of answer that has (own rule).
use Rattle.std.specs.Prelude.{ℕ, List}
use Rattle.file_store.specs.declared.node.Listing.{Listing}
use Rattle.file_store.specs.declared.node.Stat.{Stat}
use Rattle.file_store.specs.Names.{Name}

-- a call of a store that has one: `read_at` with its buffer before and after
pub data Call : Type 0 where
  ListAll : Call
  StatAt : Name → Call
  ReadAt : Name → ℕ → List ℕ → List ℕ → Call
  MakeTemp : Name → Call
  WriteAt : Name → ℕ → List ℕ → Call
  CommitTemp DropTemp : Name → Call
  Rename : Name → Name → Call
  Remove MakeDir RemoveDir : Name → Call

-- what the call returns where it is not refused
abbrev pub Value : Call → Type 0
Value ListAll = Listing
Value (StatAt n) = Stat
Value (ReadAt n offset before after) = ℕ
Value (MakeTemp n) = Unit {0}
Value (WriteAt n offset piece) = Unit {0}
Value (CommitTemp n) = Unit {0}
Value (DropTemp n) = Unit {0}
Value (Rename from to) = Unit {0}
Value (Remove n) = Unit {0}
Value (MakeDir n) = Unit {0}
Value (RemoveDir n) = Unit {0}
