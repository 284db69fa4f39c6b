-- What stands at a name, by its record (own rule).
use Rattle.std.specs.Prelude.{◌≡◌, ◌≤◌, ◌⊎◌, ⊤, ℕ, All, Bool, true, false, List, Option, Some, None, length, pos}
use Rattle.file_store.specs.declared.node.Node.{Node}
use Rattle.file_store.specs.declared.node.Node.TheVariants.{Directory, File}
use Rattle.file_store.specs.Names.{Name}
use Rattle.file_store.specs.Trees.{Tree}
use Rattle.sync_record.specs.Records.{FileRecord, kind_of}
use Rattle.sync_record.specs.declared.kind.Kind.{Kind}
use Rattle.sync_record.specs.declared.kind.Kind.TheVariants as kind
use Rattle.sync_pull.specs.Bytes.{AreOf}

-- bytes of the record's size and, where there are any, of its blocks
pub record IsFileOf (r : FileRecord) (bytes : List ℕ) : Type 0 where
  pub size : r.size ≡ pos (length bytes)
  pub blocks : (length bytes ≡ 0) ⊎ AreOf r.blocks bytes

-- a live record of this kind says that this is there
abbrev pub IsOfKind : Kind → FileRecord → Option Node → Type 0
IsOfKind kind.File r there = (bytes : List ℕ) × (modified : ℕ) × (there ≡ Some (File bytes modified)) × IsFileOf r bytes
IsOfKind kind.Directory r there = there ≡ Some Directory
IsOfKind kind.Other r there = ⊥

-- the record says that this is there: nothing by a deleted one
abbrev pub IsOfRecord : Bool → FileRecord → Option Node → Type 0
IsOfRecord true r there = there ≡ None
IsOfRecord false r there = IsOfKind (kind_of r) r there

-- what is there is what the record says, and nothing where there is no record
abbrev pub StandsAs : Option FileRecord → Option Node → Type 0
StandsAs None there = there ≡ None
StandsAs (Some r) there = IsOfRecord r.deleted r there

-- so many bytes are room for each block of the record
abbrev pub HasRoom : Option FileRecord → ℕ → Type 0
HasRoom None room = ⊤
HasRoom (Some r) room = All (λ b. b.size ≤ room) r.blocks

-- what the record says can be put in place: of a live file the bytes are in the temporary file
abbrev pub IsReadyBy : Kind → FileRecord → Name → Tree → Type 0
IsReadyBy kind.File r n t = (bytes : List ℕ) × (t.temps n ≡ Some bytes) × IsFileOf r bytes
IsReadyBy kind.Directory r n t = ⊤
IsReadyBy kind.Other r n t = ⊥

abbrev pub IsReadyAs : Bool → FileRecord → Name → Tree → Type 0
IsReadyAs true r n t = ⊤
IsReadyAs false r n t = IsReadyBy (kind_of r) r n t
