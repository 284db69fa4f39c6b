-- What the laws say (own rule).
use Rattle.std.specs.Prelude.{◌≡◌, ◌≢◌, ◌↔◌, ⊤, ℕ, ◌+◌, ◌++◌, List, [], length, take, Option, Some, None, Result, Ok}
use Rattle.file_store.specs.declared.failing.FailingStore.{FailingStore}
use Rattle.file_store.specs.declared.node.Kind.{Kind}
use Rattle.file_store.specs.declared.node.Kind.TheVariants as kind
use Rattle.file_store.specs.declared.node.Node.{Node}
use Rattle.file_store.specs.declared.node.Node.TheVariants.{Directory, File}
use Rattle.file_store.specs.declared.node.Stat.{Stat}
use Rattle.file_store.specs.declared.node.Stat.TheVariants as stat
use Rattle.file_store.specs.declared.refusal.StoreRefusal.{StoreRefusal}
use Rattle.file_store.specs.Calls.{Reads}
use Rattle.file_store.specs.Failing.{FailsOne, wrapped}
use Rattle.file_store.specs.Names.{Name}
use Rattle.file_store.specs.Trees.{Tree}

-- what is at the name is as before, and so is its temporary file
pub record Leaves (old new : Tree) (q : Name) : Type 0 where
  pub names : new.names q ≡ old.names q
  pub temps : new.temps q ≡ old.temps q

-- what `stat` says is what is there
pub record SaysWhatIsThere (said : Stat) (there : Option Node) : Type 0 where
  pub missing : (said ≡ stat.Missing) ↔ (there ≡ None)
  pub directory : (said ≡ stat.Directory) ↔ (there ≡ Some Directory)
  pub file : (size modified : ℕ) → (said ≡ stat.File size modified) ↔ ((bytes : List ℕ) × (there ≡ Some (File bytes modified)) × (length bytes ≡ size))
  pub other : said ≢ stat.Other

-- Reads of a file one after the other, from an offset on, up to the first that gives nothing, and what they give.
pub data ReadsOn (t : Tree) (n : Name) : ℕ → List ℕ → Type 0 where
  read_ends : (offset : ℕ) (before after : List ℕ) → before ≢ [] → Reads ⊤ t n offset before after (Ok 0) t → ReadsOn t n offset []
  read_more : (offset k : ℕ) (before after rest : List ℕ) → Reads ⊤ t n offset before after (Ok k) t → ReadsOn t n (offset + k) rest →
      ReadsOn t n offset (take k after ++ rest)

-- a directory or a file is there
abbrev pub IsOfKind : Kind → Option Node → Type 0
IsOfKind kind.Directory there = there ≡ Some Directory
IsOfKind kind.File there = (bytes : List ℕ) × (modified : ℕ) × (there ≡ Some (File bytes modified))

-- a call of a failing store, which the wrapped store answers so, and then is so, if it is asked
abbrev pub FailsOneOf : {S V : Type 0} → FailingStore S → FailingStore S → Result V StoreRefusal → Result V StoreRefusal → S → Type 0
FailsOneOf old new result answer done = FailsOne old new result (λ a. (a ≡ answer) × (wrapped new ≡ done))
