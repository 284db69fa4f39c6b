-- What a store has (own rule).
use Rattle.std.specs.Prelude.{bytes_eq, ◌≡◌, ℕ, Bool, true, false, if◌then◌else◌, List, [], Option, Some, None, IsSome}
use Rattle.file_store.specs.declared.node.Node.{Node}
use Rattle.file_store.specs.declared.node.Node.TheVariants.{Directory, File}
use Rattle.file_store.specs.Names.{Name, is_parent}

-- what is at each name, and the bytes of each name's temporary file
pub record Tree : Type 0 where
  pub names : Name → Option Node
  pub temps : Name → Option (List ℕ)

-- the tree of what is at each name, and of the temporary files
abbrev pub tree_of : (Name → Option Node) → (Name → Option (List ℕ)) → Tree
tree_of names temps = record { names = names; temps = temps }

-- the parents of all that is at a name are directories
abbrev pub AreGrounded : {X : Type 0} → (Name → Option Node) → (Name → Option X) → Type 0
AreGrounded names f = (p q : Name) → is_parent p q ≡ true → IsSome (f q) → names p ≡ Some Directory

-- each parent of a file, of a directory and of a temporary file is a directory
pub record IsTree (t : Tree) : Type 0 where
  pub names : AreGrounded t.names t.names
  pub temps : AreGrounded t.names t.temps

abbrev pub is_file : Option Node → Bool
is_file None = false
is_file (Some Directory) = false
is_file (Some (File bytes modified)) = true

abbrev pub is_directory : Option Node → Bool
is_directory None = false
is_directory (Some Directory) = true
is_directory (Some (File bytes modified)) = false

-- the bytes of a file, and none of anything else
abbrev pub bytes_of : Option Node → List ℕ
bytes_of None = []
bytes_of (Some Directory) = []
bytes_of (Some (File bytes modified)) = bytes

-- what is there, a file modified at the moment
abbrev pub node_modified : ℕ → Option Node → Option Node
node_modified moment None = None
node_modified moment (Some Directory) = Some Directory
node_modified moment (Some (File bytes modified)) = Some (File bytes moment)

-- the same, where the file at the name, if one is there, was modified at the moment
abbrev pub modified_at : Name → ℕ → (Name → Option Node) → Name → Option Node
modified_at n moment f q = if bytes_eq n q then node_modified moment (f q) else f q

-- what is there, or a directory where nothing is
abbrev pub or_directory : Option Node → Option Node
or_directory None = Some Directory
or_directory (Some node) = Some node

-- with a directory wherever a parent of the name is missing
abbrev pub with_parents : Name → (Name → Option Node) → Name → Option Node
with_parents n f q = if is_parent q n then or_directory (f q) else f q
