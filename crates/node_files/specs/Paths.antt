-- Whose files a worker's store has (own rule).
use Rattle.std.specs.Prelude.{ℕ, List}
use Rattle.node_files.specs.declared.store.FolderStore.{FolderStore}

-- the path of the folder
abbrev pub path_of : {T S E : Type 0} → FolderStore T S E → List ℕ
path_of store = store.root.path.now
