use Rattle.file_store.specs.Trees.{tree_of}
use Rattle.file_store.proofs.mem.MemStore.new.Goals as goal

pub returns-clause-tree : goal.returns-clause-tree
returns-clause-tree c = λ t. tree_of (λ q. c.new.ensures q t) (λ q. c.new-2.ensures q t)
