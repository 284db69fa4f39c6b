use Rattle.std.proofs.Common.{refl}
use Rattle.file_store.specs.Maps.{found_at}
use Rattle.file_store.specs.Trees.{modified_at}
use Rattle.file_store.proofs.MemLemmas.{still_tree}
use Rattle.file_store.proofs.TreeLemmas.{modified_tree}
use Rattle.file_store.proofs.mem.MemStore.set_modified.Goals as goal

pub invariant_of-self : goal.invariant_of-self
invariant_of-self c =
    let n = c.as_str.result.now in
    let F = found_at c.args.self.now.names in
    let S = found_at c.args.self.now.temps in
    record {
      sound = still_tree (modified_at n c.args.moment F) (found_at c.set_modified.new.self) S S c.set_modified.ensures.left refl
          (modified_tree F S c.args.self.now.sound n c.args.moment);
    }
