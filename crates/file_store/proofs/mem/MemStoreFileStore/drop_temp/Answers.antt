use Rattle.std.proofs.Common.{None, refl}
use Rattle.file_store.specs.Maps.{found_at, put_at}
use Rattle.file_store.proofs.MemLemmas.{still_tree}
use Rattle.file_store.proofs.TreeLemmas.{temp_dropped_tree}
use Rattle.file_store.proofs.mem.MemStoreFileStore.drop_temp.Goals as goal

pub invariant_of-self : goal.invariant_of-self
invariant_of-self c =
    let F = found_at c.args.self.now.names in
    let S = found_at c.args.self.now.temps in
    record { sound = still_tree F F (put_at c.as_str.result.now None S) (found_at c.remove.new.self) refl c.remove.ensures.left (temp_dropped_tree F S c.args.self.now.sound c.as_str.result.now) }
