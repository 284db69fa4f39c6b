use Rattle.std.proofs.Common.{rules, ◌≡◌, None, true, refl}
use Rattle.file_store.specs.Maps.{found_at, put_at}
use Rattle.file_store.specs.Trees.{is_file}
use Rattle.file_store.proofs.MemLemmas.{still_tree}
use Rattle.file_store.proofs.TreeLemmas.{removed_tree}
use Rattle.file_store.proofs.mem.MemStoreFileStore.remove.Goals as goal

pub invariant_of-self-2 : goal.invariant_of-self-2
invariant_of-self-2 c =
    let n = c.args.name.now in
    let F = found_at c.args.self.now.names in
    let S = found_at c.args.self.now.temps in
    let file : is_file (F n) ≡ true = search rules in
    let left : found_at c.remove.new.self ≡ put_at n None F = search rules in
    record { sound = still_tree (put_at n None F) (found_at c.remove.new.self) S S left refl (removed_tree F S c.args.self.now.sound n file) }
