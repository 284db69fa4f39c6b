use Rattle.std.proofs.Common.{rules, ◌≡◌, None, true, refl}
use Rattle.file_store.specs.Maps.{found_at, put_at}
use Rattle.file_store.specs.Names.{Name, is_parent}
use Rattle.file_store.proofs.MemLemmas.{still_tree}
use Rattle.file_store.proofs.TreeLemmas.{dir_removed_tree}
use Rattle.file_store.proofs.mem.MemStoreFileStore.remove_dir.Goals as goal

pub invariant_of-self-2 : goal.invariant_of-self-2
invariant_of-self-2 c =
    let n = c.as_str-name.result.now in
    let F = found_at c.args.self.now.names in
    let S = found_at c.args.self.now.temps in
    let none : (q : Name) → is_parent n q ≡ true → F q ≡ None = search rules in
    let no_temp : (q : Name) → is_parent n q ≡ true → S q ≡ None = search rules in
    record { sound = still_tree (put_at n None F) (found_at c.remove.new.self) S S c.remove.ensures.left refl (dir_removed_tree F S c.args.self.now.sound n none no_temp) }
