use Rattle.std.proofs.Common.{rules, ◌≡◌, Some, None, Err, refl}
use Rattle.file_store.specs.declared.node.Node.TheVariants.{Directory}
use Rattle.file_store.specs.declared.refusal.StoreRefusal.TheVariants.{OutOfMemory}
use Rattle.file_store.specs.Maps.{found_at, put_at}
use Rattle.file_store.specs.Trees.{with_parents}
use Rattle.file_store.proofs.MemLemmas.{ran_out, renewed_tree, same_tree}
use Rattle.file_store.proofs.TreeLemmas.{dir_made_tree}
use Rattle.file_store.proofs.mem.MemStoreFileStore.make_dir.Goals as goal

pub invariant_of-self-2 : goal.invariant_of-self-2
invariant_of-self-2 c =
    let n = c.as_str-name.result.now in
    let F = found_at c.args.self.now.names in
    let S = found_at c.args.self.now.temps in
    let k = c.args.self.now.sound in
    let none : F n ≡ None = search rules in
    record {
      sound = renewed_tree c.make_dir.result F (put_at n (Some Directory) (with_parents n F)) (found_at c.make_dir.new.names) S
          c.make_dir.ensures (dir_made_tree F S k n (c.has_bad_parent.ensures.good c.if-has_bad_parent.false) none) k;
    }

pub returns-in_err-make_dir-clause-makes : goal.returns-in_err-make_dir-clause-makes
returns-in_err-make_dir-clause-makes c =
    let F = found_at c.args.self.now.names in
    let S = found_at c.args.self.now.temps in
    let is : c.from_residual.result ≡ Err OutOfMemory = search rules in
    let same : found_at c.make_dir.new.names ≡ F = search rules in
    λ k. ran_out _ _ _ _ _ _ c.from_residual.result is tt (same_tree F (found_at c.make_dir.new.names) S S same refl)

pub returns-in_err-make_dir-clause-gives : goal.returns-in_err-make_dir-clause-gives
returns-in_err-make_dir-clause-gives c = (returns-in_err-make_dir-clause-makes c refl, search rules)
