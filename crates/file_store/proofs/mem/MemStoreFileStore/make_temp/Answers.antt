use Rattle.std.proofs.Common.{rules, ◌≡◌, Some, None, [], true, false}
use Rattle.file_store.specs.Names.{Name, is_parent}
use Rattle.file_store.specs.Maps.{found_at, put_at}
use Rattle.file_store.specs.Trees.{is_file, tree_of, with_parents}
use Rattle.file_store.proofs.MemLemmas.{changed_tree, make_temp_allowed, none_is}
use Rattle.file_store.proofs.TreeLemmas.{temp_made_tree}
use Rattle.file_store.proofs.mem.MemStoreFileStore.make_temp.Goals as goal

pub invariant_of-self : goal.invariant_of-self
invariant_of-self c =
    let n = c.as_str-name.result.now in
    let F = found_at c.args.self.now.names in
    let S = found_at c.args.self.now.temps in
    let k = c.args.self.now.sound in
    record {
      sound = changed_tree c.make_temp.result F (with_parents n F) (found_at c.make_temp.new.names) S (put_at n (Some []) S) (found_at c.make_temp.new.temps)
          c.make_temp.ensures.names c.make_temp.ensures.temps (temp_made_tree F S k n (c.has_bad_parent.ensures.good c.if-has_bad_parent.false)) k;
    }

pub returns-in_err-make_temp-clause-gives : goal.returns-in_err-make_temp-clause-gives
returns-in_err-make_temp-clause-gives c =
    let n = c.args.name.now in
    let F = found_at c.args.self.now.names in
    let S = found_at c.args.self.now.temps in
    let free : (p : Name) → is_parent p n ≡ true → is_file (F p) ≡ false = search rules in
    let none : S n ≡ None = search rules in
    (search rules, λ h. (make_temp_allowed (tree_of F S) n free, none_is (S n) none))
