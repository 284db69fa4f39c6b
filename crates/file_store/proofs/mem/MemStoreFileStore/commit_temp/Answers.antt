use Rattle.std.proofs.Common.{rules, ap, ◌∙◌, inl, refl, sym, subst, ◌≡◌, Some, None, [], false}
use Rattle.std.specs.Prelude.{unwrap_or, IsSome, IsNone}
use Rattle.file_store.specs.declared.node.Node.TheVariants.{File}
use Rattle.file_store.specs.Maps.{found_at, put_at}
use Rattle.file_store.specs.Trees.{is_directory, tree_of}
use Rattle.file_store.specs.Calls.{CommitRefused, committed}
use Rattle.file_store.proofs.MemLemmas.{changed_tree, commit_allowed, none_is, same_tree}
use Rattle.file_store.proofs.TreeLemmas.{committed_tree}
use Rattle.file_store.proofs.mem.MemStoreFileStore.commit_temp.Goals as goal

pub invariant_of-self-2 : goal.invariant_of-self-2
invariant_of-self-2 c =
    let n = c.as_str-name.result.now in
    let F = found_at c.args.self.now.names in
    let S = found_at c.args.self.now.temps in
    let k = c.args.self.now.sound in
    let file = Some (File (unwrap_or (S n) []) 0) in
    let there : IsSome (S n) = search rules in
    let none : is_directory (F n) ≡ false = search rules in
    record {
      sound = changed_tree c.commit_temp.result F (put_at n file F) (found_at c.commit_temp.new.names) S (put_at n None S) (found_at c.commit_temp.new.temps)
          c.commit_temp.ensures.names c.commit_temp.ensures.temps (committed_tree F S k n file there none) k;
    }

pub returns-then-not-contains-clause-commits : goal.returns-then-not-contains-clause-commits
returns-then-not-contains-clause-commits c =
    let S = found_at c.args.self.now.temps in
    let none : IsNone (S c.args.name.now) = search rules in
    λ k. (0, inl (subst (CommitRefused (tree_of (found_at c.args.self.now.names) S) c.args.name.now) (sym c.fault.ensures.refusal) (inl none), refl))

pub returns-clause-gives : goal.returns-clause-gives
returns-clause-gives c =
    let n = c.args.name.now in
    let m = c.as_str-name.result.now in
    let F = found_at c.args.self.now.names in
    let S = found_at c.args.self.now.temps in
    let there : IsSome (S n) = search rules in
    let no' : is_directory (F n) ≡ false = search rules in
    let is = same_tree (put_at m (Some (File (unwrap_or (S m) []) 0)) F) (found_at c.commit_temp.new.names) (put_at m None S) (found_at c.commit_temp.new.temps)
    c.in_ok-commit_temp.ensures.names c.in_ok-commit_temp.ensures.temps ∙ ap (λ q. committed (tree_of F S) q 0) c.as_str-name.ensures.value in
    ((0, (commit_allowed (tree_of F S) n there no', is)), (is, search rules))

pub returns-then-not-contains-clause-gives : goal.returns-then-not-contains-clause-gives
returns-then-not-contains-clause-gives c = (returns-then-not-contains-clause-commits c refl, search rules)

pub returns-in_err-commit_temp-clause-gives : goal.returns-in_err-commit_temp-clause-gives
returns-in_err-commit_temp-clause-gives c =
    let n = c.args.name.now in
    let F = found_at c.args.self.now.names in
    let S = found_at c.args.self.now.temps in
    let there : IsSome (S n) = search rules in
    let no' : is_directory (F n) ≡ false = search rules in
    let none : F n ≡ None = search rules in
    (search rules, (search rules, λ h. (commit_allowed (tree_of F S) n there no', none_is (F n) none)))
