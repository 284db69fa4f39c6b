use Rattle.std.proofs.Common.{rules, ◌∙◌, inl, false, sym, subst, ◌≡◌, Some, None, Err, refl, true}
use Rattle.std.specs.Prelude.{IsTrue}
use Rattle.file_store.specs.declared.refusal.StoreRefusal.TheVariants.{StoreFault, OutOfMemory}
use Rattle.file_store.specs.Maps.{found_at, put_at}
use Rattle.file_store.specs.Trees.{is_file, tree_of}
use Rattle.file_store.specs.Calls.{RenameRefused}
use Rattle.file_store.specs.Names.{Name, is_parent}
use Rattle.file_store.specs.declared.node.Node.TheVariants.{Directory}
use Rattle.file_store.proofs.MemLemmas.{rename_allowed, rename_faults, ran_out, renewed_tree, same_tree}
use Rattle.file_store.proofs.TreeLemmas.{renamed_tree}
use Rattle.file_store.proofs.mem.MemStoreFileStore.rename.Goals as goal

pub invariant_of-self-2 : goal.invariant_of-self-2
invariant_of-self-2 c =
    let from = c.as_str-from.result.now in
    let to = c.as_str-to.result.now in
    let F = found_at c.args.self.now.names in
    let S = found_at c.args.self.now.temps in
    let k = c.args.self.now.sound in
    let can : IsTrue c.can_move.result = search rules in
    record {
      sound = renewed_tree c.rename.result F (put_at to (F from) (put_at from None F)) (found_at c.rename.new.names) S
          c.rename.ensures (renamed_tree F S k from to (c.can_move.ensures.file can) (c.can_move.ensures.room can) (c.can_move.ensures.parents can)) k;
    }

pub returns-in_err-rename-clause-renames : goal.returns-in_err-rename-clause-renames
returns-in_err-rename-clause-renames c =
    let F = found_at c.args.self.now.names in
    let S = found_at c.args.self.now.temps in
    let is : c.from_residual.result ≡ Err OutOfMemory = search rules in
    let same : found_at c.rename.new.names ≡ F = search rules in
    λ k. ran_out _ _ _ _ _ _ c.from_residual.result is tt (same_tree F (found_at c.rename.new.names) S S same refl)

pub returns-then-not-can_move-clause-renames : goal.returns-then-not-can_move-clause-renames
returns-then-not-can_move-clause-renames c =
    let old = tree_of (found_at c.args.self.now.names) (found_at c.args.self.now.temps) in
    let free = c.has_bad_parent.ensures.good c.if-has_bad_parent.false in
    let no' : c.can_move.result ≡ false = search rules in
    let why = rename_faults old c.as_str-from.result.now c.as_str-to.result.now free (c.can_move.ensures.refused no') in
    let fits : RenameRefused old c.args.from.now c.args.to.now StoreFault =
    subst (λ m. RenameRefused old m c.args.to.now StoreFault) c.as_str-from.ensures.value
    (subst (λ m. RenameRefused old c.as_str-from.result.now m StoreFault) c.as_str-to.ensures.value why) in
    λ k. inl (subst (RenameRefused old c.args.from.now c.args.to.now) (sym c.fault.ensures.refusal) fits, refl)

pub returns-clause-renames : goal.returns-clause-renames
returns-clause-renames c =
    let from = c.args.from.now in
    let to = c.args.to.now in
    let F = found_at c.args.self.now.names in
    let S = found_at c.args.self.now.temps in
    let file : is_file (F from) ≡ true = search rules in
    let none : F to ≡ None = search rules in
    let there : (p : Name) → is_parent p to ≡ true → F p ≡ Some Directory = search rules in
    let done = c.in_ok-rename.ensures in
    let moved : found_at c.rename.new.names ≡ put_at to (F from) (put_at from None F) =
    done ∙ (λ t. put_at (c.as_str-to.ensures.value t) (F (c.as_str-from.ensures.value t)) (put_at (c.as_str-from.ensures.value t) None F)) in
    λ k. (rename_allowed (tree_of F S) from to file none there, same_tree (put_at to (F from) (put_at from None F)) (found_at c.rename.new.names) S S moved refl)

pub returns-in_err-rename-clause-gives : goal.returns-in_err-rename-clause-gives
returns-in_err-rename-clause-gives c = (returns-in_err-rename-clause-renames c refl, search rules)

pub returns-then-not-can_move-clause-gives : goal.returns-then-not-can_move-clause-gives
returns-then-not-can_move-clause-gives c = (returns-then-not-can_move-clause-renames c refl, search rules)

pub returns-clause-gives : goal.returns-clause-gives
returns-clause-gives c = (returns-clause-renames c refl, search rules)
