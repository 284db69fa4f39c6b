use Rattle.std.proofs.Common.{rules, List, ℕ, Option, ◌≡◌, ◌≢◌, ◌<◌, ◌+◌, length, Some, [], refl, ap, subst, ◌∙◌}
use Rattle.std.specs.Prelude.{unwrap_or, IsSome, MatchResult}
use Rattle.file_store.specs.Names.{Name}
use Rattle.file_store.specs.Contents.{overwritten}
use Rattle.file_store.specs.Maps.{found_at, put_at}
use Rattle.file_store.specs.Trees.{tree_of}
use Rattle.file_store.proofs.MemLemmas.{not_none, same_tree, write_allowed, written_tree}
use Rattle.file_store.proofs.mem.MemStoreFileStore.write_at.Goals as goal

pub invariant_of-self : goal.invariant_of-self
invariant_of-self c =
    let n = c.as_str.result.now in
    let F = found_at c.args.self.now.names in
    let S = found_at c.args.self.now.temps in
    record { sound = written_tree c.write_at.result F S (found_at c.write_at.new.self) n c.args.offset c.args.bytes.now c.write_at.ensures.none c.write_at.ensures.left c.args.self.now.sound }

pub returns-in-Some-Ok-clause-writes : goal.returns-in-Some-Ok-clause-writes
returns-in-Some-Ok-clause-writes c =
    let n = c.args.name.now in
    let m = c.as_str.result.now in
    let F = found_at c.args.self.now.names in
    let S = found_at c.args.self.now.temps in
    let written : Name → Name → Option (List ℕ) = λ q. put_at q (Some (overwritten (unwrap_or (S q) []) c.args.offset c.args.bytes.now)) S in
    let there : IsSome (S n) = search rules in
    let left : found_at c.write_at.new.self ≡ written m = subst (λ r. MatchResult r (λ _. found_at c.write_at.new.self ≡ written m) (λ _. found_at c.write_at.new.self ≡ S)) c.in-Some-Ok.field-0-is c.in-Some-Ok.ensures.left in
    λ k. (
      record { fault = not_none (S n) there; empty = λ h. h; parents = λ h. h },
      same_tree F F (written n) (found_at c.write_at.new.self) refl (left ∙ ap written c.as_str.ensures.value),
    )

pub returns-in-Some-Err-clause-gives : goal.returns-in-Some-Err-clause-gives
returns-in-Some-Err-clause-gives c =
    let n = c.args.name.now in
    let F = found_at c.args.self.now.names in
    let S = found_at c.args.self.now.temps in
    let there : IsSome (S n) = search rules in
    let failed : (c.args.bytes.now ≢ []) × (length (unwrap_or (S n) []) < c.args.offset + length c.args.bytes.now) = search rules in
    (search rules, λ h. (write_allowed (tree_of F S) n there, failed.0, failed.1))
