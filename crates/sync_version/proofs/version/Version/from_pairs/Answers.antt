use Rattle.std.proofs.Common.{◌≡◌, rules}
use Rattle.std.specs.Prelude.{filter}
use Rattle.std.specs.List.{dedup}
use Rattle.std.proofs.lemmas.Fn.{filter_same, dedup_same}
use Rattle.std.proofs.lemmas.List.Sorted.{answers_always}
use Rattle.sync_version.proofs.Vectors.{positive}
use Rattle.sync_version.proofs.Gathered.{same_id, gathered, sorted_grouped}
use Rattle.sync_version.proofs.Lemmas.{gathered_only}
use Rattle.sync_version.proofs.version.Version.from_pairs.Goals as goal

-- what is kept is the positive pairs, sorted, and of each id the first
pub returns-clause-gathered : goal.returns-clause-gathered
returns-clause-gathered c =
    let positives : c.retain.new.self.items ≡ filter positive c.args.pairs.items =
    filter_same _ positive _ (λ x b f' calls. search rules) c.args.pairs.items c.retain.new.self.items c.retain.ensures.filtered in
    let sorted = c.sort_unstable_by_key.ensures.sorted (λ pair. (pair.0, record { 0 = pair.1 })) (answers_always _ _ _ (λ f a r g called. search rules)) in
    let firsts : c.dedup_by_key.new.self.items ≡ dedup same_id c.sort_unstable_by_key.new.self.items =
    dedup_same _ same_id _ (λ x y b f' x' y' k. search rules) c.sort_unstable_by_key.new.self.items c.dedup_by_key.new.self.items c.dedup_by_key.ensures.filtered in
    rw firsts (gathered c.args.pairs.items c.sort_unstable_by_key.new.self.items
    (rw (← positives) c.sort_unstable_by_key.ensures.permutation) (sorted_grouped c.sort_unstable_by_key.new.self.items sorted))

pub returns-clause-value : goal.returns-clause-value
returns-clause-value c = gathered_only c.args.pairs.items c.dedup_by_key.new.self.items (returns-clause-gathered c)

pub invariant_of-result : goal.invariant_of-result
invariant_of-result c = (returns-clause-gathered c).canonical
