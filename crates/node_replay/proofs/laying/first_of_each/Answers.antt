use Rattle.std.proofs.Common.{◌≡◌, ap, sym, subst, ◌∙◌, rules}
use Rattle.std.specs.List.{dedup}
use Rattle.std.proofs.lemmas.Fn.{always_returns_same, dedup_same}
use Rattle.folder_core.specs.Plain.{Rises}
use Rattle.folder_core.proofs.PlainRestoreLists.{before, before_ranks}
use Rattle.node_replay.proofs.Announcing.{dedup-found, dedup-rises, found, same_key, stable}
use Rattle.node_replay.proofs.laying.first_of_each.Goals as goal

pub returns-clause-rises : goal.returns-clause-rises
returns-clause-rises c =
    let sorted = c.sort_by.new.self.items in
    let kept : c.dedup_by.new.self.items ≡ dedup same_key sorted = dedup_same _ same_key _ (λ x y b f x' y' k. search rules) _ _ c.dedup_by.ensures.filtered in
    subst Rises (sym kept) (dedup-rises sorted (c.in_ok-sort_by.ensures.sorted before before_ranks (always_returns_same _ _ _ (λ a r f k. search rules))))

pub returns-clause-first : goal.returns-clause-first
returns-clause-first c =
    let sorted = c.sort_by.new.self.items in
    let kept : c.dedup_by.new.self.items ≡ dedup same_key sorted = dedup_same _ same_key _ (λ x y b f x' y' k. search rules) _ _ c.dedup_by.ensures.filtered in
    λ k. ap (found k) kept ∙ dedup-found k sorted
    ∙ stable c.args.entries.items sorted (c.in_ok-sort_by.ensures.stable before before_ranks (always_returns_same _ _ _ (λ a r f k. search rules))) k
