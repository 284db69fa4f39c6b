use Rattle.std.proofs.Common.{◌≡◌, true, sym, subst, rules}
use Rattle.std.specs.Prelude.{bytes_eq, map}
use Rattle.std.specs.List.{Any, Contains, dedup}
use Rattle.std.proofs.lemmas.Fn.{always_returns_same, dedup_same}
use Rattle.std.proofs.lemmas.List.Kept.{Any-dedup, Contains-from_dedup}
use Rattle.std.proofs.lemmas.List.Sorted.{Contains-permutation, IsPermutation-sym}
use Rattle.file_store.specs.Listings.{AreAscending}
use Rattle.file_dir.proofs.OrderLemmas.{before, before_ranks, dedup_ascends, same_name, same_name_is_equivalence}
use Rattle.file_dir.proofs.walk.in_order.Goals as goal

pub returns : goal.returns
returns c =
    let sorted = c.sort_by.new.self.items in
    let moved = c.sort_by.ensures.permutation in
    let kept : c.dedup_by.new.self.items ≡ dedup same_name sorted = dedup_same _ same_name _ (λ x y b f x' y' k. search rules) _ _ c.dedup_by.ensures.filtered in
    record {
      order = subst (λ es. AreAscending (map (λ e. e.name) es)) (sym kept) (dedup_ascends sorted (c.in_ok-sort_by.ensures.sorted before before_ranks (always_returns_same _ _ _ (λ a r f k. search rules))));
      all = λ e h. subst (Any (λ k. bytes_eq e.name k.name ≡ true)) (sym kept) (Any-dedup same_name_is_equivalence sorted e (Contains-permutation _ _ e moved h));
      no_more = λ e h. Contains-permutation _ _ e (IsPermutation-sym _ _ moved) (Contains-from_dedup same_name sorted e (subst (λ es. Contains es e) kept h));
    }
