use Rattle.std.proofs.Common.{◌≡◌, true, sym, subst, rules, map}
use Rattle.std.specs.Prelude.{bytes_eq}
use Rattle.std.specs.List.{Any, Contains, dedup}
use Rattle.std.specs.List.Sorted.{IsStrictlySortedBy}
use Rattle.std.specs.String.{string_bytes}
use Rattle.std.proofs.lemmas.Fn.{always_returns_same, dedup_same}
use Rattle.std.proofs.lemmas.List.Kept.{Any-dedup, Contains-from_dedup}
use Rattle.std.proofs.lemmas.List.Sorted.{Contains-permutation, IsPermutation-sym}
use Rattle.folder_look.proofs.OrderLemmas.{before, before_ranks, dedup_ascends, order, same_name, same_name_is_equivalence}
use Rattle.folder_look.proofs.table.in_order.Goals as goal

pub returns : goal.returns
returns c =
    let sorted = c.sort_by.new.self.items in
    let moved = c.sort_by.ensures.permutation in
    let kept : c.dedup_by.new.self.items ≡ dedup same_name sorted = dedup_same _ same_name _ (λ x y b f x' y' k. search rules) _ _ c.dedup_by.ensures.filtered in
    record {
      order = subst (λ es. IsStrictlySortedBy order (map (λ e. string_bytes e.name) es)) (sym kept) (dedup_ascends sorted (c.in_ok-sort_by.ensures.sorted before before_ranks (always_returns_same _ _ _ (λ a r f k. search rules))));
      all = λ e h. subst (Any (λ k. bytes_eq (string_bytes e.name) (string_bytes k.name) ≡ true)) (sym kept) (Any-dedup same_name_is_equivalence sorted e (Contains-permutation _ _ e moved h));
      no_more = λ e h. Contains-permutation _ _ e (IsPermutation-sym _ _ moved) (Contains-from_dedup same_name sorted e (subst (λ es. Contains es e) kept h));
    }
