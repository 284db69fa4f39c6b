use Rattle.std.proofs.Common.{List, ℕ, rules, subst}
use Rattle.std.specs.Prelude.{nat_lt, ◌≡◌}
use Rattle.std.specs.List.{IsAllAdjacentAnswer}
use Rattle.std.proofs.lemmas.Fn.{always_returns_same}
use Rattle.folder_core.proofs.PlainRestoreLists.{numbers-apart}
use Rattle.folder_core.proofs.plain.restore.are_distinct.Goals as goal

pub returns : goal.returns
returns c =
    numbers-apart c.args.numbers.items c.sort_unstable.new.self.items c.is_sorted_by.result c.sort_unstable.ensures.permutation c.sort_unstable.ensures.sorted
    (subst (λ (xs : List ℕ). IsAllAdjacentAnswer (λ m n b. b ≡ nat_lt m n) xs c.is_sorted_by.result) c.deref.ensures.value
    (c.is_sorted_by.ensures.cases nat_lt (always_returns_same _ _ _ (λ a r f k. search rules))))
