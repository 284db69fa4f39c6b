use Rattle.std.proofs.Common.{◌≡◌, true, length, ap, sym, subst, ◌∙◌, rules}
use Rattle.std.specs.List.{AllAdjacentBelow, dedup, find}
use Rattle.std.proofs.lemmas.Fn.{always_returns_same, dedup_same}
use Rattle.folder_core.specs.Plain.{IsLastOfEach}
use Rattle.folder_core.proofs.PlainMessage.{InOrder, already_last, in_order, not_out_of_order, rises_in_order, before, before_ranks, dedup_first, dedup_rises, is_record_of, same_name, stable_first}
use Rattle.folder_core.proofs.plain.message.last_of_each_name.Goals as goal

pub returns-clause-last : goal.returns-clause-last
returns-clause-last c =
    let sorted = c.sort_by.new.self.items in
    let kept : c.dedup_by.new.self.items ≡ dedup same_name sorted = dedup_same _ same_name _ (λ x y b f x' y' k. search rules) _ _ c.dedup_by.ensures.filtered in
    subst (IsLastOfEach c.args.records.items) (sym kept) (record {
      rise = dedup_rises sorted (c.in_ok-sort_by.ensures.sorted before before_ranks (always_returns_same _ _ _ (λ a r f k. search rules)));
      last = λ n. dedup_first n sorted
          ∙ stable_first n c.reverse.new.self.items sorted (c.in_ok-sort_by.ensures.stable before before_ranks (always_returns_same _ _ _ (λ a r f k. search rules)))
          ∙ ap (find (is_record_of n)) c.reverse.ensures.items;
    })

pub returns-then-is_sorted_by-clause-last : goal.returns-then-is_sorted_by-clause-last
returns-then-is_sorted_by-clause-last c =
    let each : AllAdjacentBelow (λ q r. true ≡ before q r) c.deref.result.now (length c.deref.result.now) = c.if-is_sorted_by.ensures.cases before (always_returns_same _ _ _ (λ a r f k. search rules)) in
    already_last c.args.records.items (in_order c.args.records.items (subst (λ rs. AllAdjacentBelow (λ q r. true ≡ before q r) rs (length rs)) c.deref.ensures.value each))

pub returns-in_err-sort_by-clause-in_order : goal.returns-in_err-sort_by-clause-in_order
returns-in_err-sort_by-clause-in_order c = λ rise.
    absurd (not_out_of_order c.deref.result.now (subst InOrder (sym c.deref.ensures.value) (rises_in_order c.args.records.items rise)) (c.if-is_sorted_by.ensures.cases before (always_returns_same _ _ _ (λ a r f k. search rules))))
