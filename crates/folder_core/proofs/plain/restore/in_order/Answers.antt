use Rattle.std.proofs.Common.{ap, sym, ◌∙◌, rules}
use Rattle.std.specs.Prelude.{map}
use Rattle.std.specs.FinMap.{is_sorted}
use Rattle.std.proofs.lemmas.Bool.{true≢false}
use Rattle.std.proofs.lemmas.Fn.{always_returns_same}
use Rattle.folder_core.specs.Announced.{key_cmp}
use Rattle.folder_core.specs.Plain.{filed}
use Rattle.folder_core.proofs.PlainRestoreLists.{before, before_ranks, once-permuted, strictly}
use Rattle.folder_core.proofs.plain.restore.in_order.Goals as goal

pub returns-else-rises-2-clause-repeated : goal.returns-else-rises-2-clause-repeated
returns-else-rises-2-clause-repeated c = λ fault once.
    let sorted = c.sort_by.new.self.items in
    let ranked = c.in_ok-sort_by.ensures.sorted before before_ranks (always_returns_same _ _ _ (λ a r f k. search rules)) in
    let rises = strictly sorted ranked (once-permuted c.args.records.items sorted c.in_ok-sort_by.ensures.permutation once) in
    absurd (true≢false (sym rises ∙ sym (c.rises-2.ensures ∙ ap (λ es. is_sorted key_cmp (map filed es)) c.as_slice-2.ensures.value) ∙ c.if-rises-2.false))
