use Rattle.std.proofs.Common.{◌≡◌, ◌<◌, ◌++◌, ◌∷◌, ◌-◌, ◌+◌, [], Some, None, map, take, vec_len, sym, ap, ◌∙◌, arith}
use Rattle.std.specs.Prelude.{option_map}
use Rattle.std.specs.Option.{option_to_list}
use Rattle.std.proofs.lemmas.Bool.{true≢false}
use Rattle.std.proofs.lemmas.List.{map-append}
use Rattle.std.proofs.lemmas.List.Sums.{prefix_len-le-length}
use Rattle.std.proofs.lemmas.Option.{none-some}
use Rattle.folder_core.specs.declared.best.Best.{Best}
use Rattle.folder_core.specs.Plain.{group_best, listed_bests}
use Rattle.folder_core.specs.Reads.{BestEntry}
use Rattle.folder_core.proofs.PlainFound.{first_step, page_more, page_not_empty, page_same}
use Rattle.folder_core.proofs.PlainGroup.{is_named}
use Rattle.folder_core.proofs.plain.group.bests_of.Goals as goal

abbrev shown : Best → BestEntry
shown b = (b.record, b.devices)

pub split_at-requires : goal.split_at-requires
split_at-requires c = let most = prefix_len-le-length (is_named c.name.result.now) c.loop-first.rest.now in let count = c.count_of.ensures in omega arith

pub returns-in_err-best-clause-none : goal.returns-in_err-best-clause-none
returns-in_err-best-clause-none c = λ none.
    let rest = c.loop-first.rest.now in
    let step = first_step rest c.split_at.result.0.now c.split_at.result.1.now c.in-Some.first.now _ _ c.loop-first.invariant.2 c.in-Some.ensures.value c.name.ensures c.count_of.ensures c.split_at.ensures.front c.split_at.ensures.back in
    let short : vec_len c.loop-first.page < c.args.limit = omega arith in
    absurd (true≢false (sym (c.in_err-best.ensures.none (page_not_empty (map shown c.loop-first.page.items) (listed_bests rest) (listed_bests c.split_at.result.1.now) (vec_len c.loop-first.page) c.args.limit (group_best c.split_at.result.0.now) step.listed short (c.loop-first.invariant.0 ∙ none)))))

pub returns-in_err-push-clause-none : goal.returns-in_err-push-clause-none
returns-in_err-push-clause-none c = λ none.
    let rest = c.loop-first.rest.now in
    let step = first_step rest c.split_at.result.0.now c.split_at.result.1.now c.in-Some.first.now _ _ c.loop-first.invariant.2 c.in-Some.ensures.value c.name.ensures c.count_of.ensures c.split_at.ensures.front c.split_at.ensures.back in
    let short : vec_len c.loop-first.page < c.args.limit = omega arith in
    let some : group_best c.split_at.result.0.now ≡ Some (shown c.in-Some-2.best) = sym c.in_ok-best.ensures.found ∙ ap (option_map shown) c.in-Some-2.is in
    let lost : Some (shown c.in-Some-2.best) ≡ None =
    sym some ∙ page_not_empty (map shown c.loop-first.page.items) (listed_bests rest) (listed_bests c.split_at.result.1.now) (vec_len c.loop-first.page) c.args.limit (group_best c.split_at.result.0.now) step.listed short (c.loop-first.invariant.0 ∙ none) in
    absurd (none-some _ (sym lost))

pub loop-first-preserved-in_ok-push : goal.loop-first-preserved-in_ok-push
loop-first-preserved-in_ok-push c =
    let rest = c.loop-first.rest.now in
    let step = first_step rest c.split_at.result.0.now c.split_at.result.1.now c.in-Some.first.now _ _ c.loop-first.invariant.2 c.in-Some.ensures.value c.name.ensures c.count_of.ensures c.split_at.ensures.front c.split_at.ensures.back in
    let short : vec_len c.loop-first.page < c.args.limit = omega arith in
    let some : group_best c.split_at.result.0.now ≡ Some (shown c.in-Some-2.best) = sym c.in_ok-best.ensures.found ∙ ap (option_map shown) c.in-Some-2.is in
    let items : map shown c.push.new.self.items ≡ map shown c.loop-first.page.items ++ shown c.in-Some-2.best ∷ [] =
    ap (map shown) c.in_ok-push.ensures.items ∙ map-append shown c.loop-first.page.items (c.in-Some-2.best ∷ []) in
    let len : vec_len c.push.new.self ≡ vec_len c.loop-first.page + 1 = c.in_ok-push.ensures.len in (
      (λ i. items i ++ take (c.args.limit - len i) (listed_bests c.split_at.result.1.now))
          ∙ sym (page_more (map shown c.loop-first.page.items) (listed_bests rest) (listed_bests c.split_at.result.1.now) (vec_len c.loop-first.page) c.args.limit (shown c.in-Some-2.best)
          (step.listed ∙ ap (λ o. option_to_list o ++ listed_bests c.split_at.result.1.now) some) short)
          ∙ c.loop-first.invariant.0,
      omega arith,
      step.rises,
    )

pub loop-first-smaller : goal.loop-first-smaller
loop-first-smaller c =
    let rest = c.loop-first.rest.now in
    let step = first_step rest c.split_at.result.0.now c.split_at.result.1.now c.in-Some.first.now _ _ c.loop-first.invariant.2 c.in-Some.ensures.value c.name.ensures c.count_of.ensures c.split_at.ensures.front c.split_at.ensures.back in
    step.shorter

pub loop-first-preserved : goal.loop-first-preserved
loop-first-preserved c =
    let rest = c.loop-first.rest.now in
    let step = first_step rest c.split_at.result.0.now c.split_at.result.1.now c.in-Some.first.now _ _ c.loop-first.invariant.2 c.in-Some.ensures.value c.name.ensures c.count_of.ensures c.split_at.ensures.front c.split_at.ensures.back in
    let none : group_best c.split_at.result.0.now ≡ None = sym c.in_ok-best.ensures.found ∙ ap (option_map shown) c.in_default-2.is in (
      sym (page_same (map shown c.loop-first.page.items) (listed_bests rest) (listed_bests c.split_at.result.1.now) (vec_len c.loop-first.page) c.args.limit
          (step.listed ∙ ap (λ o. option_to_list o ++ listed_bests c.split_at.result.1.now) none))
          ∙ c.loop-first.invariant.0,
      c.loop-first.invariant.1,
      step.rises,
    )
