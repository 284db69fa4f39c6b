use Rattle.std.proofs.Common.{◌≡◌, ◌++◌, ◌∷◌, ◌-◌, ◌+◌, ◌<◌, ◌≤◌, [], List, Some, None, drop, length, map, take, vec_len, sym, ap, subst, ◌∙◌, arith}
use Rattle.std.specs.Prelude.{option_map}
use Rattle.std.specs.Option.{option_to_list}
use Rattle.std.proofs.lemmas.Bool.{true≢false}
use Rattle.std.proofs.lemmas.List.{length-map, map-append}
use Rattle.std.proofs.lemmas.Option.{none-some}
use Rattle.folder_core.proofs.PlainFound.{page_more, page_not_empty, page_same}
use Rattle.folder_index.specs.declared.group.Group.{Group}
use Rattle.folder_index.specs.Chunks.{keyed}
use Rattle.folder_index.specs.Groups.{best_of_group, bests_listed, shown}
use Rattle.folder_index.proofs.Found.{none_chosen}
use Rattle.folder_index.proofs.Pages.{full_page, last_page, left_empty, next_groups, none_before, none_past}
use Rattle.folder_index.proofs.by_name.push_bests.Goals as goal
use Rattle.folder_index.proofs.by_name.push_bests.Goals.{in-Some+in_ok-push, in_default}

pub loop-group-init : goal.loop-group-init
loop-group-init c = record {
  page = ap (λ (gs : List Group). map shown c.args.page.now.items ++ take (c.args.limit - vec_len c.args.page.now) (bests_listed (map keyed gs))) (none_before c.args.groups.now);
  fits = c.requires;
  grows = omega arith;
}

pub returns-in_err-best-clause-fits : goal.returns-in_err-best-clause-fits
returns-in_err-best-clause-fits c = c.loop-group.invariant.fits

pub returns-in_err-best-clause-none : goal.returns-in_err-best-clause-none
returns-in_err-best-clause-none c = λ none.
    let page = c.loop-group.page in
    let old = c.args.page.now in
    let gs = c.args.groups.now in
    let g = c.group-item.result in
    let rest = bests_listed (map keyed (drop c.loop-group.group-index gs)) in
    let more = bests_listed (map keyed (drop (c.loop-group.group-index + 1) gs)) in
    let next : rest ≡ option_to_list (best_of_group g) ++ more = ap (λ (gs : List Group). bests_listed (map keyed gs)) (next_groups gs c.loop-group.group-index g c.loop-group-test.true c.group-item.is) in
    let short : vec_len page < c.args.limit = omega (arith, c.loop-group.invariant.fits) in
    let fewer : length (map shown old.items) ≤ length (map shown page.items) = omega (arith, length-map old.items shown, length-map page.items shown, old.ok.0, page.ok.0, c.loop-group.invariant.grows) in
    let empty : take (c.args.limit - vec_len page) rest ≡ [] = left_empty (map shown page.items) (take (c.args.limit - vec_len page) rest) (map shown old.items) (take (c.args.limit - vec_len old) (bests_listed (map keyed gs))) c.loop-group.invariant.page none fewer in
    absurd (true≢false (sym (c.in_err-best.ensures.none (none_chosen g (page_not_empty [] rest more (vec_len page) c.args.limit (best_of_group g) next short empty)))))

pub returns-in_err-push-clause-fits : goal.returns-in_err-push-clause-fits
returns-in_err-push-clause-fits c = omega (arith, c.in_err-push.ensures.len, c.loop-group.invariant.fits)

pub returns-in_err-push-clause-none : goal.returns-in_err-push-clause-none
returns-in_err-push-clause-none c = λ none.
    let page = c.loop-group.page in
    let old = c.args.page.now in
    let gs = c.args.groups.now in
    let g = c.group-item.result in
    let rest = bests_listed (map keyed (drop c.loop-group.group-index gs)) in
    let more = bests_listed (map keyed (drop (c.loop-group.group-index + 1) gs)) in
    let next : rest ≡ option_to_list (best_of_group g) ++ more = ap (λ (gs : List Group). bests_listed (map keyed gs)) (next_groups gs c.loop-group.group-index g c.loop-group-test.true c.group-item.is) in
    let short : vec_len page < c.args.limit = omega (arith, c.loop-group.invariant.fits) in
    let fewer : length (map shown old.items) ≤ length (map shown page.items) = omega (arith, length-map old.items shown, length-map page.items shown, old.ok.0, page.ok.0, c.loop-group.invariant.grows) in
    let empty : take (c.args.limit - vec_len page) rest ≡ [] = left_empty (map shown page.items) (take (c.args.limit - vec_len page) rest) (map shown old.items) (take (c.args.limit - vec_len old) (bests_listed (map keyed gs))) c.loop-group.invariant.page none fewer in
    let some : best_of_group g ≡ Some (shown c.in-Some.best) = sym c.in_ok-best.ensures.found ∙ ap (option_map shown) c.in-Some.is in
    absurd (none-some _ (sym (sym some ∙ page_not_empty [] rest more (vec_len page) c.args.limit (best_of_group g) next short empty)))

pub loop-group-preserved : goal.loop-group-preserved
loop-group-preserved c =
    let page = c.loop-group.page in
    let old = c.args.page.now in
    let gs = c.args.groups.now in
    let g = c.group-item.result in
    let rest = bests_listed (map keyed (drop c.loop-group.group-index gs)) in
    let more = bests_listed (map keyed (drop (c.loop-group.group-index + 1) gs)) in
    let next : rest ≡ option_to_list (best_of_group g) ++ more = ap (λ (gs : List Group). bests_listed (map keyed gs)) (next_groups gs c.loop-group.group-index g c.loop-group-test.true c.group-item.is) in
    let short : vec_len page < c.args.limit = omega (arith, c.loop-group.invariant.fits) in
    elim c.match-branch-2.branch [
      | in-Some+in_ok-push w ↦ (
          let some : best_of_group g ≡ Some (shown w.in-Some.best) = sym c.in_ok-best.ensures.found ∙ ap (option_map shown) w.in-Some.is in
          let items : map shown c.match-branch-2.page.items ≡ map shown page.items ++ shown w.in-Some.best ∷ [] = ap (λ (v : _). map shown v.items) w.page-is ∙ ap (map shown) w.in_ok-push.ensures.items ∙ map-append shown page.items (w.in-Some.best ∷ []) in
          let len : vec_len c.match-branch-2.page ≡ vec_len page + 1 = ap (λ (v : _). vec_len v) w.page-is ∙ w.in_ok-push.ensures.len in
          record {
            page = (λ i. items i ++ take (c.args.limit - len i) more)
                ∙ sym (page_more (map shown page.items) rest more (vec_len page) c.args.limit (shown w.in-Some.best) (next ∙ ap (λ o. option_to_list o ++ more) some) short)
                ∙ c.loop-group.invariant.page;
            fits = omega arith;
            grows = omega (arith, c.loop-group.invariant.grows);
          })
      | in_default w ↦ (
          let none : best_of_group g ≡ None = sym c.in_ok-best.ensures.found ∙ ap (option_map shown) w.in_default.is in
          let same : c.match-branch-2.page ≡ page = w.page-is in
          record {
            page = (λ i. map shown (same i).items ++ take (c.args.limit - vec_len (same i)) more)
                ∙ sym (page_same (map shown page.items) rest more (vec_len page) c.args.limit (next ∙ ap (λ o. option_to_list o ++ more) none))
                ∙ c.loop-group.invariant.page;
            fits = subst (λ (v : _). vec_len v ≤ c.args.limit) (sym same) c.loop-group.invariant.fits;
            grows = subst (λ (v : _). vec_len old ≤ vec_len v) (sym same) c.loop-group.invariant.grows;
          })
    ]

pub returns-after-loop-group-clause-fits : goal.returns-after-loop-group-clause-fits
returns-after-loop-group-clause-fits c = c.loop-group.invariant.fits

pub returns-after-loop-group-clause-page : goal.returns-after-loop-group-clause-page
returns-after-loop-group-clause-page c =
    let page = c.loop-group.page in
    let gs = c.args.groups.now in
    last_page (map shown page.items) (bests_listed (map keyed (drop c.loop-group.group-index gs))) (c.args.limit - vec_len page) (ap (λ (l : List Group). bests_listed (map keyed l)) (none_past gs c.loop-group.group-index (let past = c.loop-group-test.false in omega arith)))
    ∙ c.loop-group.invariant.page

pub returns-then-len-limit-clause-page : goal.returns-then-len-limit-clause-page
returns-then-len-limit-clause-page c =
    let page = c.loop-group.page in
    let gs = c.args.groups.now in
    full_page (map shown page.items) (bests_listed (map keyed (drop c.loop-group.group-index gs))) (vec_len page) c.args.limit (omega (arith, c.len.ensures))
    ∙ c.loop-group.invariant.page
