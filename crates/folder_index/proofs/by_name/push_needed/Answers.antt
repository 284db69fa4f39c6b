use Rattle.std.proofs.Common.{◌≡◌, ◌++◌, ◌∷◌, ◌-◌, ◌+◌, ◌<◌, ◌≤◌, [], List, Some, drop, length, map, take, vec_len, sym, ap, subst, ◌∙◌, arith}
use Rattle.std.specs.Prelude.{cond, option_copied}
use Rattle.std.proofs.lemmas.Option.{none-some}
use Rattle.folder_core.proofs.ListTests.{In, in_contains}
use Rattle.folder_core.proofs.PlainFound.{page_more, page_not_empty, page_same}
use Rattle.folder_index.specs.declared.group.Group.{Group}
use Rattle.folder_index.specs.Chunks.{keyed}
use Rattle.folder_index.specs.Groups.{name_in, needed_listed}
use Rattle.folder_index.proofs.Chunked.{in_item}
use Rattle.folder_index.proofs.Pages.{full_page, last_page, left_empty, needed_none, needed_some, next_groups, none_before, none_past}
use Rattle.folder_index.proofs.by_name.push_needed.Goals as goal
use Rattle.folder_index.proofs.by_name.push_needed.Goals.{in-Some+in_ok-copy+in_ok-push, in_default}

pub loop-group-init : goal.loop-group-init
loop-group-init c = record {
  page = ap (λ (gs : List Group). c.args.page.now.items ++ take (c.args.limit - vec_len c.args.page.now) (needed_listed (map keyed gs))) (none_before c.args.groups.now);
  fits = c.requires.fits;
  grows = omega arith;
}

pub returns-in_err-copy-clause-fits : goal.returns-in_err-copy-clause-fits
returns-in_err-copy-clause-fits c = c.loop-group.invariant.fits

pub returns-in_err-copy-clause-none : goal.returns-in_err-copy-clause-none
returns-in_err-copy-clause-none c = λ none.
    let page = c.loop-group.page in
    let old = c.args.page.now in
    let gs = c.args.groups.now in
    let g = c.group-item.result in
    let rest = needed_listed (map keyed (drop c.loop-group.group-index gs)) in
    let more = needed_listed (map keyed (drop (c.loop-group.group-index + 1) gs)) in
    let next : rest ≡ cond g.is_needed (name_in g ∷ []) [] ++ more = ap (λ (gs : List Group). needed_listed (map keyed gs)) (next_groups gs c.loop-group.group-index g c.loop-group-test.true c.group-item.is) in
    let short : vec_len page < c.args.limit = omega (arith, c.loop-group.invariant.fits) in
    let has = c.requires.named g (in_contains gs g (subst (λ x. In x gs) (sym c.group-item.is) (in_item gs c.loop-group.group-index g c.loop-group-test.true))) in
    let fewer : length old.items ≤ length page.items = omega (arith, old.ok.0, page.ok.0, c.loop-group.invariant.grows) in
    let empty : take (c.args.limit - vec_len page) rest ≡ [] = left_empty page.items (take (c.args.limit - vec_len page) rest) old.items (take (c.args.limit - vec_len old) (needed_listed (map keyed gs))) c.loop-group.invariant.page none fewer in
    let told = needed_some g has c.in-Some.first.now (sym (ap option_copied c.in-Some.is) ∙ c.first_needed.ensures) in
    absurd (none-some _ (sym (page_not_empty [] rest more (vec_len page) c.args.limit (Some (name_in g)) (next ∙ ap (λ b. cond b (name_in g ∷ []) [] ++ more) told.0) short empty)))

pub returns-in_err-push-clause-fits : goal.returns-in_err-push-clause-fits
returns-in_err-push-clause-fits c = omega (arith, c.in_err-push.ensures.len, c.loop-group.invariant.fits)

pub returns-in_err-push-clause-none : goal.returns-in_err-push-clause-none
returns-in_err-push-clause-none c = λ none.
    let page = c.loop-group.page in
    let old = c.args.page.now in
    let gs = c.args.groups.now in
    let g = c.group-item.result in
    let rest = needed_listed (map keyed (drop c.loop-group.group-index gs)) in
    let more = needed_listed (map keyed (drop (c.loop-group.group-index + 1) gs)) in
    let next : rest ≡ cond g.is_needed (name_in g ∷ []) [] ++ more = ap (λ (gs : List Group). needed_listed (map keyed gs)) (next_groups gs c.loop-group.group-index g c.loop-group-test.true c.group-item.is) in
    let short : vec_len page < c.args.limit = omega (arith, c.loop-group.invariant.fits) in
    let has = c.requires.named g (in_contains gs g (subst (λ x. In x gs) (sym c.group-item.is) (in_item gs c.loop-group.group-index g c.loop-group-test.true))) in
    let fewer : length old.items ≤ length page.items = omega (arith, old.ok.0, page.ok.0, c.loop-group.invariant.grows) in
    let empty : take (c.args.limit - vec_len page) rest ≡ [] = left_empty page.items (take (c.args.limit - vec_len page) rest) old.items (take (c.args.limit - vec_len old) (needed_listed (map keyed gs))) c.loop-group.invariant.page none fewer in
    let told = needed_some g has c.in-Some.first.now (sym (ap option_copied c.in-Some.is) ∙ c.first_needed.ensures) in
    absurd (none-some _ (sym (page_not_empty [] rest more (vec_len page) c.args.limit (Some (name_in g)) (next ∙ ap (λ b. cond b (name_in g ∷ []) [] ++ more) told.0) short empty)))

pub loop-group-preserved : goal.loop-group-preserved
loop-group-preserved c =
    let page = c.loop-group.page in
    let old = c.args.page.now in
    let gs = c.args.groups.now in
    let g = c.group-item.result in
    let rest = needed_listed (map keyed (drop c.loop-group.group-index gs)) in
    let more = needed_listed (map keyed (drop (c.loop-group.group-index + 1) gs)) in
    let next : rest ≡ cond g.is_needed (name_in g ∷ []) [] ++ more = ap (λ (gs : List Group). needed_listed (map keyed gs)) (next_groups gs c.loop-group.group-index g c.loop-group-test.true c.group-item.is) in
    let short : vec_len page < c.args.limit = omega (arith, c.loop-group.invariant.fits) in
    let has = c.requires.named g (in_contains gs g (subst (λ x. In x gs) (sym c.group-item.is) (in_item gs c.loop-group.group-index g c.loop-group-test.true))) in
    elim c.match-first_needed.branch [
      | in-Some+in_ok-copy+in_ok-push w ↦ (
          let told = needed_some g has w.in-Some.first.now (sym (ap option_copied w.in-Some.is) ∙ c.first_needed.ensures) in
          let items : c.match-first_needed.page.items ≡ page.items ++ name_in g ∷ [] = ap (λ (v : _). v.items) w.page-is ∙ w.in_ok-push.ensures.items ∙ ap (λ n. page.items ++ n ∷ []) (w.in_ok-copy.ensures ∙ w.name.ensures ∙ told.1) in
          let len : vec_len c.match-first_needed.page ≡ vec_len page + 1 = ap (λ (v : _). vec_len v) w.page-is ∙ w.in_ok-push.ensures.len in
          record {
            page = (λ i. items i ++ take (c.args.limit - len i) more)
                ∙ sym (page_more page.items rest more (vec_len page) c.args.limit (name_in g) (next ∙ ap (λ b. cond b (name_in g ∷ []) [] ++ more) told.0) short)
                ∙ c.loop-group.invariant.page;
            fits = omega arith;
            grows = omega (arith, c.loop-group.invariant.grows);
          })
      | in_default w ↦ (
          let none = needed_none g has (sym (ap option_copied w.in_default.is) ∙ c.first_needed.ensures) in
          let same : c.match-first_needed.page ≡ page = w.page-is in
          record {
            page = (λ i. (same i).items ++ take (c.args.limit - vec_len (same i)) more)
                ∙ sym (page_same page.items rest more (vec_len page) c.args.limit (next ∙ ap (λ b. cond b (name_in g ∷ []) [] ++ more) none))
                ∙ c.loop-group.invariant.page;
            fits = subst (λ (v : _). vec_len v ≤ c.args.limit) (sym same) c.loop-group.invariant.fits;
            grows = subst (λ (v : _). vec_len old ≤ vec_len v) (sym same) c.loop-group.invariant.grows;
          })
    ]

pub returns-after-loop-group-clause-fits : goal.returns-after-loop-group-clause-fits
returns-after-loop-group-clause-fits c = c.loop-group.invariant.fits

pub returns-after-loop-group-clause-page : goal.returns-after-loop-group-clause-page
returns-after-loop-group-clause-page c =
    let page = c.loop-group.page in
    let gs = c.args.groups.now in
    last_page page.items (needed_listed (map keyed (drop c.loop-group.group-index gs))) (c.args.limit - vec_len page) (ap (λ (l : List Group). needed_listed (map keyed l)) (none_past gs c.loop-group.group-index (let past = c.loop-group-test.false in omega arith)))
    ∙ c.loop-group.invariant.page

pub returns-then-len-limit-clause-page : goal.returns-then-len-limit-clause-page
returns-then-len-limit-clause-page c =
    let page = c.loop-group.page in
    let gs = c.args.groups.now in
    full_page page.items (needed_listed (map keyed (drop c.loop-group.group-index gs))) (vec_len page) c.args.limit (omega (arith, c.len.ensures))
    ∙ c.loop-group.invariant.page
