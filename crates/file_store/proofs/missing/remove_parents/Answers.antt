use Rattle.std.proofs.Common.{rules, ◌<◌, ◌≤◌, length, ap, ◌∙◌, None, cond}
use Rattle.std.specs.Prelude.{bytes_eq, ◌&&◌, not}
use Rattle.file_store.specs.Maps.{found_at}
use Rattle.file_store.specs.Names.{is_parent}
use Rattle.file_store.proofs.BetweenLemmas.{IsLast, between_up, reach_up, reach_down, reached}
use Rattle.file_store.proofs.missing.remove_parents.Goals as goal

pub loop-rest-preserved : goal.loop-rest-preserved
loop-rest-preserved c =
    let n = c.args.name.now in
    let p = c.in-Some.parent.now in
    let r = c.loop-rest.rest.now in
    let k = c.loop-rest.invariant in
    let last : IsLast p r = c.in-Some.ensures.parents in
    let below : length c.args.top.now < length r = search rules in (
      search rules,
      reach_up p r last n k.1,
      reach_down p r last c.args.top.now k.2 below,
      λ q. ap (λ f. f q) c.remove.ensures.left ∙ ap (λ o. cond (bytes_eq p q) None o) (k.3 q)
          ∙ between_up n None (found_at c.args.names.now) p r last k.1 q,
    )

pub returns : goal.returns
returns c =
    let k = c.loop-rest.invariant in
    let low : length c.loop-rest.rest.now ≤ length c.args.top.now = search rules in
    λ q. k.3 q ∙ ap (λ t. cond (is_parent q c.args.name.now && not (is_parent q t)) None (found_at c.args.names.now q))
    (reached c.args.top.now c.loop-rest.rest.now k.2 low)
