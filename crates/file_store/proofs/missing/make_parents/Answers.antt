use Rattle.std.proofs.Common.{rules, ◌≡◌, false, Some, None, ap, ◌∙◌}
use Rattle.std.specs.Prelude.{is_some}
use Rattle.file_store.specs.declared.node.Node.TheVariants.{Directory}
use Rattle.file_store.specs.Maps.{found_at, put_at}
use Rattle.file_store.proofs.BetweenLemmas.{IsLast, between, making_goes_on, making_undone}
use Rattle.file_store.proofs.missing.make_parents.Goals as goal

pub returns-then-is_err : goal.returns-then-is_err
returns-then-is_err c =
    let same : found_at c.insert.new.self ≡ found_at c.loop-parent.names = search rules in
    let undone = making_undone (found_at c.args.names.now) (found_at c.loop-parent.names) c.args.name.now c.loop-parent.rest.now c.loop-parent.invariant.1
    (found_at c.remove_parents.new.names) (λ q. c.remove_parents.ensures q ∙ ap (λ f. between c.args.name.now c.loop-parent.rest.now None f q) same) in
    λ t q. undone q t

pub loop-parent-preserved : goal.loop-parent-preserved
loop-parent-preserved c =
    let p = c.in-Some.parent.now in
    let last : IsLast p c.loop-parent.rest.now = c.in-Some.ensures.parents in
    let made : found_at c.insert.new.self ≡ put_at p (Some Directory) (found_at c.loop-parent.names) = search rules in
    let none : is_some (found_at c.loop-parent.names p) ≡ false = search rules in (
      search rules,
      making_goes_on (found_at c.args.names.now) (found_at c.loop-parent.names) c.args.name.now c.loop-parent.rest.now c.loop-parent.invariant.1
          (found_at c.insert.new.self) p last none (λ q. ap (λ f. f q) made),
    )
