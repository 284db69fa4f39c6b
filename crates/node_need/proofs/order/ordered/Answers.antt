use Rattle.std.proofs.Common.{rules, ◌≡◌, ◌∙◌, ◌++◌, ◌∷◌, [], List, append_assoc, ap, arith, refl, subst, sym}
use Rattle.std.specs.List.{AllByRecursion}
use Rattle.std.specs.Prelude.{reverse}
use Rattle.std.proofs.lemmas.List.{append-nil, nil_from_length}
use Rattle.node_need.specs.declared.order.PullOrder.{PullOrder}
use Rattle.node_need.specs.declared.wanted.Wanted.{Wanted}
use Rattle.node_need.specs.Orders.{IsGroup, IsOrderOf, all_of}
use Rattle.node_need.proofs.OrderLemmas.{adds_other_at, begins, ends_groups, ends_live}
use Rattle.node_need.proofs.order.ordered.Goals as goal

pub loop-one-init : goal.loop-one-init
loop-one-init c = record {
  sorting = begins c.new-live.result.items c.new-files.result.items c.new-deleted.result.items c.new-live.ensures.items c.new-files.ensures.items c.new-deleted.ensures.items;
  divided = search rules;
}

pub loop-one-preserved : goal.loop-one-preserved
loop-one-preserved c =
    let step : c.loop-one.one-iterator.rest.items ≡ c.in-Some.one ∷ c.next.new.self.rest.items = search rules in
    let first : c.push-else-is_file.new.self.items ≡ c.loop-one.live.items ++ c.replace.result ∷ [] = search rules in
    let second : c.push-else-is_file-2.new.self.items ≡ c.push-else-is_file.new.self.items ++ c.in_ok-alone.field-0 ∷ [] = search rules in
    let none : c.replace.new.dest.items ≡ [] = search rules in
    let files : c.replace.result.items ≡ c.loop-one.files.items = search rules in
    let one : c.in_ok-alone.field-0.items ≡ c.in-Some.one ∷ [] = search rules in
    record {
      sorting =
          adds_other_at c.loop-one.yielded c.loop-one.live.items c.loop-one.files.items c.loop-one.deleted.items c.loop-one.invariant.sorting
          c.in-Some.one c.replace.result c.in_ok-alone.field-0 (search rules) files one
          c.push-else-is_file-2.new.self.items c.replace.new.dest.items (second ∙ ap (λ gs. gs ++ c.in_ok-alone.field-0 ∷ []) first) none;
      divided =
          c.loop-one.invariant.divided ∙ ap (λ xs. c.loop-one.yielded ++ xs) step
          ∙ sym (append_assoc c.loop-one.yielded (c.in-Some.one ∷ []) c.next.new.self.rest.items);
    }

pub returns : goal.returns
returns c =
    let s = c.loop-one.invariant.sorting in
    let o : PullOrder = record { live = c.push-2.new.self; deleted = c.reverse.new.self } in
    let none : c.loop-one.one-iterator.rest.items ≡ [] =
    nil_from_length c.loop-one.one-iterator.rest.items (let len = c.loop-one.one-iterator.rest.ok.0 in let none = c.in-None.ensures.steps.0 in omega arith) in
    let pushed : c.push-2.new.self.items ≡ c.loop-one.live.items ++ c.loop-one.files ∷ [] = search rules in
    let all = c.loop-one.invariant.divided ∙ ap (λ (xs : List Wanted). c.loop-one.yielded ++ xs) none ∙ append-nil c.loop-one.yielded in
    subst (λ (ws : List Wanted). IsOrderOf ws o) (sym all)
    (record {
      live = ap all_of pushed ∙ ends_live c.loop-one.yielded c.loop-one.live.items c.loop-one.files.items c.loop-one.deleted.items s c.loop-one.files refl;
      groups = subst (AllByRecursion IsGroup) (sym pushed) (ends_groups c.loop-one.yielded c.loop-one.live.items c.loop-one.files.items c.loop-one.deleted.items s c.loop-one.files refl);
      deleted = c.reverse.ensures.items ∙ ap reverse s.gone;
    })
