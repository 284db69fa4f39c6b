use Rattle.std.proofs.Common.{◌≡◌, ◌-◌, false, length, take, drop, sym, ap, subst, ◌∙◌, arith, rules}
use Rattle.std.specs.Prelude.{filter, not}
use Rattle.std.proofs.lemmas.List.{take_all, length-drop}
use Rattle.std.proofs.lemmas.List.Sorted.{IsPartitionPoint-from_clause}
use Rattle.folder_core.specs.Plain.{Rises}
use Rattle.std.proofs.lemmas.Bool.{not-true}
use Rattle.folder_core.proofs.ListFilters.{filter_filter}
use Rattle.folder_core.proofs.ListTests.{of_filter, In}
use Rattle.folder_core.proofs.PlainGroup.{is_before, is_named, partitioned, before_down, named_down, drop_rises, prefix_passes, back_is, named_is_late}
use Rattle.folder_core.proofs.plain.group.entries_of.Goals as goal

pub returns : goal.returns
returns c =
    let entries = c.args.entries.now in
    let n = c.args.name.now in
    let start = c.partition_point-start.result in
    let from = take (length entries - start) (drop start entries) in
    let first = IsPartitionPoint-from_clause (is_before n) entries start c.partition_point-start.ensures.partitioned
    (partitioned (λ _. Unit {0}) (is_before n) (λ x y _. before_down n x y) entries c.requires (λ x i. tt))
    (λ a r f k. search rules) in
    let whole : from ≡ drop start entries = take_all _ _ (omega (arith, length-drop start entries)) in
    let late : from ≡ filter (λ e. not (is_before n e)) entries =
    whole ∙ back_is (is_before n) entries start c.partition_point-start.ensures.bound first.0 first.1 in
    ap (λ k. take k from) c.count_of.ensures
    ∙ prefix_passes (is_named n) from (partitioned (λ x. is_before n x ≡ false) (is_named n) (λ x y. named_down n x y) from
    (subst Rises (sym whole) (drop_rises start entries c.requires))
    (λ x i. not-true _ (of_filter (λ e. not (is_before n e)) entries x (subst (In x) late i)).1))
    ∙ ap (filter (is_named n)) late
    ∙ filter_filter (λ e. not (is_before n e)) (is_named n) (is_named n) entries (named_is_late n)
