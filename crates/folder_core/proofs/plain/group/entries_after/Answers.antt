use Rattle.std.proofs.Common.{◌≡◌, ◌-◌, length, take, drop, sym, ap, ◌∙◌, arith, rules}
use Rattle.std.specs.Prelude.{filter, option_copied}
use Rattle.std.proofs.lemmas.List.{take_all, length-drop}
use Rattle.std.proofs.lemmas.List.Sorted.{IsPartitionPoint-from_clause}
use Rattle.folder_core.specs.declared.announcement.Announcement.{Announcement as Entry}
use Rattle.folder_core.specs.Reads.{is_after}
use Rattle.folder_core.proofs.PlainGroup.{after_of, all_after, is_up_to, partitioned, up_to_down, back_is}
use Rattle.folder_core.proofs.plain.group.entries_after.Goals as goal

pub returns-in_default : goal.returns-in_default
returns-in_default c = sym (all_after c.args.entries.now) ∙ ap (λ o. filter (λ (e : Entry). is_after o e.record.name) c.args.entries.now) (ap option_copied (sym c.in_default.is))

pub returns : goal.returns
returns c =
    let entries = c.args.entries.now in
    let n = c.in-Some.after.now in
    let start = c.partition_point-end.result in
    let from = take (length entries - start) (drop start entries) in
    let first = IsPartitionPoint-from_clause (is_up_to n) entries start c.partition_point-end.ensures.partitioned
    (partitioned (λ _. Unit {0}) (is_up_to n) (λ x y _. up_to_down n x y) entries c.requires (λ x i. tt))
    (λ a r f k. search rules) in
    let whole : from ≡ drop start entries = take_all _ _ (omega (arith, length-drop start entries)) in
    whole ∙ back_is (is_up_to n) entries start c.partition_point-end.ensures.bound first.0 first.1
    ∙ after_of n entries
    ∙ ap (λ o. filter (λ (e : Entry). is_after o e.record.name) entries) (ap option_copied (sym c.in-Some.is))
