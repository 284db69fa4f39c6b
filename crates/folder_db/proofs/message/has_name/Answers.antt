use Rattle.std.proofs.Common.{sym, ap, ◌∙◌, rules}
use Rattle.std.specs.Prelude.{bytes_eq, None, Some, option_copied}
use Rattle.std.proofs.lemmas.List.Sorted.{IsPartitionPoint-from_clause}
use Rattle.folder_db.proofs.Searching.{is_before, named-at, names-partitioned, records-got}
use Rattle.folder_db.proofs.message.has_name.Goals as goal

pub returns-in-Some : goal.returns-in-Some
returns-in-Some c = λ rise.
    let rs = c.args.records.now in
    let n = c.args.name.now in
    let place = c.partition_point-place.result in
    let at = IsPartitionPoint-from_clause (is_before n) rs place c.partition_point-place.ensures.partitioned (names-partitioned n rs rise) (λ a r f k. search rules) in
    c.eq.ensures ∙ ap (λ m. bytes_eq m n) c.name.ensures
    ∙ named-at n rs rise place c.partition_point-place.ensures.bound at (Some c.in-Some.record.now) (sym (ap option_copied c.in-Some.is) ∙ records-got rs place c.get.result (c.get.ensures.lookup.0, c.get.ensures.lookup.1))

pub returns-in-None : goal.returns-in-None
returns-in-None c = λ rise.
    let rs = c.args.records.now in
    let n = c.args.name.now in
    let place = c.partition_point-place.result in
    let at = IsPartitionPoint-from_clause (is_before n) rs place c.partition_point-place.ensures.partitioned (names-partitioned n rs rise) (λ a r f k. search rules) in
    named-at n rs rise place c.partition_point-place.ensures.bound at None (sym (ap option_copied c.in-None.is) ∙ records-got rs place c.get.result (c.get.ensures.lookup.0, c.get.ensures.lookup.1))
