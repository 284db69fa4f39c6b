use Rattle.std.proofs.Common.{ℕ, Some, subst, sym, ◌∙◌}
use Rattle.folder_index.specs.declared.group.Group.{Group}
use Rattle.folder_index.specs.Groups.{IsGroup, totals_in}
use Rattle.folder_index.specs.Chunks.{IsGap, groups_in}
use Rattle.folder_index.proofs.Listed.{Groups}
use Rattle.folder_index.proofs.Promised.{promise_put}
use Rattle.folder_index.proofs.Replaced.{chunked_too, put_there, searchable}
use Rattle.folder_index.proofs.Written.{Sums, are_written, kept_is, none_at, nothing_in, sums_added, unchanged}
use Rattle.folder_index.proofs.groups.add_promised.Goals as goal

pub insert-requires-clause-gap : goal.insert-requires-clause-gap
insert-requires-clause-gap c =
    let me = c.args.me in
    let cs = c.args.names.now in
    let n = c.args.name.now in
    let gs = groups_in cs in
    let first : IsGroup me n c.new-group.result = subst (λ m. IsGroup me m c.new-group.result) c.in_ok-copy.ensures (c.new-group.ensures.group me) in
    let is = c.promise.new.self in
    let group = c.promise.ensures.group me n first in
    subst (λ m. IsGap m c.args.gap cs) (sym group.name) c.requires.gap

pub returns-clause-groups : goal.returns-clause-groups
returns-clause-groups c =
    let me = c.args.me in
    let cs = c.args.names.now in
    let n = c.args.name.now in
    let gs = groups_in cs in
    let first : IsGroup me n c.new-group.result = subst (λ m. IsGroup me m c.new-group.result) c.in_ok-copy.ensures (c.new-group.ensures.group me) in
    let is = c.promise.new.self in
    let group = c.promise.ensures.group me n first in
    let new = groups_in c.insert.new.self in
    let made = put_there n cs c.insert.new.self c.args.gap is (searchable me cs c.args.totals c.requires.groups) c.requires.gap group.name c.in_ok-insert.ensures.placed in
    let none = nothing_in me n is group (c.promise.ensures.kept ∙ c.new-group.ensures.empty) in
    record {
      filled = c.insert.ensures.filled;
      counted = c.insert.ensures.counted;
      are = are_written me gs new c.args.totals c.args.totals c.requires.groups.are made.sorted n is (λ f. 0) group made.at (subst (λ (l : Groups). (f : Group → ℕ) → Sums f (λ f. 0) is gs l) (sym made.set) (sums_added n gs is c.requires.groups.are.ordered made.absent))
          (unchanged c.args.totals (record { files = 0; directories = 0; deletions = 0; needed = 0; others = 0 }) (totals_in me is) none)
          c.requires.groups.are.room;
    }

pub returns-in_err-insert-clause-groups : goal.returns-in_err-insert-clause-groups
returns-in_err-insert-clause-groups c = chunked_too c.args.me c.args.names.now c.insert.new.self c.args.totals c.requires.groups c.in_err-insert.ensures.err c.insert.ensures.filled c.insert.ensures.counted

pub returns-clause-kept : goal.returns-clause-kept
returns-clause-kept c =
    let me = c.args.me in
    let cs = c.args.names.now in
    let n = c.args.name.now in
    let gs = groups_in cs in
    let first : IsGroup me n c.new-group.result = subst (λ m. IsGroup me m c.new-group.result) c.in_ok-copy.ensures (c.new-group.ensures.group me) in
    let is = c.promise.new.self in
    let group = c.promise.ensures.group me n first in
    let new = groups_in c.insert.new.self in
    let made = put_there n cs c.insert.new.self c.args.gap is (searchable me cs c.args.totals c.requires.groups) c.requires.gap group.name c.in_ok-insert.ensures.placed in
    kept_is me gs new c.args.totals c.requires.groups.are made.sorted n is group made.at (c.promise.ensures.kept ∙ c.new-group.ensures.empty ∙ none_at n gs made.absent)

pub returns-clause-promised : goal.returns-clause-promised
returns-clause-promised c =
    let me = c.args.me in
    let cs = c.args.names.now in
    let n = c.args.name.now in
    let gs = groups_in cs in
    let first : IsGroup me n c.new-group.result = subst (λ m. IsGroup me m c.new-group.result) c.in_ok-copy.ensures (c.new-group.ensures.group me) in
    let is = c.promise.new.self in
    let group = c.promise.ensures.group me n first in
    let new = groups_in c.insert.new.self in
    let made = put_there n cs c.insert.new.self c.args.gap is (searchable me cs c.args.totals c.requires.groups) c.requires.gap group.name c.in_ok-insert.ensures.placed in
    promise_put gs new c.requires.groups.are.ordered made.sorted n (Some is) made.at c.in_ok-promise.ensures.promised
