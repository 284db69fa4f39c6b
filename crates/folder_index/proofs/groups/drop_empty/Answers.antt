use Rattle.std.proofs.Common.{None, sym, ap, subst, ◌∙◌}
use Rattle.std.specs.BTreeMap.{is_at}
use Rattle.sync_record.specs.Devices.{bytes_cmp}
use Rattle.folder_index.specs.Chunks.{groups_in}
use Rattle.folder_index.proofs.Listed.{Groups, Sorted}
use Rattle.folder_index.proofs.Replaced.{taken_has, taken_sorted}
use Rattle.folder_index.proofs.Written.{HasAt, are_dropped, dropped_is, found_at, nothing_in, sums_removed}
use Rattle.folder_index.proofs.Found.{empty_group}
use Rattle.folder_index.proofs.Promised.{promise_of, promises_kept}
use Rattle.folder_index.proofs.groups.drop_empty.Goals as goal

pub returns-then-is_empty-clause-groups : goal.returns-then-is_empty-clause-groups
returns-then-is_empty-clause-groups c =
    let n = c.args.name.now in
    let gs = (groups_in c.args.names.now) in
    let e = empty_group _ c.get.ensures.value c.is_empty.result c.is_empty.ensures c.if-is_empty.true in
    record {
      filled = c.remove.ensures.filled;
      counted = c.remove.ensures.counted;
      are = are_dropped c.args.me gs (groups_in c.remove.new.self) c.args.totals c.requires.are (subst Sorted (sym c.remove.ensures.taken) (taken_sorted (is_at (bytes_cmp n)) gs c.requires.are.ordered)) n e.0 e.1 (subst (λ (l : Groups). HasAt n None gs l) (sym c.remove.ensures.taken) (taken_has n gs c.requires.are.ordered)) c.remove.ensures.taken
          (sums_removed n gs e.0 e.1) (nothing_in c.args.me n e.0 (c.requires.are.groups n e.0 e.1) e.2);
    }

pub returns-then-is_empty-clause-kept : goal.returns-then-is_empty-clause-kept
returns-then-is_empty-clause-kept c =
    let n = c.args.name.now in
    let gs = (groups_in c.args.names.now) in
    let e = empty_group _ c.get.ensures.value c.is_empty.result c.is_empty.ensures c.if-is_empty.true in
    dropped_is c.args.me gs (groups_in c.remove.new.self) c.args.totals c.requires.are (subst Sorted (sym c.remove.ensures.taken) (taken_sorted (is_at (bytes_cmp n)) gs c.requires.are.ordered)) n (subst (λ (l : Groups). HasAt n None gs l) (sym c.remove.ensures.taken) (taken_has n gs c.requires.are.ordered)) (sym e.2 ∙ found_at n gs e.0 e.1)

pub returns-then-is_empty-clause-promised : goal.returns-then-is_empty-clause-promised
returns-then-is_empty-clause-promised c =
    let n = c.args.name.now in
    let gs = (groups_in c.args.names.now) in
    let e = empty_group _ c.get.ensures.value c.is_empty.result c.is_empty.ensures c.if-is_empty.true in
    promises_kept gs (groups_in c.remove.new.self) c.requires.are.ordered (subst Sorted (sym c.remove.ensures.taken) (taken_sorted (is_at (bytes_cmp n)) gs c.requires.are.ordered)) n None (subst (λ (l : Groups). HasAt n None gs l) (sym c.remove.ensures.taken) (taken_has n gs c.requires.are.ordered)) (sym (ap promise_of e.1 ∙ e.3))
