use Rattle.std.proofs.Common.{◌≡◌, ℕ, None, Some, refl, subst, sym, ap, ◌∙◌}
use Rattle.std.specs.BTreeMap.{is_at}
use Rattle.std.specs.Map.{lookup}
use Rattle.std.specs.Vec.{with_item}
use Rattle.sync_record.specs.Devices.{bytes_cmp}
use Rattle.folder_index.specs.declared.group.Group.{Group}
use Rattle.folder_index.specs.Groups.{totals_in}
use Rattle.folder_index.specs.Chunks.{IsAt, groups_in}
use Rattle.folder_index.proofs.Chunked.{absent_at, with_chunk}
use Rattle.folder_index.proofs.Replaced.{counted_written, found_there, searchable, written}
use Rattle.folder_index.proofs.Listed.{Groups}
use Rattle.folder_index.proofs.Promised.{none_taken, promise_of, promise_taken}
use Rattle.folder_index.proofs.Written.{Sums, are_written, found_at, kept_is, same_totals, sums_set, unchanged}
use Rattle.folder_index.proofs.groups.take_back.Goals as goal

pub returns-in-Ok-clause-groups : goal.returns-in-Ok-clause-groups
returns-in-Ok-clause-groups c =
    let cs = c.args.names.now in
    let n = c.args.name.now in
    let gs = groups_in cs in
    let v = c.index_mut.result.now in
    let was = c.index_mut-in-Ok.result.now in
    let spot = c.in-Ok.spot in
    let srch = searchable c.args.me cs c.args.totals c.requires in
    let a : IsAt n spot cs = subst (λ m. IsAt m spot cs) c.as_str.ensures.value c.in-Ok.ensures in
    let found = found_there n cs srch spot a v was c.index_mut.ensures.value c.index_mut-in-Ok.ensures.value in
    let is = c.take_back.new.self in
    let new = groups_in (with_chunk cs spot.chunk (with_item v spot.place is)) in
    let group = c.take_back.ensures.group c.args.me n (c.requires.are.groups n was found) in
    let write = written n cs srch spot a v was c.index_mut.ensures.value c.index_mut-in-Ok.ensures.value is group.name in
    record {
      filled = write.filled;
      counted = counted_written n cs was is write c.requires.counted refl;
      are = are_written c.args.me gs new c.args.totals c.args.totals c.requires.are write.sorted n is
          (λ f. f was) group write.at
          (subst (λ (l : Groups). (f : Group → ℕ) → Sums f (λ f. f was) is gs l) (sym write.set) (sums_set n gs was is found))
          (unchanged c.args.totals (totals_in c.args.me was) (totals_in c.args.me is) (same_totals c.args.me n was is (c.requires.are.groups n was found) group c.take_back.ensures.kept))
          c.requires.are.room;
    }

pub returns-in-Ok-clause-kept : goal.returns-in-Ok-clause-kept
returns-in-Ok-clause-kept c =
    let cs = c.args.names.now in
    let n = c.args.name.now in
    let gs = groups_in cs in
    let v = c.index_mut.result.now in
    let was = c.index_mut-in-Ok.result.now in
    let spot = c.in-Ok.spot in
    let srch = searchable c.args.me cs c.args.totals c.requires in
    let a : IsAt n spot cs = subst (λ m. IsAt m spot cs) c.as_str.ensures.value c.in-Ok.ensures in
    let found = found_there n cs srch spot a v was c.index_mut.ensures.value c.index_mut-in-Ok.ensures.value in
    let is = c.take_back.new.self in
    let new = groups_in (with_chunk cs spot.chunk (with_item v spot.place is)) in
    let group = c.take_back.ensures.group c.args.me n (c.requires.are.groups n was found) in
    let write = written n cs srch spot a v was c.index_mut.ensures.value c.index_mut-in-Ok.ensures.value is group.name in
    kept_is c.args.me gs new c.args.totals c.requires.are write.sorted n is group write.at (c.take_back.ensures.kept ∙ found_at n gs was found)

pub returns-in-Ok-clause-promised : goal.returns-in-Ok-clause-promised
returns-in-Ok-clause-promised c =
    let cs = c.args.names.now in
    let n = c.args.name.now in
    let gs = groups_in cs in
    let v = c.index_mut.result.now in
    let was = c.index_mut-in-Ok.result.now in
    let spot = c.in-Ok.spot in
    let srch = searchable c.args.me cs c.args.totals c.requires in
    let a : IsAt n spot cs = subst (λ m. IsAt m spot cs) c.as_str.ensures.value c.in-Ok.ensures in
    let found = found_there n cs srch spot a v was c.index_mut.ensures.value c.index_mut-in-Ok.ensures.value in
    let is = c.take_back.new.self in
    let new = groups_in (with_chunk cs spot.chunk (with_item v spot.place is)) in
    let group = c.take_back.ensures.group c.args.me n (c.requires.are.groups n was found) in
    let write = written n cs srch spot a v was c.index_mut.ensures.value c.index_mut-in-Ok.ensures.value is group.name in
    promise_taken gs new c.requires.are.ordered write.sorted n (Some is) write.at c.take_back.ensures.promised

pub returns-in_default-clause-promised : goal.returns-in_default-clause-promised
returns-in_default-clause-promised c =
    let cs = c.args.names.now in
    let n = c.args.name.now in
    let gs = groups_in cs in
    let none : lookup (is_at (bytes_cmp n)) gs ≡ None = subst (λ m. lookup (is_at (bytes_cmp m)) gs ≡ None) c.as_str.ensures.value (absent_at c.as_str.result.now cs c.in_default.field-0 c.in_default.ensures) in
    none_taken gs c.requires.are.ordered n (ap promise_of none)
