use Rattle.std.proofs.Common.{◌≡◌, ℕ, List, None, Some, refl, subst, sym, ap, ◌∙◌, arith}
use Rattle.std.specs.BTreeMap.{is_at}
use Rattle.std.specs.Map.{lookup}
use Rattle.std.specs.Prelude.{filter, length, not}
use Rattle.std.specs.Vec.{with_item}
use Rattle.sync_record.specs.Devices.{bytes_cmp}
use Rattle.folder_core.specs.declared.announcement.Announcement.{Announcement as Entry}
use Rattle.folder_core.specs.PlainReads.{is_from}
use Rattle.folder_index.specs.declared.group.Group.{Group}
use Rattle.folder_index.specs.Groups.{entries_in}
use Rattle.folder_index.specs.Chunks.{IsAt, groups_in}
use Rattle.folder_index.proofs.Counted.{no_more}
use Rattle.folder_index.proofs.Chunked.{absent_at, with_chunk}
use Rattle.folder_index.proofs.Replaced.{counted_written, found_there, searchable, written}
use Rattle.folder_index.proofs.Listed.{Groups}
use Rattle.folder_index.proofs.Promised.{promise_of, promises_kept}
use Rattle.folder_index.proofs.Written.{Sums, absent_is, are_written, found_at, none_at, nothing_at, room_at, sums_set, taken_is}
use Rattle.folder_index.proofs.groups.clear_group.Goals as goal

pub clear_counted-requires-clause-group : goal.clear_counted-requires-clause-group
clear_counted-requires-clause-group c =
    let cs = c.args.names.now in
    let n = c.args.name.now in
    let gs = groups_in cs in
    let v = c.index_mut.result.now in
    let was = c.index_mut-in-Ok.result.now in
    let spot = c.in-Ok.spot in
    let srch = searchable c.args.me cs c.args.totals c.requires in
    let a : IsAt n spot cs = subst (λ m. IsAt m spot cs) c.as_str.ensures.value c.in-Ok.ensures in
    let found = found_there n cs srch spot a v was c.index_mut.ensures.value c.index_mut-in-Ok.ensures.value in
    c.requires.are.groups n was found

pub clear_counted-requires-clause-room : goal.clear_counted-requires-clause-room
clear_counted-requires-clause-room c =
    let cs = c.args.names.now in
    let n = c.args.name.now in
    let gs = groups_in cs in
    let v = c.index_mut.result.now in
    let was = c.index_mut-in-Ok.result.now in
    let spot = c.in-Ok.spot in
    let srch = searchable c.args.me cs c.args.totals c.requires in
    let a : IsAt n spot cs = subst (λ m. IsAt m spot cs) c.as_str.ensures.value c.in-Ok.ensures in
    let found = found_there n cs srch spot a v was c.index_mut.ensures.value c.index_mut-in-Ok.ensures.value in
    room_at c.args.me gs c.args.totals c.requires.are (omega (arith, c.requires.counted.all, c.requires.counted.few)) n was found

pub returns-in-Ok-clause-groups : goal.returns-in-Ok-clause-groups
returns-in-Ok-clause-groups c =
    let cs = c.args.names.now in
    let n = c.args.name.now in
    let gs = groups_in cs in
    let v = c.index_mut.result.now in
    let was = c.index_mut-in-Ok.result.now in
    let spot = c.in-Ok.spot in
    let srch = searchable c.args.me cs c.args.totals c.requires in
    let a : IsAt n spot cs = subst (λ m. IsAt m spot cs) c.as_str.ensures.value c.in-Ok.ensures in
    let found = found_there n cs srch spot a v was c.index_mut.ensures.value c.index_mut-in-Ok.ensures.value in
    let is = c.clear_counted.new.self in
    let new = groups_in (with_chunk cs spot.chunk (with_item v spot.place is)) in
    let group = c.clear_counted.ensures.group in
    let write = written n cs srch spot a v was c.index_mut.ensures.value c.index_mut-in-Ok.ensures.value is group.name in
    record {
      filled = write.filled;
      counted = counted_written n cs was is write c.requires.counted refl;
      are = are_written c.args.me gs new c.args.totals c.clear_counted.result c.requires.are write.sorted n is
          (λ f. f was) group write.at
          (subst (λ (l : Groups). (f : Group → ℕ) → Sums f (λ f. f was) is gs l) (sym write.set) (sums_set n gs was is found))
          c.clear_counted.ensures.totals
          (let a = c.clear_counted.ensures.totals.others in let b = no_more c.args.me c.args.device (entries_in was) in let e = ap (λ (es : List Entry). length (filter (λ e. not (is_from c.args.me e)) es)) c.clear_counted.ensures.taken in let r = c.requires.are.room in omega arith);
    }

pub returns-in-Ok-clause-taken : goal.returns-in-Ok-clause-taken
returns-in-Ok-clause-taken c =
    let cs = c.args.names.now in
    let n = c.args.name.now in
    let gs = groups_in cs in
    let v = c.index_mut.result.now in
    let was = c.index_mut-in-Ok.result.now in
    let spot = c.in-Ok.spot in
    let srch = searchable c.args.me cs c.args.totals c.requires in
    let a : IsAt n spot cs = subst (λ m. IsAt m spot cs) c.as_str.ensures.value c.in-Ok.ensures in
    let found = found_there n cs srch spot a v was c.index_mut.ensures.value c.index_mut-in-Ok.ensures.value in
    let is = c.clear_counted.new.self in
    let new = groups_in (with_chunk cs spot.chunk (with_item v spot.place is)) in
    let group = c.clear_counted.ensures.group in
    let write = written n cs srch spot a v was c.index_mut.ensures.value c.index_mut-in-Ok.ensures.value is group.name in
    taken_is c.args.me gs new c.args.totals c.requires.are write.sorted n is group write.at
    c.args.device (c.clear_counted.ensures.taken ∙ ap (filter (λ e. not (is_from c.args.device e))) (found_at n gs was found))

pub returns-in-Ok-clause-promised : goal.returns-in-Ok-clause-promised
returns-in-Ok-clause-promised c =
    let cs = c.args.names.now in
    let n = c.args.name.now in
    let gs = groups_in cs in
    let v = c.index_mut.result.now in
    let was = c.index_mut-in-Ok.result.now in
    let spot = c.in-Ok.spot in
    let srch = searchable c.args.me cs c.args.totals c.requires in
    let a : IsAt n spot cs = subst (λ m. IsAt m spot cs) c.as_str.ensures.value c.in-Ok.ensures in
    let found = found_there n cs srch spot a v was c.index_mut.ensures.value c.index_mut-in-Ok.ensures.value in
    let is = c.clear_counted.new.self in
    let new = groups_in (with_chunk cs spot.chunk (with_item v spot.place is)) in
    let group = c.clear_counted.ensures.group in
    let write = written n cs srch spot a v was c.index_mut.ensures.value c.index_mut-in-Ok.ensures.value is group.name in
    promises_kept gs new c.requires.are.ordered write.sorted n (Some is) write.at (c.clear_counted.ensures.promised ∙ sym (ap promise_of found))

pub returns-in-Err-clause-taken : goal.returns-in-Err-clause-taken
returns-in-Err-clause-taken c =
    let cs = c.args.names.now in
    let n = c.args.name.now in
    let gs = groups_in cs in
    let none : lookup (is_at (bytes_cmp n)) gs ≡ None = subst (λ m. lookup (is_at (bytes_cmp m)) gs ≡ None) c.as_str.ensures.value (absent_at c.as_str.result.now cs c.in-Err.field-0 c.in-Err.ensures) in
    absent_is c.args.me gs gs c.args.totals c.requires.are c.requires.are.ordered n (nothing_at n gs none) c.args.device (none_at n gs none)
