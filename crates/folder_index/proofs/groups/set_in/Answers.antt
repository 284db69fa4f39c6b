use Rattle.std.proofs.Common.{◌≡◌, ℕ, true, false, List, None, Some, map, refl, subst, sym, ap, ◌∙◌, arith}
use Rattle.std.specs.BTreeMap.{is_at}
use Rattle.std.specs.FinMap.{put}
use Rattle.std.specs.FinSet.{remove}
use Rattle.std.specs.Map.{lookup}
use Rattle.std.specs.Prelude.{bytes_eq, cond}
use Rattle.std.specs.Vec.{with_item}
use Rattle.std.proofs.lemmas.Bool.{and_from, true≢false}
use Rattle.sync_record.specs.Devices.{bytes_cmp}
use Rattle.folder_core.specs.declared.announcement.Announcement.{Announcement as Entry}
use Rattle.folder_core.specs.Announced.{key, key_cmp}
use Rattle.folder_core.specs.Plain.{filed}
use Rattle.folder_core.proofs.ListTests.{alike_bytes}
use Rattle.folder_index.specs.declared.group.Group.{Group}
use Rattle.folder_index.specs.Groups.{promised_in, totals_in}
use Rattle.folder_index.specs.Chunks.{IsAt, groups_in}
use Rattle.folder_index.proofs.Chunked.{absent_at, with_chunk}
use Rattle.folder_index.proofs.Replaced.{counted_written, found_there, searchable, written}
use Rattle.folder_index.proofs.Listed.{Groups}
use Rattle.folder_index.proofs.Results.{always_ok, ok_and, on_err, on_ok}
use Rattle.folder_index.proofs.Promised.{none_taken, promise_of, promised_at, promises_kept, promises_set}
use Rattle.folder_index.proofs.Spared.{not_spare, spare_kept, spare_of}
use Rattle.folder_index.proofs.Written.{Sums, are_written, found_at, kept_is, placed_is, room_at, room_left, same_totals, sums_set, unchanged}
use Rattle.folder_index.proofs.groups.set_in.Goals as goal

pub set_counted-requires-clause-group : goal.set_counted-requires-clause-group
set_counted-requires-clause-group c =
    let cs = c.args.names.now in
    let n = c.args.announced.name in
    let gs = groups_in cs in
    let v = c.index_mut.result.now in
    let was = c.index_mut-in-Ok.result.now in
    let spot = c.in-Ok.spot in
    let srch = searchable c.args.me cs c.args.totals c.requires.groups in
    let a : IsAt n spot cs = subst (λ m. IsAt m spot cs) (c.as_str.ensures.value ∙ c.name.ensures) c.in-Ok.ensures in
    let found = found_there n cs srch spot a v was c.index_mut.ensures.value c.index_mut-in-Ok.ensures.value in
    c.requires.groups.are.groups n was found

pub set_counted-requires-clause-room : goal.set_counted-requires-clause-room
set_counted-requires-clause-room c =
    let cs = c.args.names.now in
    let n = c.args.announced.name in
    let gs = groups_in cs in
    let v = c.index_mut.result.now in
    let was = c.index_mut-in-Ok.result.now in
    let spot = c.in-Ok.spot in
    let srch = searchable c.args.me cs c.args.totals c.requires.groups in
    let a : IsAt n spot cs = subst (λ m. IsAt m spot cs) (c.as_str.ensures.value ∙ c.name.ensures) c.in-Ok.ensures in
    let found = found_there n cs srch spot a v was c.index_mut.ensures.value c.index_mut-in-Ok.ensures.value in
    room_at c.args.me gs c.args.totals c.requires.groups.are (omega (arith, c.requires.groups.counted.all, c.requires.groups.counted.few)) n was found

pub returns-in-Ok-clause-groups : goal.returns-in-Ok-clause-groups
returns-in-Ok-clause-groups c =
    let cs = c.args.names.now in
    let n = c.args.announced.name in
    let gs = groups_in cs in
    let v = c.index_mut.result.now in
    let was = c.index_mut-in-Ok.result.now in
    let spot = c.in-Ok.spot in
    let srch = searchable c.args.me cs c.args.totals c.requires.groups in
    let a : IsAt n spot cs = subst (λ m. IsAt m spot cs) (c.as_str.ensures.value ∙ c.name.ensures) c.in-Ok.ensures in
    let found = found_there n cs srch spot a v was c.index_mut.ensures.value c.index_mut-in-Ok.ensures.value in
    let is = c.set_counted.new.self in
    let new = groups_in (with_chunk cs spot.chunk (with_item v spot.place is)) in
    let group = c.set_counted.ensures.group in
    let write = written n cs srch spot a v was c.index_mut.ensures.value c.index_mut-in-Ok.ensures.value is group.name in
    ok_and c.set_counted.result
    (λ placed u changed. record {
      filled = write.filled;
      counted = counted_written n cs was is write c.requires.groups.counted refl;
      are = are_written c.args.me gs new c.args.totals u c.requires.groups.are write.sorted n is
          (λ f. f was) group write.at (subst (λ (l : Groups). (f : Group → ℕ) → Sums f (λ f. f was) is gs l) (sym write.set) (sums_set n gs was is found))
          changed (room_left c.args.me c.args.device c.args.announced was is c.args.totals u placed changed.others c.requires.groups.are.room c.requires.others);
    })
    c.set_counted.ensures.placed c.set_counted.ensures.totals

pub returns-in-Ok-clause-placed : goal.returns-in-Ok-clause-placed
returns-in-Ok-clause-placed c =
    let cs = c.args.names.now in
    let n = c.args.announced.name in
    let gs = groups_in cs in
    let v = c.index_mut.result.now in
    let was = c.index_mut-in-Ok.result.now in
    let spot = c.in-Ok.spot in
    let srch = searchable c.args.me cs c.args.totals c.requires.groups in
    let a : IsAt n spot cs = subst (λ m. IsAt m spot cs) (c.as_str.ensures.value ∙ c.name.ensures) c.in-Ok.ensures in
    let found = found_there n cs srch spot a v was c.index_mut.ensures.value c.index_mut-in-Ok.ensures.value in
    let is = c.set_counted.new.self in
    let new = groups_in (with_chunk cs spot.chunk (with_item v spot.place is)) in
    let group = c.set_counted.ensures.group in
    let write = written n cs srch spot a v was c.index_mut.ensures.value c.index_mut-in-Ok.ensures.value is group.name in
    on_ok c.set_counted.result
    (λ placed. placed_is c.args.me gs new c.args.totals c.requires.groups.are write.sorted n is group write.at
    c.args.device c.args.announced (placed ∙ ap (λ (es : List Entry). put key_cmp (key n c.args.device) c.args.announced (map filed es)) (found_at n gs was found)))
    c.set_counted.ensures.placed

pub returns-in-Ok-clause-groups_stay : goal.returns-in-Ok-clause-groups_stay
returns-in-Ok-clause-groups_stay c =
    let cs = c.args.names.now in
    let n = c.args.announced.name in
    let gs = groups_in cs in
    let v = c.index_mut.result.now in
    let was = c.index_mut-in-Ok.result.now in
    let spot = c.in-Ok.spot in
    let srch = searchable c.args.me cs c.args.totals c.requires.groups in
    let a : IsAt n spot cs = subst (λ m. IsAt m spot cs) (c.as_str.ensures.value ∙ c.name.ensures) c.in-Ok.ensures in
    let found = found_there n cs srch spot a v was c.index_mut.ensures.value c.index_mut-in-Ok.ensures.value in
    let is = c.set_counted.new.self in
    let new = groups_in (with_chunk cs spot.chunk (with_item v spot.place is)) in
    let group = c.set_counted.ensures.group in
    let write = written n cs srch spot a v was c.index_mut.ensures.value c.index_mut-in-Ok.ensures.value is group.name in
    on_err c.set_counted.result
    (λ kept. record {
      filled = write.filled;
      counted = counted_written n cs was is write c.requires.groups.counted refl;
      are = are_written c.args.me gs new c.args.totals c.args.totals c.requires.groups.are write.sorted n is
          (λ f. f was) group write.at (subst (λ (l : Groups). (f : Group → ℕ) → Sums f (λ f. f was) is gs l) (sym write.set) (sums_set n gs was is found))
          (unchanged c.args.totals (totals_in c.args.me was) (totals_in c.args.me is) (same_totals c.args.me n was is (c.requires.groups.are.groups n was found) group kept))
          c.requires.groups.are.room;
    })
    c.set_counted.ensures.kept

pub returns-in-Ok-clause-kept : goal.returns-in-Ok-clause-kept
returns-in-Ok-clause-kept c =
    let cs = c.args.names.now in
    let n = c.args.announced.name in
    let gs = groups_in cs in
    let v = c.index_mut.result.now in
    let was = c.index_mut-in-Ok.result.now in
    let spot = c.in-Ok.spot in
    let srch = searchable c.args.me cs c.args.totals c.requires.groups in
    let a : IsAt n spot cs = subst (λ m. IsAt m spot cs) (c.as_str.ensures.value ∙ c.name.ensures) c.in-Ok.ensures in
    let found = found_there n cs srch spot a v was c.index_mut.ensures.value c.index_mut-in-Ok.ensures.value in
    let is = c.set_counted.new.self in
    let new = groups_in (with_chunk cs spot.chunk (with_item v spot.place is)) in
    let group = c.set_counted.ensures.group in
    let write = written n cs srch spot a v was c.index_mut.ensures.value c.index_mut-in-Ok.ensures.value is group.name in
    on_err c.set_counted.result
    (λ kept. kept_is c.args.me gs new c.args.totals c.requires.groups.are write.sorted n is group write.at
    (kept ∙ found_at n gs was found))
    c.set_counted.ensures.kept

pub returns-in-Ok-clause-promised : goal.returns-in-Ok-clause-promised
returns-in-Ok-clause-promised c =
    let cs = c.args.names.now in
    let n = c.args.announced.name in
    let gs = groups_in cs in
    let v = c.index_mut.result.now in
    let was = c.index_mut-in-Ok.result.now in
    let spot = c.in-Ok.spot in
    let srch = searchable c.args.me cs c.args.totals c.requires.groups in
    let a : IsAt n spot cs = subst (λ m. IsAt m spot cs) (c.as_str.ensures.value ∙ c.name.ensures) c.in-Ok.ensures in
    let found = found_there n cs srch spot a v was c.index_mut.ensures.value c.index_mut-in-Ok.ensures.value in
    let is = c.set_counted.new.self in
    let new = groups_in (with_chunk cs spot.chunk (with_item v spot.place is)) in
    let group = c.set_counted.ensures.group in
    let write = written n cs srch spot a v was c.index_mut.ensures.value c.index_mut-in-Ok.ensures.value is group.name in
    on_ok c.set_counted.result (λ made. promises_set gs new c.requires.groups.are.ordered write.sorted n (Some is) write.at was is (bytes_eq c.args.device c.args.me) found refl made) c.set_counted.ensures.promised

pub returns-in-Ok-clause-promises_stay : goal.returns-in-Ok-clause-promises_stay
returns-in-Ok-clause-promises_stay c =
    let cs = c.args.names.now in
    let n = c.args.announced.name in
    let gs = groups_in cs in
    let v = c.index_mut.result.now in
    let was = c.index_mut-in-Ok.result.now in
    let spot = c.in-Ok.spot in
    let srch = searchable c.args.me cs c.args.totals c.requires.groups in
    let a : IsAt n spot cs = subst (λ m. IsAt m spot cs) (c.as_str.ensures.value ∙ c.name.ensures) c.in-Ok.ensures in
    let found = found_there n cs srch spot a v was c.index_mut.ensures.value c.index_mut-in-Ok.ensures.value in
    let is = c.set_counted.new.self in
    let new = groups_in (with_chunk cs spot.chunk (with_item v spot.place is)) in
    let group = c.set_counted.ensures.group in
    let write = written n cs srch spot a v was c.index_mut.ensures.value c.index_mut-in-Ok.ensures.value is group.name in
    on_err c.set_counted.result (λ same. promises_kept gs new c.requires.groups.are.ordered write.sorted n (Some is) write.at (same ∙ sym (ap promise_of found))) c.set_counted.ensures.promise_stays

pub returns-in-Ok-clause-fits : goal.returns-in-Ok-clause-fits
returns-in-Ok-clause-fits c = λ own promised.
    let cs = c.args.names.now in
    let n = c.args.announced.name in
    let gs = groups_in cs in
    let v = c.index_mut.result.now in
    let was = c.index_mut-in-Ok.result.now in
    let spot = c.in-Ok.spot in
    let srch = searchable c.args.me cs c.args.totals c.requires.groups in
    let a : IsAt n spot cs = subst (λ m. IsAt m spot cs) (c.as_str.ensures.value ∙ c.name.ensures) c.in-Ok.ensures in
    let found = found_there n cs srch spot a v was c.index_mut.ensures.value c.index_mut-in-Ok.ensures.value in
    c.set_counted.ensures.fits (and_from was.is_promised (bytes_eq c.args.device c.args.me) (sym (ap promise_of found) ∙ sym (promised_at gs c.requires.groups.are.ordered n) ∙ promised) (alike_bytes c.args.device c.args.me own))

pub returns-in-Ok-clause-roomy : goal.returns-in-Ok-clause-roomy
returns-in-Ok-clause-roomy c = λ spare.
    let cs = c.args.names.now in
    let n = c.args.announced.name in
    let gs = groups_in cs in
    let v = c.index_mut.result.now in
    let was = c.index_mut-in-Ok.result.now in
    let spot = c.in-Ok.spot in
    let srch = searchable c.args.me cs c.args.totals c.requires.groups in
    let a : IsAt n spot cs = subst (λ m. IsAt m spot cs) (c.as_str.ensures.value ∙ c.name.ensures) c.in-Ok.ensures in
    let found = found_there n cs srch spot a v was c.index_mut.ensures.value c.index_mut-in-Ok.ensures.value in
    c.set_counted.ensures.roomy (spare_of c.args.device n gs was found spare)

pub returns-in-Ok-clause-spares : goal.returns-in-Ok-clause-spares
returns-in-Ok-clause-spares c = λ m other spare.
    let cs = c.args.names.now in
    let n = c.args.announced.name in
    let gs = groups_in cs in
    let v = c.index_mut.result.now in
    let was = c.index_mut-in-Ok.result.now in
    let spot = c.in-Ok.spot in
    let srch = searchable c.args.me cs c.args.totals c.requires.groups in
    let a : IsAt n spot cs = subst (λ m. IsAt m spot cs) (c.as_str.ensures.value ∙ c.name.ensures) c.in-Ok.ensures in
    let found = found_there n cs srch spot a v was c.index_mut.ensures.value c.index_mut-in-Ok.ensures.value in
    let is = c.set_counted.new.self in
    let new = groups_in (with_chunk cs spot.chunk (with_item v spot.place is)) in
    let group = c.set_counted.ensures.group in
    let write = written n cs srch spot a v was c.index_mut.ensures.value c.index_mut-in-Ok.ensures.value is group.name in
    spare_kept c.args.device n (Some is) gs new write.at m other spare

pub returns-in-Err-clause-promised : goal.returns-in-Err-clause-promised
returns-in-Err-clause-promised c =
    let cs = c.args.names.now in
    let n = c.args.announced.name in
    let gs = groups_in cs in
    let none : lookup (is_at (bytes_cmp n)) gs ≡ None = subst (λ m. lookup (is_at (bytes_cmp m)) gs ≡ None) (c.as_str.ensures.value ∙ c.name.ensures) (absent_at c.as_str.result.now cs c.in-Err.gap c.in-Err.ensures) in
    always_ok c.add.result (c.add.ensures.promised ∙ elim (bytes_eq c.args.device c.args.me) as (λ b. promised_in gs ≡ cond b (remove (promised_in gs) n) (promised_in gs)) [
      | true ↦ none_taken gs c.requires.groups.are.ordered n (ap promise_of none)
      | false ↦ refl
    ])

pub returns-in-Err-clause-fits : goal.returns-in-Err-clause-fits
returns-in-Err-clause-fits c = λ own promised.
    let cs = c.args.names.now in
    let n = c.args.announced.name in
    let gs = groups_in cs in
    let none : lookup (is_at (bytes_cmp n)) gs ≡ None = subst (λ m. lookup (is_at (bytes_cmp m)) gs ≡ None) (c.as_str.ensures.value ∙ c.name.ensures) (absent_at c.as_str.result.now cs c.in-Err.gap c.in-Err.ensures) in
    absurd (true≢false (sym promised ∙ promised_at gs c.requires.groups.are.ordered n ∙ ap promise_of none))

pub returns-in-Err-clause-roomy : goal.returns-in-Err-clause-roomy
returns-in-Err-clause-roomy c = λ spare.
    let cs = c.args.names.now in
    let n = c.args.announced.name in
    let gs = groups_in cs in
    let none : lookup (is_at (bytes_cmp n)) gs ≡ None = subst (λ m. lookup (is_at (bytes_cmp m)) gs ≡ None) (c.as_str.ensures.value ∙ c.name.ensures) (absent_at c.as_str.result.now cs c.in-Err.gap c.in-Err.ensures) in
    absurd (not_spare c.args.device n gs none spare)
