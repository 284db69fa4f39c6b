use Rattle.std.proofs.Common.{ℕ, Some, refl, subst, sym, ap, ◌∙◌}
use Rattle.std.specs.Vec.{with_item}
use Rattle.folder_index.specs.declared.group.Group.{Group}
use Rattle.folder_index.specs.Groups.{totals_in}
use Rattle.folder_index.specs.Chunks.{IsAt, groups_in}
use Rattle.folder_index.proofs.Chunked.{with_chunk}
use Rattle.folder_index.proofs.Replaced.{counted_written, found_there, searchable, written}
use Rattle.folder_index.proofs.Listed.{Groups}
use Rattle.folder_index.proofs.Results.{on_ok}
use Rattle.folder_index.proofs.Promised.{promise_of, promises_kept}
use Rattle.folder_index.proofs.Spared.{spare_either, spare_of, spare_put}
use Rattle.folder_index.proofs.Written.{Sums, are_written, found_at, kept_is, same_totals, sums_set, unchanged}
use Rattle.folder_index.proofs.groups.spare_at.Goals as goal

pub returns-clause-groups : goal.returns-clause-groups
returns-clause-groups c =
    let cs = c.args.names.now in
    let n = c.args.announced.now.name in
    let gs = groups_in cs in
    let v = c.index_mut.result.now in
    let was = c.index_mut-2.result.now in
    let spot = c.args.spot in
    let srch = searchable c.args.me cs c.args.totals c.requires.groups in
    let a : IsAt n spot cs = c.requires.at in
    let found = found_there n cs srch spot a v was c.index_mut.ensures.value c.index_mut-2.ensures.value in
    let is = c.spare.new.self in
    let new = groups_in (with_chunk cs spot.chunk (with_item v spot.place is)) in
    let group = c.spare.ensures.group c.args.me n (c.requires.groups.are.groups n was found) in
    let write = written n cs srch spot a v was c.index_mut.ensures.value c.index_mut-2.ensures.value is group.name in
    record {
      filled = write.filled;
      counted = counted_written n cs was is write c.requires.groups.counted refl;
      are = are_written c.args.me gs new c.args.totals c.args.totals c.requires.groups.are write.sorted n is
          (λ f. f was) group write.at
          (subst (λ (l : Groups). (f : Group → ℕ) → Sums f (λ f. f was) is gs l) (sym write.set) (sums_set n gs was is found))
          (unchanged c.args.totals (totals_in c.args.me was) (totals_in c.args.me is) (same_totals c.args.me n was is (c.requires.groups.are.groups n was found) group c.spare.ensures.kept))
          c.requires.groups.are.room;
    }

pub returns-clause-kept : goal.returns-clause-kept
returns-clause-kept c =
    let cs = c.args.names.now in
    let n = c.args.announced.now.name in
    let gs = groups_in cs in
    let v = c.index_mut.result.now in
    let was = c.index_mut-2.result.now in
    let spot = c.args.spot in
    let srch = searchable c.args.me cs c.args.totals c.requires.groups in
    let a : IsAt n spot cs = c.requires.at in
    let found = found_there n cs srch spot a v was c.index_mut.ensures.value c.index_mut-2.ensures.value in
    let is = c.spare.new.self in
    let new = groups_in (with_chunk cs spot.chunk (with_item v spot.place is)) in
    let group = c.spare.ensures.group c.args.me n (c.requires.groups.are.groups n was found) in
    let write = written n cs srch spot a v was c.index_mut.ensures.value c.index_mut-2.ensures.value is group.name in
    kept_is c.args.me gs new c.args.totals c.requires.groups.are write.sorted n is group write.at (c.spare.ensures.kept ∙ found_at n gs was found)

pub returns-clause-promises_stay : goal.returns-clause-promises_stay
returns-clause-promises_stay c =
    let cs = c.args.names.now in
    let n = c.args.announced.now.name in
    let gs = groups_in cs in
    let v = c.index_mut.result.now in
    let was = c.index_mut-2.result.now in
    let spot = c.args.spot in
    let srch = searchable c.args.me cs c.args.totals c.requires.groups in
    let a : IsAt n spot cs = c.requires.at in
    let found = found_there n cs srch spot a v was c.index_mut.ensures.value c.index_mut-2.ensures.value in
    let is = c.spare.new.self in
    let new = groups_in (with_chunk cs spot.chunk (with_item v spot.place is)) in
    let group = c.spare.ensures.group c.args.me n (c.requires.groups.are.groups n was found) in
    let write = written n cs srch spot a v was c.index_mut.ensures.value c.index_mut-2.ensures.value is group.name in
    promises_kept gs new c.requires.groups.are.ordered write.sorted n (Some is) write.at (c.spare.ensures.promised ∙ sym (ap promise_of found))

pub returns-clause-spare : goal.returns-clause-spare
returns-clause-spare c =
    let cs = c.args.names.now in
    let n = c.args.announced.now.name in
    let gs = groups_in cs in
    let v = c.index_mut.result.now in
    let was = c.index_mut-2.result.now in
    let spot = c.args.spot in
    let srch = searchable c.args.me cs c.args.totals c.requires.groups in
    let a : IsAt n spot cs = c.requires.at in
    let found = found_there n cs srch spot a v was c.index_mut.ensures.value c.index_mut-2.ensures.value in
    let is = c.spare.new.self in
    let new = groups_in (with_chunk cs spot.chunk (with_item v spot.place is)) in
    let group = c.spare.ensures.group c.args.me n (c.requires.groups.are.groups n was found) in
    let write = written n cs srch spot a v was c.index_mut.ensures.value c.index_mut-2.ensures.value is group.name in
    on_ok c.spare.result (spare_put c.args.device n (Some is) gs new write.at is refl) c.spare.ensures.spare

pub returns-clause-spares : goal.returns-clause-spares
returns-clause-spares c =
    let cs = c.args.names.now in
    let n = c.args.announced.now.name in
    let gs = groups_in cs in
    let v = c.index_mut.result.now in
    let was = c.index_mut-2.result.now in
    let spot = c.args.spot in
    let srch = searchable c.args.me cs c.args.totals c.requires.groups in
    let a : IsAt n spot cs = c.requires.at in
    let found = found_there n cs srch spot a v was c.index_mut.ensures.value c.index_mut-2.ensures.value in
    let is = c.spare.new.self in
    let new = groups_in (with_chunk cs spot.chunk (with_item v spot.place is)) in
    let group = c.spare.ensures.group c.args.me n (c.requires.groups.are.groups n was found) in
    let write = written n cs srch spot a v was c.index_mut.ensures.value c.index_mut-2.ensures.value is group.name in
    spare_either c.args.device n (Some is) gs new write.at is refl (λ spare. c.spare.ensures.stays (spare_of c.args.device n gs was found spare))
