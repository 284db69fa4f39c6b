use Rattle.std.proofs.Common.{ℕ, List, Some, map, subst, sym, ap, ◌∙◌, arith}
use Rattle.std.specs.FinMap.{put}
use Rattle.std.specs.Prelude.{◌&&◌, bytes_eq, not}
use Rattle.sync_record.specs.Records.{FileRecord}
use Rattle.folder_core.specs.declared.announcement.Announcement.{Announcement as Entry}
use Rattle.folder_core.specs.Announced.{key, key_cmp}
use Rattle.folder_core.specs.Plain.{filed}
use Rattle.folder_index.specs.declared.group.Group.{Group}
use Rattle.folder_index.specs.Groups.{HasRoom, HasSpareAt, IsChanged, IsGroup, totals_in}
use Rattle.folder_index.specs.Chunks.{IsGap, groups_in}
use Rattle.folder_index.proofs.Listed.{Groups}
use Rattle.folder_index.proofs.Promised.{promise_of, promises_kept}
use Rattle.folder_index.proofs.Results.{on_any_err}
use Rattle.folder_index.proofs.Replaced.{chunked_too, put_there, searchable}
use Rattle.folder_index.proofs.Spared.{not_spare, spare_kept}
use Rattle.folder_index.proofs.Written.{Sums, are_written, none_at, nothing_in, placed_is, room_for_new, room_left, sums_added}
use Rattle.folder_index.proofs.groups.add.Goals as goal

pub set_counted-requires-clause-group : goal.set_counted-requires-clause-group
set_counted-requires-clause-group c =
    let me = c.args.me in
    let cs = c.args.names.now in
    let n = c.args.announced.name in
    let gs = groups_in cs in
    let first : IsGroup me n c.vacant-group.result = subst (λ (r : FileRecord). IsGroup me r.name c.vacant-group.result) c.in_ok-copy.ensures (c.vacant-group.ensures.group me) in
    first

pub set_counted-requires-clause-room : goal.set_counted-requires-clause-room
set_counted-requires-clause-room c =
    let me = c.args.me in
    let cs = c.args.names.now in
    let n = c.args.announced.name in
    let gs = groups_in cs in
    let first : IsGroup me n c.vacant-group.result = subst (λ (r : FileRecord). IsGroup me r.name c.vacant-group.result) c.in_ok-copy.ensures (c.vacant-group.ensures.group me) in
    subst (HasRoom c.args.totals) (sym (nothing_in me n c.vacant-group.result first c.vacant-group.ensures.empty))
    (room_for_new me gs c.args.totals c.requires.groups.are (omega (arith, c.requires.groups.counted.all, c.requires.groups.counted.few)))

pub insert-requires-clause-gap : goal.insert-requires-clause-gap
insert-requires-clause-gap c =
    let me = c.args.me in
    let cs = c.args.names.now in
    let n = c.args.announced.name in
    let gs = groups_in cs in
    let first : IsGroup me n c.vacant-group.result = subst (λ (r : FileRecord). IsGroup me r.name c.vacant-group.result) c.in_ok-copy.ensures (c.vacant-group.ensures.group me) in
    let is = c.set_counted.new.self in
    let group = c.in_ok-totals.ensures.group in
    subst (λ m. IsGap m c.args.gap cs) (sym group.name) c.requires.gap

pub returns-clause-groups : goal.returns-clause-groups
returns-clause-groups c =
    let me = c.args.me in
    let cs = c.args.names.now in
    let n = c.args.announced.name in
    let gs = groups_in cs in
    let first : IsGroup me n c.vacant-group.result = subst (λ (r : FileRecord). IsGroup me r.name c.vacant-group.result) c.in_ok-copy.ensures (c.vacant-group.ensures.group me) in
    let is = c.set_counted.new.self in
    let group = c.in_ok-totals.ensures.group in
    let new = groups_in c.insert.new.self in
    let made = put_there n cs c.insert.new.self c.args.gap is (searchable me cs c.args.totals c.requires.groups) c.requires.gap group.name c.in_ok-insert.ensures.placed in
    let none = nothing_in me n c.vacant-group.result first c.vacant-group.ensures.empty in
    let changed : IsChanged c.args.totals (record { files = 0; directories = 0; deletions = 0; needed = 0; others = 0 }) (totals_in me is) c.in_ok-totals.totals =
    subst (λ w. IsChanged c.args.totals w (totals_in me is) c.in_ok-totals.totals) none c.in_ok-totals.ensures.totals in
    record {
      filled = c.insert.ensures.filled;
      counted = c.insert.ensures.counted;
      are = are_written me gs new c.args.totals c.in_ok-totals.totals c.requires.groups.are made.sorted n is (λ f. 0) group made.at (subst (λ (l : Groups). (f : Group → ℕ) → Sums f (λ f. 0) is gs l) (sym made.set) (sums_added n gs is c.requires.groups.are.ordered made.absent))
          changed (room_left me c.args.device c.args.announced c.vacant-group.result is c.args.totals c.in_ok-totals.totals c.in_ok-totals.ensures.placed c.in_ok-totals.ensures.totals.others c.requires.groups.are.room c.requires.others);
    }

pub returns-clause-placed : goal.returns-clause-placed
returns-clause-placed c =
    let me = c.args.me in
    let cs = c.args.names.now in
    let n = c.args.announced.name in
    let gs = groups_in cs in
    let first : IsGroup me n c.vacant-group.result = subst (λ (r : FileRecord). IsGroup me r.name c.vacant-group.result) c.in_ok-copy.ensures (c.vacant-group.ensures.group me) in
    let is = c.set_counted.new.self in
    let group = c.in_ok-totals.ensures.group in
    let new = groups_in c.insert.new.self in
    let made = put_there n cs c.insert.new.self c.args.gap is (searchable me cs c.args.totals c.requires.groups) c.requires.gap group.name c.in_ok-insert.ensures.placed in
    placed_is me gs new c.args.totals c.requires.groups.are made.sorted n is group made.at
    c.args.device c.args.announced (c.in_ok-totals.ensures.placed ∙ ap (λ (es : List Entry). put key_cmp (key n c.args.device) c.args.announced (map filed es)) (c.vacant-group.ensures.empty ∙ none_at n gs made.absent))

pub returns-clause-promised : goal.returns-clause-promised
returns-clause-promised c =
    let me = c.args.me in
    let cs = c.args.names.now in
    let n = c.args.announced.name in
    let gs = groups_in cs in
    let first : IsGroup me n c.vacant-group.result = subst (λ (r : FileRecord). IsGroup me r.name c.vacant-group.result) c.in_ok-copy.ensures (c.vacant-group.ensures.group me) in
    let is = c.set_counted.new.self in
    let group = c.in_ok-totals.ensures.group in
    let new = groups_in c.insert.new.self in
    let made = put_there n cs c.insert.new.self c.args.gap is (searchable me cs c.args.totals c.requires.groups) c.requires.gap group.name c.in_ok-insert.ensures.placed in
    promises_kept gs new c.requires.groups.are.ordered made.sorted n (Some is) made.at
    (c.in_ok-totals.ensures.promised ∙ ap (λ b. b && not (bytes_eq c.args.device me)) c.vacant-group.ensures.promised ∙ sym (ap promise_of made.absent))

pub returns-clause-spares : goal.returns-clause-spares
returns-clause-spares c = λ m spare.
    let me = c.args.me in
    let cs = c.args.names.now in
    let n = c.args.announced.name in
    let gs = groups_in cs in
    let first : IsGroup me n c.vacant-group.result = subst (λ (r : FileRecord). IsGroup me r.name c.vacant-group.result) c.in_ok-copy.ensures (c.vacant-group.ensures.group me) in
    let is = c.set_counted.new.self in
    let group = c.in_ok-totals.ensures.group in
    let new = groups_in c.insert.new.self in
    let made = put_there n cs c.insert.new.self c.args.gap is (searchable me cs c.args.totals c.requires.groups) c.requires.gap group.name c.in_ok-insert.ensures.placed in
    spare_kept c.args.device n (Some is) gs new made.at m (λ e. not_spare c.args.device n gs made.absent (subst (λ k. HasSpareAt c.args.device k gs) e spare)) spare

pub returns-in_err-insert-clause-spares : goal.returns-in_err-insert-clause-spares
returns-in_err-insert-clause-spares c = λ m spare. subst (HasSpareAt c.args.device m) (sym c.in_err-insert.ensures.err) spare

pub returns-in_err-insert-clause-groups_stay : goal.returns-in_err-insert-clause-groups_stay
returns-in_err-insert-clause-groups_stay c = on_any_err _ (chunked_too c.args.me c.args.names.now c.insert.new.self c.args.totals c.requires.groups c.in_err-insert.ensures.err c.insert.ensures.filled c.insert.ensures.counted)
