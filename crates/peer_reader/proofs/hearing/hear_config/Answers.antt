use Rattle.std.proofs.Common.{◌<◌, length, map, get_or, arith}
use Rattle.std.proofs.lemmas.List.{length-map}
use Rattle.std.proofs.lemmas.Option.{slice_get-get_or}
use Rattle.std.proofs.lemmas.Result.{err_from_is_err_and}
use Rattle.peer_reader.proofs.ConfigLemmas.{front_more, front_none, front_stops}
use Rattle.peer_reader.proofs.EachLemmas.{each_apart}
use Rattle.peer_reader.proofs.ReadingLemmas.{openings}
use Rattle.peer_reader.specs.Hears.{heard_of}
use Rattle.peer_reader.proofs.hearing.hear_config.Goals as goal

pub loop-i-init : goal.loop-i-init
loop-i-init g c = front_none g.W.FolderCalls.view g.W.FolderCalls.folder c.args.peer c.args.config.now c.args.folders.now c.args.counts.now

pub hear_config_of-requires : goal.hear_config_of-requires
hear_config_of-requires g c =
    let within : c.loop-i.i < length c.loop-i.folders = omega arith in
    each_apart g.W.FolderCalls.view g.W.FolderCalls.folder (openings c.changes_are_asked_in_order.ensures.adds) c.args.peer 0 _ c.args.folders.now c.loop-i.folders
    c.loop-i.invariant.asks c.requires c.loop-i.i c.index-folders-i.result within

pub returns-in_err-hear_config_of-clause-stopped : goal.returns-in_err-hear_config_of-clause-stopped
returns-in_err-hear_config_of-clause-stopped g c =
    let p = err_from_is_err_and c.from_residual.result c.from_residual.ensures.1 in
    let within : c.loop-i.i < length c.loop-i.folders = omega arith in
    let among : c.loop-i.i < length (map heard_of c.args.folders.now) = omega (arith, length-map c.args.folders.now heard_of) in
    rw (p.1, p.2) (front_stops g.W.FolderCalls.view g.W.FolderCalls.folder c.changes_are_asked_in_order.ensures.together c.args.peer c.args.config.now c.loop-i.i
    c.args.folders.now c.args.counts.now c.loop-i.folders c.loop-i.counts (get_or c.loop-i.folders c.loop-i.i c.index-folders-i.result) c.hear_config_of.new.folder
    c.hear_config_of.new.counts c.in_err-hear_config_of.field-0.0 c.loop-i.invariant (slice_get-get_or c.loop-i.folders c.loop-i.i c.index-folders-i.result within) among
    c.in_err-hear_config_of.ensures.stopped c.in_err-hear_config_of.ensures.uncounted)

pub loop-i-preserved : goal.loop-i-preserved
loop-i-preserved g c =
    let within : c.loop-i.i < length c.loop-i.folders = omega arith in
    let among : c.loop-i.i < length (map heard_of c.args.folders.now) = omega (arith, length-map c.args.folders.now heard_of) in
    let ok = c.in_ok-hear_config_of.ensures in
    front_more g.W.FolderCalls.view g.W.FolderCalls.folder c.changes_are_asked_in_order.ensures.together c.args.peer c.args.config.now c.loop-i.i
    c.args.folders.now c.args.counts.now c.loop-i.folders c.loop-i.counts (get_or c.loop-i.folders c.loop-i.i c.index-folders-i.result) c.hear_config_of.new.folder
    c.hear_config_of.new.counts c.loop-i.invariant (slice_get-get_or c.loop-i.folders c.loop-i.i c.index-folders-i.result within) among ok.heard ok.asks ok.counted
