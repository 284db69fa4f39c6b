use Rattle.std.proofs.Common.{◌<◌, ◌∙◌, List, Some, length, refl, sym, ap, subst, arith}
use Rattle.std.proofs.lemmas.Option.{slice_get-get_or}
use Rattle.std.specs.List.{AllZip}
use Rattle.peer_conn.specs.Turns.{OnlySees, Turns}
use Rattle.peer_conn.specs.Words.{put_of}
use Rattle.peer_conn.proofs.Telling.{Goes, told-none, told-turn}
use Rattle.peer_conn.proofs.Seeing.{all_itself, all_set}
use Rattle.peer_conn.proofs.indexer.index_round.Goals as goal
use Rattle.peer_conn.proofs.indexer.index_round.Goals.{in-Put, in-Nothing, in-Waiting}

pub loop-i-init : goal.loop-i-init
loop-i-init g c = record {
  same = (refl, refl);
  told = told-none g.W.FolderCalls.folder g.W.FolderCalls.view g.W.KeptCalls.says c.args.folders.now c.args.senders.now (put_of c.args.seat.now);
  stays = all_itself g.W.FolderCalls.folder g.W.FolderCalls.view c.args.folders.now;
}

pub loop-i-preserved : goal.loop-i-preserved
loop-i-preserved g c =
    let folder = g.W.FolderCalls.folder in
    let view = g.W.FolderCalls.view in
    let says = g.W.KeptCalls.says in
    let same = c.loop-i.invariant.same in
    let now = c.index_turn.ensures.same in
    let lt : c.loop-i.i < length c.loop-i.folders = omega arith in
    let within : c.loop-i.i < length c.loop-i.senders = omega arith in
    record {
      same = (now.0 ∙ same.0, now.1 ∙ same.1);
      told = told-turn folder view says c.args.folders.now c.loop-i.folders c.loop-i.invariant.stays c.args.senders.now c.loop-i.senders (put_of c.args.seat.now) (put_of c.loop-i.seat) (put_of c.index_turn.new.seat)
          c.loop-i.i _ c.in-Some.sender c.index_turn.new.sender (view c.index_turn.new.calls) c.kept_up_to-kept.result
          (slice_get-get_or c.loop-i.folders c.loop-i.i c.index-folders-i.result lt)
          (slice_get-get_or c.loop-i.senders c.loop-i.i c.index-senders-i.result within ∙ ap Some c.in-Some.is)
          c.index_turn.ensures.sees c.kept_up_to-kept.ensures c.loop-i.invariant.told c.index_turn.result
          (subst (λ (id : List _). Turns id c.kept_up_to-kept.result (view c.index_turn.new.calls) c.in-Some.sender c.index_turn.new.sender (put_of c.loop-i.seat) (put_of c.index_turn.new.seat) c.index_turn.result) c.as_str.ensures c.index_turn.ensures.turns)
          (elim c.match-index_turn.branch [
            | in-Put w ↦ subst Goes (sym w.in-Put.is) tt
            | in-Nothing w ↦ subst Goes (sym w.in-Nothing.is) tt
            | in-Waiting w ↦ subst Goes (sym w.in-Waiting.is) tt
          ]);
      stays =
          let all = all_set folder view c.args.folders.now c.loop-i.folders c.loop-i.i c.index-folders-i.result _ c.loop-i.invariant.stays lt
          (record { id = refl; index_id = refl; folder_is = c.index_turn.ensures.folder; sees = c.index_turn.ensures.sees }) in
          elim c.match-index_turn.branch [
            | in-Put w ↦ subst (AllZip (OnlySees folder view) c.args.folders.now) (sym w.folders-is) all
            | in-Nothing w ↦ subst (AllZip (OnlySees folder view) c.args.folders.now) (sym w.folders-is) all
            | in-Waiting w ↦ subst (AllZip (OnlySees folder view) c.args.folders.now) (sym w.folders-is) all
          ];
    }

pub returns-clause-tells : goal.returns-clause-tells
returns-clause-tells g c =
    let told = c.loop-i.invariant.told in
    (c.loop-i.senders, told.more, told.put, told.tells, refl)

pub returns-in-Ended-OutOfMemory-clause-stays : goal.returns-in-Ended-OutOfMemory-clause-stays
returns-in-Ended-OutOfMemory-clause-stays g c =
    let lt : c.loop-i.i < length c.loop-i.folders = omega arith in
    all_set g.W.FolderCalls.folder g.W.FolderCalls.view c.args.folders.now c.loop-i.folders c.loop-i.i c.index-folders-i.result _ c.loop-i.invariant.stays lt
    (record { id = refl; index_id = refl; folder_is = c.index_turn.ensures.folder; sees = c.index_turn.ensures.sees })

pub returns-in-Ended-Gone-clause-stays : goal.returns-in-Ended-Gone-clause-stays
returns-in-Ended-Gone-clause-stays g c =
    let lt : c.loop-i.i < length c.loop-i.folders = omega arith in
    all_set g.W.FolderCalls.folder g.W.FolderCalls.view c.args.folders.now c.loop-i.folders c.loop-i.i c.index-folders-i.result _ c.loop-i.invariant.stays lt
    (record { id = refl; index_id = refl; folder_is = c.index_turn.ensures.folder; sees = c.index_turn.ensures.sees })
