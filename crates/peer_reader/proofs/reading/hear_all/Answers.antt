use Rattle.std.proofs.Common.{◌≡◌, ◌++◌, ◌∷◌, [], ◌∙◌, List, append_assoc, rules, sym, ap}
use Rattle.bep_session.specs.declared.event.Event.{Event}
use Rattle.std.proofs.lemmas.Result.{err_from_is_err_and}
use Rattle.peer_reader.proofs.EachLemmas.{each_apart}
use Rattle.peer_reader.proofs.ReadingLemmas.{heard_more, heard_no_event, openings}
use Rattle.peer_reader.proofs.reading.hear_all.Goals as goal

pub loop-event-init : goal.loop-event-init
loop-event-init g c = record { heard = heard_no_event g.W.FolderCalls.view g.W.FolderCalls.folder c.args.hearing.now.peer c.args.folders.now c.args.counts.now; divided = sym c.into_iter-event-iterator.ensures.into_iter_gives.0 }

pub hear-requires : goal.hear-requires
hear-requires g c =
    each_apart g.W.FolderCalls.view g.W.FolderCalls.folder (openings c.changes_are_asked_in_order.ensures.adds) c.args.hearing.now.peer 0 _ c.args.folders.now c.loop-event.folders
    c.loop-event.invariant.heard.asks c.requires

pub returns-in_err-passed-clause-stopped : goal.returns-in_err-passed-clause-stopped
returns-in_err-passed-clause-stopped g c =
    let step : c.loop-event.event-iterator.rest.items ≡ c.in-Some.event ∷ c.next.new.self.rest.items = search rules in
    let p = err_from_is_err_and c.from_residual.result c.from_residual.ensures.1 in
    rw (p.1, p.2) record {
      before = c.loop-event.yielded;
      event = c.in-Some.event;
      after = c.next.new.self.rest.items;
      divided = c.loop-event.invariant.divided ∙ ap (λ (l : List Event). c.loop-event.yielded ++ l) step;
      mids = c.loop-event.folders;
      counts_before = c.loop-event.counts;
      heard = c.loop-event.invariant.heard;
      stops = c.in_err-passed.ensures.stopped;
    }

pub loop-event-preserved : goal.loop-event-preserved
loop-event-preserved g c =
    let step : c.loop-event.event-iterator.rest.items ≡ c.in-Some.event ∷ c.next.new.self.rest.items = search rules in
    record {
      divided = c.loop-event.invariant.divided ∙ ap (λ (l : List Event). c.loop-event.yielded ++ l) step ∙ sym (append_assoc c.loop-event.yielded (c.in-Some.event ∷ []) c.next.new.self.rest.items);
      heard =
          heard_more g.W.FolderCalls.view g.W.FolderCalls.folder c.changes_are_asked_in_order.ensures.together c.args.hearing.now.peer c.loop-event.yielded c.in-Some.event c.args.folders.now c.loop-event.folders c.hear.new.folders
          c.args.counts.now c.loop-event.counts c.hear.new.counts c.in_ok-passed.passed c.loop-event.invariant.heard c.in_ok-passed.ensures.heard;
    }
