use Rattle.std.proofs.Common.{◌≡◌, ◌++◌}
use Rattle.peer_reader.specs.Reading.{HasHeardAll}
use Rattle.peer_reader.proofs.reading.hear_all.Given as goal

-- those that came were heard, and the others are still to come
abbrev pub invariant-loop-event : goal.invariant-loop-event
invariant-loop-event g l = record {
  heard : HasHeardAll g.W.FolderCalls.view g.W.FolderCalls.folder l.fn.hearing.peer l.yielded l.initial.folders l.initial.counts l.folders l.counts;
  divided : l.fn.events.items ≡ l.yielded ++ l.event-iterator.rest.items;
}
