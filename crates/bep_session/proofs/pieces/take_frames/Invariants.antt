use Rattle.std.proofs.Common.{length}
use Rattle.std.specs.Prelude.{◌≢◌}
use Rattle.bep_session.specs.declared.conversation.Stage.TheVariants.{Over}
use Rattle.bep_session.proofs.Outcomes.{IsReceived}
use Rattle.bep_session.proofs.pieces.take_frames.Given as goal

-- the frames that the reader gave were received, and what it has yet to give is the rest of the stream
abbrev pub invariant-loop-answer : goal.invariant-loop-answer
invariant-loop-answer l = record {
  so_far : IsReceived l.moment l.initial.reader l.reader l.initial.conversation l.conversation l.initial.events.items l.events.items;
  live : l.conversation.stage ≢ Over;
}

-- a frame has a byte
abbrev pub decreases-loop-answer : goal.decreases-loop-answer
decreases-loop-answer l = length l.reader.rest
