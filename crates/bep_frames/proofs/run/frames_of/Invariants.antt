use Rattle.std.proofs.Common.{◌≡◌, [], drop}
use Rattle.std.specs.List.{flat_map}
use Rattle.bep_frames.specs.Stream.{stream}
use Rattle.bep_frames.specs.State.{fed, remaining, with_front, Stops}
use Rattle.bep_frames.proofs.run.frames_of.Given as goal

-- what was given and what the pieces to come will give are the stream
abbrev pub invariant-loop-piece : goal.invariant-loop-piece
invariant-loop-piece l = record {
  whole : with_front l.frames.items (remaining (fed l.reader (flat_map (λ piece. piece.items) (drop l.piece-index l.pieces)))) ≡ stream l.hello_is_due (flat_map (λ piece. piece.items) l.pieces);
  stops : Stops l.reader l.fault;
  empty : flat_map (λ piece. piece.items) l.pieces ≡ [] → l.reader.rest ≡ [];
}
