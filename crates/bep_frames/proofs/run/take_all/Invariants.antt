use Rattle.std.proofs.Common.{◌≡◌, ℕ, ◌≤◌, List, length}
use Rattle.bep_frames.specs.State.{fed, remaining, with_front}
use Rattle.bep_frames.proofs.run.take_all.Given as goal

-- what was given and what is yet to be given are one stream
abbrev pub invariant-loop-answer : goal.invariant-loop-answer
invariant-loop-answer l = record {
  given : (more : List ℕ) → with_front l.frames.items (remaining (fed l.reader more)) ≡ with_front l.initial.frames.items (remaining (fed l.initial.reader more));
  shrinks : length l.reader.rest ≤ length l.initial.reader.rest;
}

-- a frame has a byte
abbrev pub decreases-loop-answer : goal.decreases-loop-answer
decreases-loop-answer l = length l.reader.rest
