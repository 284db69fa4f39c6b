use Rattle.std.proofs.Common.{◌≡◌, ℕ, ◌+◌, ◌≤◌, false, List, length}
use Rattle.bepd.specs.Received.{own_device}
use Rattle.bepd.specs.Progress.{IsReceivedOf}
use Rattle.bepd.proofs.input.take_frames.Given as goal

-- what was received of any bytes before is now received with the frames given since
abbrev pub invariant-loop-answer : goal.invariant-loop-answer
invariant-loop-answer g l =
    let state = g.F.FolderCore.state in
    record {
      received : (bytes : List ℕ) → IsReceivedOf l.folder bytes l.initial.frames (state l.initial.received.folder) l.initial.received.skipped
          → IsReceivedOf l.folder bytes l.frames (state l.received.folder) l.received.skipped;
      me : (state l.received.folder).me ≡ own_device;
      later : l.frames.hello ≡ false;
      few : l.received.skipped + length l.frames.rest ≤ l.initial.received.skipped + length l.initial.frames.rest;
    }

-- a frame has a byte
abbrev pub decreases-loop-answer : goal.decreases-loop-answer
decreases-loop-answer g l = length l.frames.rest
