use Rattle.std.proofs.Common.{◌≡◌, ◌≤◌, ◌-◌, None, length}
use Rattle.bepd.specs.Counts.{input_of}
use Rattle.bepd.specs.Endings.{max_input_bytes}
use Rattle.bepd.specs.Received.{own_device}
use Rattle.bepd.specs.Progress.{Leaves}
use Rattle.bepd.proofs.Reading.{IsReadSoFar}
use Rattle.bepd.proofs.input.read_stream.Given as goal

-- the frames of the bytes that were read were received
abbrev pub invariant-loop-bytes : goal.invariant-loop-bytes
invariant-loop-bytes g l =
    let state = g.F.FolderCore.state in
    record {
      read : IsReadSoFar l.folder (input_of g.R.Read.remaining l.initial.reader) (input_of g.R.Read.remaining l.reader) l.total l.frames (state l.received.folder) l.received.skipped;
      within : l.total ≤ max_input_bytes;
      buffer : length l.buffer ≡ 65536;
      me : (state l.received.folder).me ≡ own_device;
      leaves : Leaves l.frames None;
    }

-- a piece has a byte
abbrev pub decreases-loop-bytes : goal.decreases-loop-bytes
decreases-loop-bytes g l = max_input_bytes - l.total
