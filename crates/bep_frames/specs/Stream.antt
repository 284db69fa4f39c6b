-- A stream: its frames in order, and then a rest that begins with no whole frame, or the fault that it shows
-- (Block Exchange Protocol v1, "Post-authentication Messages").
use Rattle.std.specs.Prelude.{◌≡◌, ℕ, zero, suc, Bool, false, List, [], ◌∷◌, length, Result, Ok, Err}
use Rattle.bep_frames.specs.declared.fault.FrameFault.{FrameFault}
use Rattle.bep_frames.specs.declared.frame.Frame.{Frame}
use Rattle.bep_frames.specs.Grammar.{Begins, Shows, IsPartial}
use Rattle.bep_frames.specs.Reading.{Step, More, Whole, Broken, frame_at}

-- the frames, and the rest or its fault
pub record Stream : Type 0 where
  pub frames : List Frame
  pub end : Result (List ℕ) FrameFault

-- what ends a stream: a rest that is less than a frame, or one that shows a fault
abbrev pub Ends : Bool → List ℕ → Result (List ℕ) FrameFault → Type 0
Ends due bytes (Ok rest) = (bytes ≡ rest) × IsPartial due rest
Ends due bytes (Err e) = Shows due bytes e

-- the bytes are the spellings of these frames, one after the other, and then this end
abbrev pub Splits : Bool → List ℕ → List Frame → Result (List ℕ) FrameFault → Type 0
Splits due bytes [] end = Ends due bytes end
Splits due bytes (f ∷ frames) end = (rest : List ℕ) × Begins due bytes f rest × Splits false rest frames end

-- ---- as a function that computes

abbrev pub first_then : Frame → Stream → Stream
first_then f others = record { frames = f ∷ others.frames; end = others.end }

abbrev pub ended : Result (List ℕ) FrameFault → Stream
ended end = record { frames = []; end = end }

abbrev pub step_then : (List ℕ → Stream) → List ℕ → Step → Stream
step_then others bytes More = ended (Ok bytes)
step_then others bytes (Whole f rest) = first_then f (others rest)
step_then others bytes (Broken e) = ended (Err e)

-- a frame has a byte at least, so that there are no more frames than bytes
unfoldable pub stream_within : ℕ → Bool → List ℕ → Stream
stream_within zero due bytes = ended (Ok bytes)
stream_within (suc most) due bytes = step_then (stream_within most false) bytes (frame_at due bytes)

unfoldable pub stream : Bool → List ℕ → Stream
stream due bytes = stream_within (length bytes) due bytes
