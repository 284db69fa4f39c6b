-- A stream with more bytes at its end.
use Rattle.std.proofs.Common.{◌≡◌, ℕ, Bool, false, List, [], ◌∷◌, ◌++◌, Result, Ok, Err, refl, sym, ap, ◌∙◌}
use Rattle.bep_frames.specs.declared.fault.FrameFault.{FrameFault}
use Rattle.bep_frames.specs.declared.frame.Frame.{Frame}
use Rattle.bep_frames.specs.State.{with_front}
use Rattle.bep_frames.specs.Stream.{Splits, Stream, ended, first_then, stream}
use Rattle.bep_frames.proofs.Readings.{broken_longer, stream_broken, stream_splits, stream_whole, whole_longer}
use Rattle.bep_session.specs.Sessions.{still_due}

-- what follows the frames, where more bytes come
abbrev pub later : Bool → Result (List ℕ) FrameFault → List ℕ → Stream
later due (Ok rest) more = stream due (rest ++ more)
later due (Err e) more = ended (Err e)

pub still_due_false : (frames : List Frame) → still_due false frames ≡ false
still_due_false [] = refl
still_due_false (f ∷ frames) = refl

pub still_due-append : (due : Bool) (a b : List Frame) → still_due due (a ++ b) ≡ still_due (still_due due a) b
still_due-append due [] b = refl
still_due-append due (f ∷ a) b = sym (still_due_false b)

splits_longer : (due : Bool) (bytes more : List ℕ) (frames : List Frame) (end : Result (List ℕ) FrameFault) → Splits due bytes frames end
    → stream due (bytes ++ more) ≡ with_front frames (later (still_due due frames) end more)
splits_longer due bytes more [] (Ok rest) h = ap (λ (l : List ℕ). stream due (l ++ more)) h.0
splits_longer due bytes more [] (Err e) h = stream_broken due (bytes ++ more) e (broken_longer due bytes more e h)
splits_longer due bytes more (f ∷ frames) end h =
    stream_whole due (bytes ++ more) f (h.0 ++ more) (whole_longer due bytes more f h.0 h.1)
    ∙ ap (first_then f) (splits_longer false h.0 more frames end h.2
    ∙ ap (λ (b : Bool). with_front frames (later b end more)) (still_due_false frames))

pub stream_longer : (due : Bool) (bytes more : List ℕ) → stream due (bytes ++ more) ≡ with_front (stream due bytes).frames (later (still_due due (stream due bytes).frames) (stream due bytes).end more)
stream_longer due bytes more = splits_longer due bytes more (stream due bytes).frames (stream due bytes).end (stream_splits due bytes)
