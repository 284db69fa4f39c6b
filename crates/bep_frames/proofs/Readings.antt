-- Each byte list has one reading as a stream.
use Rattle.std.proofs.Common.{◌≡◌, ℕ, zero, suc, ◌<◌, ◌≤◌, Bool, true, false, List, [], ◌∷◌, ◌++◌, length, Result, Ok, Err, refl, sym, ap, subst, ◌∙◌, arith, append_assoc, append-nil}
use Rattle.std.proofs.lemmas.List.{length-append, take-append-le}
use Rattle.bep_frames.specs.declared.fault.FrameFault.{FrameFault}
use Rattle.bep_frames.specs.declared.fault.FrameFault.TheVariants.{BadMagic, TooLong, Compressed, BadHeader, BadBody, OutOfMemory}
use Rattle.bep_frames.specs.declared.frame.Frame.{Frame}
use Rattle.bep_frames.specs.declared.frame.Frame.TheVariants.{Hello as HelloFrame, Message as MessageFrame, Unknown}
use Rattle.bep_frames.specs.Grammar.{magic, HasHeader, IsFrame, Begins, Shows, IsPartial}
use Rattle.bep_frames.specs.Reading.{Step, More, Whole, Broken, piece_at, sized16_at, hello_at, later_at, frame_at}
use Rattle.bep_frames.specs.Stream.{Stream, Splits, first_then, ended, step_then, stream_within, stream}
use Rattle.bep_frames.specs.Found.{LacksMore}
use Rattle.bep_frames.proofs.Pieces.{before_more}
use Rattle.bep_frames.proofs.Sound.{IsRight, step_right, frame_again, begins_again, fault_again, header_longer}
use Rattle.bep_frames.proofs.Places.{begins_whole}

-- ---- a frame has a byte

hello_long : (bytes : List ℕ) (f : Frame) → IsFrame true bytes f → 0 < length bytes
hello_long bytes (HelloFrame m) is = omega (arith, ap length is.split, length-append magic is.sized)
hello_long bytes (MessageFrame m) is = absurd is
hello_long bytes (Unknown k) is = absurd is

frame_long : (due : Bool) (bytes : List ℕ) (f : Frame) → IsFrame due bytes f → 0 < length bytes
frame_long true bytes f is = hello_long bytes f is
frame_long false bytes f is =
    let h = is.header in
    omega (arith, ap length h.split, length-append h.sized is.sized, ap length h.sized_is.split, length-append h.sized_is.size h.text, h.sized_is.width)

pub begins_shorter : (due : Bool) (bytes : List ℕ) (f : Frame) (rest : List ℕ) → Begins due bytes f rest → length rest < length bytes
begins_shorter due bytes f rest b = omega (arith, frame_long due b.spelling f b.frame, ap length b.split, length-append b.spelling rest)

step_shorter : (due : Bool) (bytes : List ℕ) (f : Frame) (rest : List ℕ) → frame_at due bytes ≡ Whole f rest → length rest < length bytes
step_shorter due bytes f rest e = begins_shorter due bytes f rest (begins_whole due bytes f rest e)

-- ---- the function, step by step

pub empty_more : (due : Bool) → frame_at due [] ≡ More
unfolding hello_at later_at sized16_at piece_at
empty_more true = refl
empty_more false = refl

step_same : (f g : List ℕ → Stream) (bytes : List ℕ) (s : Step) → ((x : Frame) (rest : List ℕ) → s ≡ Whole x rest → f rest ≡ g rest) → step_then f bytes s ≡ step_then g bytes s
step_same f g bytes More h = refl
step_same f g bytes (Whole x rest) h = ap (first_then x) (h x rest refl)
step_same f g bytes (Broken e) h = refl

none_within : (n : ℕ) (due : Bool) → stream_within n due [] ≡ ended (Ok [])
unfolding stream_within
none_within zero due = refl
none_within (suc n) due = ap (step_then (stream_within n false) []) (empty_more due)

enough : (n m : ℕ) (due : Bool) (bytes : List ℕ) → length bytes ≤ n → length bytes ≤ m → stream_within n due bytes ≡ stream_within m due bytes
unfolding stream_within
enough n m due [] p q = none_within n due ∙ sym (none_within m due)
enough zero m due (b ∷ bytes) p q = absurd (omega arith)
enough (suc n) zero due (b ∷ bytes) p q = absurd (omega arith)
enough (suc n) (suc m) due (b ∷ bytes) p q =
    step_same (stream_within n false) (stream_within m false) (b ∷ bytes) (frame_at due (b ∷ bytes))
    (λ x rest e. let s = step_shorter due (b ∷ bytes) x rest e in enough n m false rest (omega arith) (omega arith))

pub stream_read : (due : Bool) (bytes : List ℕ) → stream due bytes ≡ step_then (stream false) bytes (frame_at due bytes)
unfolding stream stream_within
stream_read due [] = ap (step_then (stream false) []) (sym (empty_more due))
stream_read due (b ∷ bytes) =
    step_same (stream_within (length bytes) false) (stream false) (b ∷ bytes) (frame_at due (b ∷ bytes))
    (λ x rest e. let s = step_shorter due (b ∷ bytes) x rest e in enough (length bytes) (length rest) false rest (omega arith) (omega arith))

pub stream_more : (due : Bool) (bytes : List ℕ) → frame_at due bytes ≡ More → stream due bytes ≡ ended (Ok bytes)
stream_more due bytes e = stream_read due bytes ∙ ap (step_then (stream false) bytes) e

pub stream_whole : (due : Bool) (bytes : List ℕ) (f : Frame) (rest : List ℕ) → frame_at due bytes ≡ Whole f rest → stream due bytes ≡ first_then f (stream false rest)
stream_whole due bytes f rest e = stream_read due bytes ∙ ap (step_then (stream false) bytes) e

pub stream_broken : (due : Bool) (bytes : List ℕ) (e : FrameFault) → frame_at due bytes ≡ Broken e → stream due bytes ≡ ended (Err e)
stream_broken due bytes e is = stream_read due bytes ∙ ap (step_then (stream false) bytes) is

-- ---- it is a reading

pub more_partial : (due : Bool) (bytes : List ℕ) → frame_at due bytes ≡ More → IsPartial due bytes
more_partial due bytes e =
    record {
      no_frame = λ f rest b. let is = begins_again due bytes f rest b in cc;
      no_fault = λ f s. let is = fault_again due bytes f s in cc;
    }

pub partial_more : (due : Bool) (bytes : List ℕ) → IsPartial due bytes → frame_at due bytes ≡ More
partial_more due bytes p = go (frame_at due bytes) (step_right due bytes)
  where
    go : (s : Step) → IsRight due bytes s → s ≡ More
    go More h = refl
    go (Whole f rest) h = absurd (p.no_frame f rest h)
    go (Broken e) h = absurd (p.no_fault e h)

abbrev Reads : Bool → List ℕ → Stream → Type 0
Reads due bytes s = Splits due bytes s.frames s.end

reads_then : (due : Bool) (bytes : List ℕ) (s : Step) → frame_at due bytes ≡ s → IsRight due bytes s → ((x : Frame) (rest : List ℕ) → s ≡ Whole x rest → Reads false rest (stream false rest)) → Reads due bytes (step_then (stream false) bytes s)
reads_then due bytes More e r h = (refl, more_partial due bytes e)
reads_then due bytes (Whole x rest) e r h = (rest, r, h x rest refl)
reads_then due bytes (Broken f) e r h = r

reads_within : (n : ℕ) (due : Bool) (bytes : List ℕ) → length bytes ≤ n → Reads due bytes (stream due bytes)
reads_within zero due bytes le =
    subst (Reads due bytes) (sym (stream_read due bytes))
    (reads_then due bytes (frame_at due bytes) refl (step_right due bytes) (λ x rest e. let s = step_shorter due bytes x rest e in absurd (omega arith)))
reads_within (suc n) due bytes le =
    subst (Reads due bytes) (sym (stream_read due bytes))
    (reads_then due bytes (frame_at due bytes) refl (step_right due bytes) (λ x rest e. let s = step_shorter due bytes x rest e in reads_within n false rest (omega arith)))

pub stream_splits : (due : Bool) (bytes : List ℕ) → Splits due bytes (stream due bytes).frames (stream due bytes).end
stream_splits due bytes = reads_within (length bytes) due bytes (omega arith)

-- ---- and no other reading is

abbrev as_stream : List Frame → Result (List ℕ) FrameFault → Stream
as_stream frames end = record { frames = frames; end = end }

one_only : (due : Bool) (bytes : List ℕ) (frames : List Frame) (end : Result (List ℕ) FrameFault) → Splits due bytes frames end → stream due bytes ≡ as_stream frames end
one_only due bytes [] (Ok rest) h = ap (stream due) h.0 ∙ stream_more due rest (partial_more due rest h.1)
one_only due bytes [] (Err e) h = stream_broken due bytes e (fault_again due bytes e h)
one_only due bytes (f ∷ frames) end h = stream_whole due bytes f h.0 (begins_again due bytes f h.0 h.1) ∙ ap (first_then f) (one_only false h.0 frames end h.2)

pub only_splits : (due : Bool) (bytes : List ℕ) (frames : List Frame) (end : Result (List ℕ) FrameFault) → Splits due bytes frames end → (frames ≡ (stream due bytes).frames) × (end ≡ (stream due bytes).end)
only_splits due bytes frames end h =
    let e = sym (one_only due bytes frames end h) in
    (ap (λ (s : Stream). s.frames) e, ap (λ (s : Stream). s.end) e)

pub no_beginning : (due : Bool) (bytes rest : List ℕ) (f g : Frame) → IsFrame due bytes f → IsFrame due (bytes ++ rest) g → rest ≡ []
no_beginning due bytes rest f g is all =
    let front = frame_again due bytes rest f is in
    let whole = ap (frame_at due) (sym (append-nil (bytes ++ rest))) ∙ frame_again due (bytes ++ rest) [] g all in
    cc

-- ---- what is first stays when more comes

pub whole_longer : (due : Bool) (bytes more : List ℕ) (f : Frame) (rest : List ℕ) → Begins due bytes f rest → frame_at due (bytes ++ more) ≡ Whole f (rest ++ more)
whole_longer due bytes more f rest b =
    ap (frame_at due) (before_more bytes b.spelling rest more b.split) ∙ frame_again due b.spelling (rest ++ more) f b.frame

shows_longer : (due : Bool) (bytes more : List ℕ) (e : FrameFault) → Shows due bytes e → Shows due (bytes ++ more) e
shows_longer true bytes more BadMagic is = (omega (arith, is.0, length-append bytes more), λ h. is.1 (sym (take-append-le 4 bytes more is.0) ∙ h))
shows_longer true bytes more TooLong is = is
shows_longer true bytes more Compressed is = is
shows_longer true bytes more BadHeader is = is
shows_longer true bytes more BadBody is =
    record { sized = is.sized; body = is.body; after = is.after ++ more; split = before_more bytes magic (is.sized ++ is.after) more is.split ∙ ap (λ (l : List ℕ). magic ++ l) (append_assoc is.sized is.after more); sized_is = is.sized_is; bad = is.bad }
shows_longer true bytes more OutOfMemory is = is
shows_longer false bytes more BadMagic is = is
shows_longer false bytes more TooLong is =
    record { says = is.says; size = is.size; after = is.after ++ more; header = subst (HasHeader (bytes ++ more) is.says) (append_assoc is.size is.after more) (header_longer bytes (is.size ++ is.after) more is.says is.header); plain = is.plain; width = is.width; long = is.long }
shows_longer false bytes more Compressed is =
    record { says = is.says; after = is.after ++ more; header = header_longer bytes is.after more is.says is.header; compressed = is.compressed }
shows_longer false bytes more BadHeader is =
    record { sized = is.sized; text = is.text; after = is.after ++ more; split = before_more bytes is.sized is.after more is.split; sized_is = is.sized_is; bad = is.bad }
shows_longer false bytes more BadBody is =
    record { says = is.says; sized = is.sized; body = is.body; after = is.after ++ more; header = subst (HasHeader (bytes ++ more) is.says) (append_assoc is.sized is.after more) (header_longer bytes (is.sized ++ is.after) more is.says is.header); plain = is.plain; sized_is = is.sized_is; short = is.short; bad = is.bad }
shows_longer false bytes more OutOfMemory is = is

pub broken_longer : (due : Bool) (bytes more : List ℕ) (e : FrameFault) → Shows due bytes e → frame_at due (bytes ++ more) ≡ Broken e
broken_longer due bytes more e is = fault_again due (bytes ++ more) e (shows_longer due bytes more e is)

pub broken_shows : (due : Bool) (bytes : List ℕ) (e : FrameFault) → frame_at due bytes ≡ Broken e → Shows due bytes e
broken_shows due bytes e is = subst (IsRight due bytes) is (step_right due bytes)

-- nothing is found, at least where nothing more comes
pub lacks_partial : (due : Bool) (bytes : List ℕ) (missing : ℕ) → 0 < missing → LacksMore (frame_at due) bytes missing → IsPartial due bytes
lacks_partial due bytes missing lt lacks = more_partial due bytes (ap (frame_at due) (sym (append-nil bytes)) ∙ lacks [] lt)
