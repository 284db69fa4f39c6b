-- A stream that is read in pieces, up to its end or its first fault.
use Rattle.std.proofs.Common.{◌≡◌, ◌⊎◌, inr, ℕ, zero, suc, ◌+◌, ◌<◌, ◌≤◌, false, List, [], ◌∷◌, ◌++◌, length, take, Option, Some, None, Ok, Err, IfSome, refl, sym, ap, subst, ◌∙◌, arith, append-nil, length-take-le}
use Rattle.std.proofs.lemmas.List.{length-append}
use Rattle.std.specs.Io.KnownBytes.{Consumes, IsAtEnd}
use Rattle.bep_frames.specs.declared.fault.FrameFault.{FrameFault}
use Rattle.bep_frames.specs.State.{State, fed, remaining, start, with_front}
use Rattle.bep_frames.specs.Stream as streams
use Rattle.bep_frames.specs.Stream.{Stream, ended, stream}
use Rattle.folder_core.specs.States.{FolderState}
use Rattle.bepd.specs.declared.ending.Ending.{Ending}
use Rattle.bepd.specs.declared.ending.Ending.TheVariants.{Done, Rest, Fault, Failed}
use Rattle.bepd.specs.Counts.{Input, Reads, count_more}
use Rattle.bepd.proofs.Counting.{reads_more}
use Rattle.bepd.specs.Endings.{IsEndOf, StopsAtFault, max_input_bytes}
use Rattle.bepd.specs.Received.{own_device}
use Rattle.bepd.specs.Progress.{IsReceived, IsReceivedOf, IsRead, Leaves}

-- before the first piece
pub receives_nothing : (folder : List ℕ) (reader : State) (s : FolderState) (n : ℕ) → reader ≡ start false → IsReceived folder [] s n → IsReceivedOf folder [] reader s n
receives_nothing folder reader s n e h =
    let none : length reader.rest ≡ 0 = ap (λ (t : State). length t.rest) e in
    record {
      frames = [];
      received = h;
      remains = λ more. ap (λ (t : State). with_front [] (remaining (fed t more))) e;
      fits = omega (arith, none, h.counted);
      later = ap (λ (t : State). t.hello) e;
    }

pub leaves_start : (reader : State) → reader ≡ start false → Leaves reader None
unfolding stream streams.stream_within
leaves_start reader e = subst (λ (t : State). remaining (fed t []) ≡ ended (Ok t.rest)) (sym e) refl

-- the device that keeps the folder
pub own_folder : (folder : List ℕ) (s : FolderState) (n : ℕ) → IsReceived folder [] s n → s.me ≡ own_device
own_folder folder s n h = ap (λ (t : FolderState). t.me) h.state

pub take_short : (n : ℕ) (buffer : List ℕ) → length (take n buffer) ≤ n
take_short zero buffer = omega arith
take_short (suc n) [] = omega arith
take_short (suc n) (b ∷ buffer) = omega (arith, take_short n buffer)

-- what was read and received, after so many bytes; no read failed
abbrev pub IsReadSoFar : List ℕ → Input → Input → ℕ → State → FolderState → ℕ → Type 0
IsReadSoFar folder old new total reader s n = (bytes : List ℕ) × Reads bytes old new × (new.failed ≡ old.failed) × (length bytes ≡ total) × IsReceivedOf folder bytes reader s n

-- one more piece was read
pub read_piece : (folder : List ℕ) (a b c : Input) (total count : ℕ) (buffer : List ℕ) (old new : State) (s t : FolderState) (m n : ℕ) → count ≤ length buffer
    → Consumes b.left c.left (take count buffer) → c.given ≡ count_more b.given count → c.failed ≡ b.failed
    → ((bytes : List ℕ) → IsReceivedOf folder bytes old s m → IsReceivedOf folder (bytes ++ take count buffer) new t n)
    → IsReadSoFar folder a b total old s m → IsReadSoFar folder a c (total + count) new t n
read_piece folder a b c total count buffer old new s t m n fits taken given none received h =
    let piece = take count buffer in
    let size : length piece ≡ count = length-take-le count buffer fits in
    let sum : length (h.0 ++ piece) ≡ length h.0 + length piece = length-append h.0 piece in
    (h.0 ++ piece, reads_more a b c h.0 count buffer fits taken given h.1, none ∙ h.2, omega (arith, size, sum, h.3), received h.0 h.4)

-- and that was too many bytes
pub read_too_many : (a b c : Input) (bytes : List ℕ) (total count : ℕ) (buffer : List ℕ) → count ≤ length buffer → Consumes b.left c.left (take count buffer) → c.given ≡ count_more b.given count
    → c.failed ≡ b.failed → b.failed ≡ a.failed → length bytes ≡ total → max_input_bytes < total + count → Reads bytes a b
    → (all : List ℕ) × Reads all a c × ((c.failed ≡ count_more a.failed 1) ⊎ ((c.failed ≡ a.failed) × (max_input_bytes < length all)))
read_too_many a b c bytes total count buffer fits taken given none none_before size many r =
    let piece = take count buffer in
    let taken_size : length piece ≡ count = length-take-le count buffer fits in
    let sum : length (bytes ++ piece) ≡ length bytes + length piece = length-append bytes piece in
    (bytes ++ piece, reads_more a b c bytes count buffer fits taken given r, inr (none ∙ none_before, omega (arith, taken_size, sum, size, many)))

-- ---- the whole stream

each_known : (known : Option (List ℕ)) {P : List ℕ → Type 0} → ((rest : List ℕ) → P rest) → IfSome known P
each_known None all = tt
each_known (Some rest) all = all rest

none_known : (known : Option (List ℕ)) (bytes : List ℕ) → IsAtEnd known → IfSome known (λ rest. stream false (bytes ++ rest) ≡ stream false bytes)
none_known None bytes over = tt
none_known (Some rest) bytes over = ap (λ l. stream false (bytes ++ l)) over ∙ ap (stream false) (append-nil bytes)

-- of bytes that were received, and that show no fault, the rest is the reader's
received_all : (folder bytes : List ℕ) (reader : State) (s : FolderState) (n : ℕ) (h : IsReceivedOf folder bytes reader s n) → Leaves reader None → record { frames = h.frames; end = Ok reader.rest } ≡ stream false bytes
received_all folder bytes reader s n h leaves =
    ap (λ l. record { frames = l; end = Ok reader.rest }) (sym (append-nil h.frames)) ∙ ap (with_front h.frames) (sym leaves) ∙ h.remains [] ∙ ap (stream false) (append-nil bytes)

-- a fault ends the stream, whatever follows
pub read_fault : (folder : List ℕ) (a b c : Input) (total count : ℕ) (buffer : List ℕ) (old new : State) (s t : FolderState) (m n : ℕ) (e : FrameFault) → count ≤ length buffer
    → length buffer ≡ 65536 → total + count ≤ max_input_bytes → Consumes b.left c.left (take count buffer) → c.given ≡ count_more b.given count → c.failed ≡ b.failed
    → ((bytes : List ℕ) → IsReceivedOf folder bytes old s m → IsReceivedOf folder (bytes ++ take count buffer) new t n)
    → Leaves old None → Leaves new (Some e) → IsReadSoFar folder a b total old s m → IsRead folder a c (Fault e) t n
read_fault folder a b c total count buffer old new s t m n e fits room within taken given none received left leaves r =
    let piece = take count buffer in
    let bytes = r.0 ++ piece in
    let size : length piece ≡ count = length-take-le count buffer fits in
    let sum : length bytes ≡ length r.0 + length piece = length-append r.0 piece in
    let h = received r.0 r.4 in
    let all : (more : List ℕ) → record { frames = h.frames; end = Err e } ≡ stream false (bytes ++ more) =
    λ more. ap (λ l. record { frames = l; end = Err e }) (sym (append-nil h.frames)) ∙ ap (with_front h.frames) (sym (leaves more)) ∙ h.remains more in
    let here : record { frames = h.frames; end = Err e } ≡ stream false bytes = all [] ∙ ap (stream false) (append-nil bytes) in
    record {
      bytes = bytes;
      reads = reads_more a b c r.0 count buffer fits taken given r.1;
      none_failed = none ∙ r.2;
      within = omega (arith, size, sum, r.3);
      received = subst (λ (u : Stream). IsReceived folder u.frames t n) here h.received;
      end = subst (λ (u : Stream). IsEndOf u.end (Fault e)) here refl;
      stops = record {
        before = r.0;
        piece = piece;
        split = refl;
        size = omega (arith, size, fits, room);
        rest = old.rest;
        sound = ap (λ (u : Stream). u.end) (sym (received_all folder r.0 old s m r.4 left));
      };
      whole = each_known c.left (λ more. sym (all more) ∙ here);
    }

stops_at_rest : (bytes rest : List ℕ) (ending : Ending) → IsEndOf (Ok rest) ending → StopsAtFault bytes ending
stops_at_rest bytes rest Done end = tt
stops_at_rest bytes rest (Rest n) end = tt
stops_at_rest bytes rest (Fault e) end = absurd end
stops_at_rest bytes rest (Failed f) end = absurd end

-- the input ended
pub read_all : (folder : List ℕ) (a b c : Input) (total count : ℕ) (buffer : List ℕ) (reader : State) (ending : Ending) (s : FolderState) (n : ℕ) → count ≡ 0 → count ≤ length buffer
    → Consumes b.left c.left (take count buffer) → c.given ≡ count_more b.given count → c.failed ≡ b.failed → IsAtEnd c.left → total ≤ max_input_bytes
    → Leaves reader None → IsEndOf (Ok reader.rest) ending → IsReadSoFar folder a b total reader s n → IsRead folder a c ending s n
read_all folder a b c total count buffer reader ending s n none_came fits taken given none over within leaves end r =
    let nothing : take count buffer ≡ [] = ap (λ k. take k buffer) none_came in
    let same : r.0 ++ take count buffer ≡ r.0 = ap (λ l. r.0 ++ l) nothing ∙ append-nil r.0 in
    let here = received_all folder r.0 reader s n r.4 leaves in
    record {
      bytes = r.0;
      reads = subst (λ l. Reads l a c) same (reads_more a b c r.0 count buffer fits taken given r.1);
      none_failed = none ∙ r.2;
      within = omega (arith, within, r.3);
      received = subst (λ (t : Stream). IsReceived folder t.frames s n) here r.4.received;
      end = subst (λ (t : Stream). IsEndOf t.end ending) here end;
      stops = stops_at_rest r.0 reader.rest ending end;
      whole = none_known c.left r.0 over;
    }
