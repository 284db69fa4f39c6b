-- The function finds what the grammar says.
use Rattle.std.proofs.Common.{◌≡◌, ℕ, ◌<◌, ◌≤◌, Bool, true, false, List, [], ◌∷◌, ◌++◌, length, take, drop, ℤ, pos, Result, Ok, Err, refl, sym, ap, subst, ◌∙◌, inl, inr, arith, append_assoc, true≢false}
use Rattle.std.specs.Prelude.{◌≢◌, ◌⊎◌, negsuc, nat_eq, if◌then◌else◌}
use Rattle.std.specs.List.{starts_with}
use Rattle.std.proofs.lemmas.List.{length-append, length-take-le, take_at, take-append-drop}
use Rattle.std.proofs.lemmas.Bool.{cases_lt}
use Rattle.bep_messages.specs.declared.fault.MessageFault.{MessageFault}
use Rattle.bep_messages.specs.declared.hello.Hello.{Hello}
use Rattle.bep_messages.specs.declared.header.Header.{Header}
use Rattle.bep_messages.specs.Protocol.{hello_table, header_table}
use Rattle.bep_messages.specs.Structs.{hello, header}
use Rattle.bep_messages.specs.Values.{decoded}
use Rattle.bep_frames.specs.declared.fault.FrameFault.{FrameFault}
use Rattle.bep_frames.specs.declared.fault.FrameFault.TheVariants.{BadMagic, TooLong, Compressed, BadHeader, BadBody, OutOfMemory}
use Rattle.bep_frames.specs.declared.frame.Frame.{Frame}
use Rattle.bep_frames.specs.declared.frame.Frame.TheVariants.{Hello as HelloFrame, Message as MessageFrame, Unknown}
use Rattle.bep_frames.specs.Carried.{carried}
use Rattle.bep_frames.specs.Grammar.{magic, max_message_bytes, number32, IsSized16, IsSized32, IsHello, HasHeader, IsLater, IsFrame, Begins, HasBadHello, HasBadHeader, IsCompressed, IsTooLong, HasBadBody, Shows}
use Rattle.bep_frames.specs.Reading.{Step, More, Whole, Broken, hello_found, hello_read, hello_sized, hello_front, hello_at, message_found, message_read, message_sized, message_at, is_zero, header_found, header_read, later_at, frame_at}
use Rattle.bep_frames.proofs.Pieces as pieces
use Rattle.bep_frames.proofs.Carries.{IsFoundAs, carries_found, found_carries, none_carried, bad_carried}

-- what a step says of the bytes
abbrev pub IsRight : Bool → List ℕ → Step → Type 0
IsRight due bytes More = Unit {0}
IsRight due bytes (Whole f rest) = Begins due bytes f rest
IsRight due bytes (Broken e) = Shows due bytes e

if_holds : (P : Step → Type 0) (b : Bool) (x y : Step) → (b ≡ true → P x) → (b ≡ false → P y) → P (if b then x else y)
if_holds P true x y met unmet = met refl
if_holds P false x y met unmet = unmet refl

pub same_front : (front : List ℕ) → length front ≡ 4 → starts_with nat_eq front magic ≡ true → front ≡ magic
same_front [] w e = absurd (omega (arith, w))
same_front (a ∷ []) w e = absurd (omega (arith, w))
same_front (a ∷ b ∷ []) w e = absurd (omega (arith, w))
same_front (a ∷ b ∷ c ∷ []) w e = absurd (omega (arith, w))
same_front (a ∷ b ∷ c ∷ d ∷ []) w e = grind arith
same_front (a ∷ b ∷ c ∷ d ∷ x ∷ front) w e = absurd (omega (arith, w))

-- ---- a Hello

hello_whole : (bytes sized body rest : List ℕ) → bytes ≡ magic ++ (sized ++ rest) → IsSized16 sized body → (r : Result Hello MessageFault) → decoded hello_table hello body ≡ r → IsRight true bytes (hello_found rest r)
hello_whole bytes sized body rest e s (Ok m) reads =
    record {
      spelling = magic ++ sized;
      split = e ∙ sym (append_assoc magic sized rest);
      frame = record { sized = sized; body = body; split = refl; sized_is = s; reads = reads };
    }
hello_whole bytes sized body rest e s (Err f) reads =
    record { sized = sized; body = body; after = rest; split = e; sized_is = s; bad = λ m h. cc }

hello_front_right : (bytes front after : List ℕ) → bytes ≡ front ++ after → length front ≡ 4 → IsRight true bytes (hello_front front after)
unfolding hello_front hello_sized hello_read
hello_front_right bytes front after e w =
    if_holds (IsRight true bytes) (starts_with nat_eq front magic) (hello_sized after) (Broken BadMagic)
    (λ is. pieces.sized16_holds (IsRight true bytes) after hello_read tt (λ sized body rest e' s.
    hello_whole bytes sized body rest (e ∙ ap (λ (l : List ℕ). l ++ after) (same_front front w is) ∙ ap (λ (l : List ℕ). magic ++ l) e') s (decoded hello_table hello body) refl))
    (λ is.
    let front_is : take 4 bytes ≡ front = ap (take 4) e ∙ take_at front after 4 w in
    (omega (arith, ap length e, length-append front after), λ h. true≢false (sym (ap (λ (l : List ℕ). starts_with nat_eq l magic) (sym front_is ∙ h)) ∙ is)))

hello_right : (bytes : List ℕ) → IsRight true bytes (hello_at bytes)
unfolding hello_at
hello_right bytes = pieces.piece_holds (IsRight true bytes) 4 bytes hello_front tt (hello_front_right bytes)

-- ---- a later frame

message_whole : (bytes : List ℕ) (h : Header) (sized body rest : List ℕ) → HasHeader bytes h (sized ++ rest) → h.compression ≡ pos 0 → IsSized32 sized body → length body ≤ max_message_bytes → (r : Result Frame FrameFault) → carried h.kind body ≡ r → IsFoundAs h.kind body r → IsRight false bytes (message_found rest r)
message_whole bytes h sized body rest has plain s le (Ok f) is right =
    record {
      spelling = has.sized ++ sized;
      split = has.split ∙ sym (append_assoc has.sized sized rest);
      frame = record {
        says = h;
        sized = sized;
        body = body;
        header = record { sized = has.sized; text = has.text; split = refl; sized_is = has.sized_is; reads = has.reads };
        plain = plain;
        sized_is = s;
        short = le;
        carries = right;
      };
    }
message_whole bytes h sized body rest has plain s le (Err e) is right =
    subst (Shows false bytes) (sym right)
    (record { says = h; sized = sized; body = body; after = rest; header = has; plain = plain; sized_is = s; short = le; bad = none_carried h.kind body e is })

message_front_right : (bytes : List ℕ) (h : Header) (size after : List ℕ) → HasHeader bytes h (size ++ after) → h.compression ≡ pos 0 → length size ≡ 4 → (max_message_bytes < number32 size) ⊎ (number32 size ≤ max_message_bytes) → IsRight false bytes (message_sized h.kind size after)
unfolding message_read
message_front_right bytes h size after has plain w (inl lt) =
    subst (IsRight false bytes) (sym (pieces.message_long h.kind size after lt))
    (record { says = h; size = size; after = after; header = has; plain = plain; width = w; long = lt })
message_front_right bytes h size after has plain w (inr le) =
    subst (IsRight false bytes) (sym (pieces.message_short h.kind size after le))
    (pieces.piece_holds (IsRight false bytes) (number32 size) after (message_read h.kind) tt (λ body rest e w'.
    message_whole bytes h (size ++ body) body rest (subst (HasHeader bytes h) (ap (λ (l : List ℕ). size ++ l) e ∙ sym (append_assoc size body rest)) has) plain
    (record { size = size; split = refl; width = w; size_is = w' }) (omega arith) (carried h.kind body) refl (found_carries h.kind body)))

message_right : (bytes : List ℕ) (h : Header) (rest : List ℕ) → HasHeader bytes h rest → h.compression ≡ pos 0 → IsRight false bytes (message_at h.kind rest)
unfolding message_at
message_right bytes h rest has plain =
    pieces.piece_holds (IsRight false bytes) 4 rest (message_sized h.kind) tt (λ size after e w. message_front_right bytes h size after (subst (HasHeader bytes h) e has) plain w (cases_lt _ _))

is_zero_is : (z : ℤ) → is_zero z ≡ true → z ≡ pos 0
is_zero_is (pos n) e = grind arith
is_zero_is (negsuc n) e = absurd (true≢false (sym e))

header_right : (bytes : List ℕ) (h : Header) (rest : List ℕ) → HasHeader bytes h rest → IsRight false bytes (if is_zero h.compression then message_at h.kind rest else Broken Compressed)
header_right bytes h rest has =
    if_holds (IsRight false bytes) (is_zero h.compression) (message_at h.kind rest) (Broken Compressed)
    (λ e. message_right bytes h rest has (is_zero_is h.compression e))
    (λ e. record { says = h; after = rest; header = has; compressed = λ z. true≢false (sym (ap is_zero z) ∙ e) })

header_whole : (bytes sized text rest : List ℕ) → bytes ≡ sized ++ rest → IsSized16 sized text → (r : Result Header MessageFault) → decoded header_table header text ≡ r → IsRight false bytes (header_found rest r)
header_whole bytes sized text rest e s (Ok h) reads = header_right bytes h rest (record { sized = sized; text = text; split = e; sized_is = s; reads = reads })
header_whole bytes sized text rest e s (Err f) reads = record { sized = sized; text = text; after = rest; split = e; sized_is = s; bad = λ h is. cc }

later_right : (bytes : List ℕ) → IsRight false bytes (later_at bytes)
unfolding later_at header_read
later_right bytes =
    pieces.sized16_holds (IsRight false bytes) bytes header_read tt (λ sized text rest e s. header_whole bytes sized text rest e s (decoded header_table header text) refl)

pub step_right : (due : Bool) (bytes : List ℕ) → IsRight due bytes (frame_at due bytes)
step_right true bytes = hello_right bytes
step_right false bytes = later_right bytes

-- ---- what the grammar says is found

pub hello_spelled : (bytes sized body after : List ℕ) → bytes ≡ magic ++ (sized ++ after) → IsSized16 sized body → hello_at bytes ≡ hello_read body after
unfolding hello_sized
hello_spelled bytes sized body after e s = pieces.hello_at_is bytes magic (sized ++ after) true e refl refl ∙ pieces.sized16_is (sized ++ after) sized body after hello_read refl s

hello_again : (bytes rest : List ℕ) (m : Hello) → IsHello bytes m → hello_at (bytes ++ rest) ≡ Whole (HelloFrame m) rest
hello_again bytes rest m is =
    hello_spelled (bytes ++ rest) is.sized is.body rest (pieces.before_more bytes magic is.sized rest is.split) is.sized_is ∙ pieces.hello_good is.body rest m is.reads

header_spelled : (bytes sized text after : List ℕ) → bytes ≡ sized ++ after → IsSized16 sized text → later_at bytes ≡ header_read text after
unfolding later_at
header_spelled bytes sized text after e s = pieces.sized16_is bytes sized text after header_read e s

pub plain_again : (bytes after : List ℕ) (h : Header) → HasHeader bytes h after → h.compression ≡ pos 0 → later_at bytes ≡ message_at h.kind after
plain_again bytes after h is plain = header_spelled bytes is.sized is.text after is.split is.sized_is ∙ pieces.header_plain is.text after h is.reads plain

pub header_longer : (bytes after rest : List ℕ) (h : Header) → HasHeader bytes h after → HasHeader (bytes ++ rest) h (after ++ rest)
header_longer bytes after rest h is =
    record { sized = is.sized; text = is.text; split = pieces.before_more bytes is.sized after rest is.split; sized_is = is.sized_is; reads = is.reads }

pub message_again : (kind : ℤ) (sized body rest : List ℕ) → IsSized32 sized body → length body ≤ max_message_bytes → message_at kind (sized ++ rest) ≡ message_read kind body rest
message_again kind sized body rest s short =
    pieces.message_is kind (sized ++ rest) s.size (body ++ rest) body rest (pieces.before_more sized s.size body rest s.split) s.width refl s.size_is (omega (arith, s.size_is, short))

later_again : (bytes rest : List ℕ) (f : Frame) → IsLater bytes f → later_at (bytes ++ rest) ≡ Whole f rest
unfolding message_read
later_again bytes rest f is =
    plain_again (bytes ++ rest) (is.sized ++ rest) is.says (header_longer bytes is.sized rest is.says is.header) is.plain
    ∙ message_again is.says.kind is.sized is.body rest is.sized_is is.short
    ∙ ap (message_found rest) (carries_found is.says.kind is.body f is.carries)

pub frame_again : (due : Bool) (bytes rest : List ℕ) (f : Frame) → IsFrame due bytes f → frame_at due (bytes ++ rest) ≡ Whole f rest
frame_again true bytes rest (HelloFrame m) is = hello_again bytes rest m is
frame_again true bytes rest (MessageFrame m) is = absurd is
frame_again true bytes rest (Unknown k) is = absurd is
frame_again false bytes rest f is = later_again bytes rest f is

pub begins_again : (due : Bool) (bytes : List ℕ) (f : Frame) (rest : List ℕ) → Begins due bytes f rest → frame_at due bytes ≡ Whole f rest
begins_again due bytes f rest b = ap (frame_at due) b.split ∙ frame_again due b.spelling rest f b.frame

-- ---- and a fault that the bytes show

read_or : {M : Type 0} (r : Result M MessageFault) → ((m : M) → r ≡ Ok m → ⊥) → (f : MessageFault) × (r ≡ Err f)
read_or (Ok m) h = absurd (h m refl)
read_or (Err f) h = (f, refl)

bad_hello : (bytes : List ℕ) → HasBadHello bytes → hello_at bytes ≡ Broken BadBody
unfolding hello_read
bad_hello bytes is =
    let bad = read_or (decoded hello_table hello is.body) is.bad in
    hello_spelled bytes is.sized is.body is.after is.split is.sized_is ∙ ap (hello_found is.after) bad.1

bad_magic : (bytes : List ℕ) → 4 ≤ length bytes → take 4 bytes ≢ magic → hello_at bytes ≡ Broken BadMagic
bad_magic bytes le not = go (starts_with nat_eq (take 4 bytes) magic) refl
  where
    go : (b : Bool) → starts_with nat_eq (take 4 bytes) magic ≡ b → hello_at bytes ≡ Broken BadMagic
    go true is = absurd (not (same_front (take 4 bytes) (length-take-le 4 bytes le) is))
    go false is = pieces.hello_at_is bytes (take 4 bytes) (drop 4 bytes) false (sym (take-append-drop 4 bytes)) (length-take-le 4 bytes le) is

bad_header : (bytes : List ℕ) → HasBadHeader bytes → later_at bytes ≡ Broken BadHeader
unfolding header_read
bad_header bytes is =
    let bad = read_or (decoded header_table header is.text) is.bad in
    header_spelled bytes is.sized is.text is.after is.split is.sized_is ∙ ap (header_found is.after) bad.1

compressed : (bytes : List ℕ) → IsCompressed bytes → later_at bytes ≡ Broken Compressed
compressed bytes is =
    let h = is.header in
    header_spelled bytes h.sized h.text is.after h.split h.sized_is ∙ pieces.header_compressed h.text is.after is.says h.reads is.compressed

too_long : (bytes : List ℕ) → IsTooLong bytes → later_at bytes ≡ Broken TooLong
too_long bytes is =
    plain_again bytes (is.size ++ is.after) is.says is.header is.plain
    ∙ pieces.message_at_is is.says.kind _ is.size is.after refl is.width
    ∙ pieces.message_long is.says.kind is.size is.after is.long

bad_body : (bytes : List ℕ) → HasBadBody bytes → later_at bytes ≡ Broken BadBody
unfolding message_read
bad_body bytes is =
    plain_again bytes (is.sized ++ is.after) is.says is.header is.plain
    ∙ message_again is.says.kind is.sized is.body is.after is.sized_is is.short
    ∙ ap (message_found is.after) (bad_carried is.says.kind is.body is.bad)

pub fault_again : (due : Bool) (bytes : List ℕ) (e : FrameFault) → Shows due bytes e → frame_at due bytes ≡ Broken e
fault_again true bytes BadMagic is = bad_magic bytes is.0 is.1
fault_again true bytes TooLong is = absurd is
fault_again true bytes Compressed is = absurd is
fault_again true bytes BadHeader is = absurd is
fault_again true bytes BadBody is = bad_hello bytes is
fault_again true bytes OutOfMemory is = absurd is
fault_again false bytes BadMagic is = absurd is
fault_again false bytes TooLong is = too_long bytes is
fault_again false bytes Compressed is = compressed bytes is
fault_again false bytes BadHeader is = bad_header bytes is
fault_again false bytes BadBody is = bad_body bytes is
fault_again false bytes OutOfMemory is = absurd is
