-- A piece of some bytes is there or not, whatever follows it.
use Rattle.std.proofs.Common.{◌≡◌, ℕ, zero, suc, ◌-◌, ◌<◌, ◌≤◌, Bool, false, List, [], ◌++◌, length, take, drop, ℤ, pos, Result, Ok, Err, refl, sym, ap, subst, ◌∙◌, inl, inr, arith, append_assoc}
use Rattle.std.specs.Prelude.{◌≢◌, ◌⊎◌, negsuc, nat_eq, if◌then◌else◌, MatchResult}
use Rattle.std.specs.List.{starts_with}
use Rattle.std.proofs.Common.{append-nil}
use Rattle.bep_messages.specs.declared.fault.MessageFault.{MessageFault}
use Rattle.bep_messages.specs.declared.hello.Hello.{Hello}
use Rattle.bep_messages.specs.declared.header.Header.{Header}
use Rattle.bep_messages.specs.Protocol.{hello_table, header_table}
use Rattle.bep_messages.specs.Structs.{hello, header}
use Rattle.bep_messages.specs.Values.{decoded}
use Rattle.bep_frames.specs.declared.fault.FrameFault.{FrameFault}
use Rattle.bep_frames.specs.declared.fault.FrameFault.TheVariants.{BadMagic, TooLong, Compressed, BadHeader, BadBody, OutOfMemory}
use Rattle.bep_frames.specs.declared.found.Found.{Found}
use Rattle.bep_frames.specs.declared.found.Found.TheVariants.{Missing, Whole as WholeFound}
use Rattle.bep_frames.specs.declared.frame.Frame.TheVariants.{Hello as HelloFrame}
use Rattle.bep_frames.specs.declared.frame.Frame.{Frame}
use Rattle.bep_frames.specs.Carried.{carried}
use Rattle.bep_frames.specs.Readable.{FailsAs}
use Rattle.bep_frames.specs.Grammar.{magic, max_message_bytes, number16, number32, IsSized16}
use Rattle.bep_frames.specs.Found.{LacksMore, Finds, Fails, IsCut16}
use Rattle.std.proofs.lemmas.Bool.{cases_lt}
use Rattle.std.proofs.lemmas.List.{length-append, length-take-le, take-append-drop}
use Rattle.std.proofs.Math.Seq.{take-append_seam, drop-append_seam}
use Rattle.bep_frames.specs.Reading.{Step, More, Whole, Broken, piece_at, sized16_at, hello_found, hello_read, hello_sized, hello_front, hello_at, message_found, message_read, message_sized, message_at, is_zero, header_found, header_read}

piece_short : (n : ℕ) (bytes : List ℕ) (next : List ℕ → List ℕ → Step) → length bytes < n → piece_at n bytes next ≡ More
unfolding piece_at
piece_short n bytes next lt = grind arith

piece_long : (n : ℕ) (bytes : List ℕ) (next : List ℕ → List ℕ → Step) → n ≤ length bytes → piece_at n bytes next ≡ next (take n bytes) (drop n bytes)
unfolding piece_at
piece_long n bytes next le = grind arith

-- the piece and what follows it
pub piece_is : (n : ℕ) (bytes piece after : List ℕ) (next : List ℕ → List ℕ → Step) → bytes ≡ piece ++ after → length piece ≡ n → piece_at n bytes next ≡ next piece after
piece_is n bytes a b next e w =
    let long = piece_long (length a) (a ++ b) next (omega (arith, length-append a b)) in
    ap (λ (l : List ℕ). piece_at n l next) e
    ∙ subst (λ (m : ℕ). piece_at m (a ++ b) next ≡ next a b) w (long ∙ ap (λ (l : List ℕ). next l (drop (length a) (a ++ b))) (take-append_seam a b) ∙ ap (next a) (drop-append_seam a b))

pub piece_missing : (n : ℕ) (bytes more : List ℕ) (next : List ℕ → List ℕ → Step) → length bytes < n → length more < n - length bytes → piece_at n (bytes ++ more) next ≡ More
piece_missing n bytes more next lt few = piece_short n (bytes ++ more) next (omega (arith, length-append bytes more))

-- what holds where bytes are missing, and of whatever follows the piece, holds
pub piece_holds : (P : Step → Type 0) (n : ℕ) (bytes : List ℕ) (next : List ℕ → List ℕ → Step) → P More → ((piece after : List ℕ) → bytes ≡ piece ++ after → length piece ≡ n → P (next piece after)) → P (piece_at n bytes next)
piece_holds P n bytes next more holds = go (cases_lt (length bytes) n)
  where
    go : (length bytes < n) ⊎ (n ≤ length bytes) → P (piece_at n bytes next)
    go (inl lt) = subst P (sym (piece_short n bytes next lt)) more
    go (inr le) = subst P (sym (piece_long n bytes next le)) (holds (take n bytes) (drop n bytes) (sym (take-append-drop n bytes)) (length-take-le n bytes le))

-- the same pieces, before more
pub before_more : (bytes size after more : List ℕ) → bytes ≡ size ++ after → bytes ++ more ≡ size ++ (after ++ more)
before_more bytes size after more e = ap (λ (l : List ℕ). l ++ more) e ∙ append_assoc size after more

-- ---- bytes after their number of 16 bits

pub sized16_is : (bytes sized held rest : List ℕ) (next : List ℕ → List ℕ → Step) → bytes ≡ sized ++ rest → IsSized16 sized held → sized16_at bytes next ≡ next held rest
unfolding sized16_at
sized16_is bytes sized held rest next e s =
    piece_is 2 bytes s.size (held ++ rest) (λ size after. piece_at (number16 size) after next) (e ∙ ap (λ (l : List ℕ). l ++ rest) s.split ∙ append_assoc s.size held rest) s.width
    ∙ piece_is (number16 s.size) (held ++ rest) held rest next refl s.size_is

pub sized16_holds : (P : Step → Type 0) (bytes : List ℕ) (next : List ℕ → List ℕ → Step) → P More → ((sized held rest : List ℕ) → bytes ≡ sized ++ rest → IsSized16 sized held → P (next held rest)) → P (sized16_at bytes next)
unfolding sized16_at
sized16_holds P bytes next more holds =
    piece_holds P 2 bytes (λ size after. piece_at (number16 size) after next) more (λ size after e w.
    piece_holds P (number16 size) after next more (λ held rest e' w'.
    holds (size ++ held) held rest (e ∙ ap (λ (l : List ℕ). size ++ l) e' ∙ sym (append_assoc size held rest)) (record { size = size; split = refl; width = w; size_is = w' })))

pub sized16_lacks : (bytes size after : List ℕ) → bytes ≡ size ++ after → length size ≡ 2 → length after < number16 size → (next : List ℕ → List ℕ → Step) → LacksMore (λ (l : List ℕ). sized16_at l next) bytes (number16 size - length after)
unfolding sized16_at
sized16_lacks bytes size after e w lt next more few =
    piece_is 2 (bytes ++ more) size (after ++ more) (λ front back. piece_at (number16 front) back next) (before_more bytes size after more e) w ∙ piece_missing (number16 size) after more next lt few

pub sized16_cut : (bytes size after held rest : List ℕ) → bytes ≡ size ++ after → length size ≡ 2 → after ≡ held ++ rest → length held ≡ number16 size → IsCut16 bytes held rest
sized16_cut bytes size after held rest e w e' w' =
    record {
      sized = size ++ held;
      split = e ∙ ap (λ (l : List ℕ). size ++ l) e' ∙ sym (append_assoc size held rest);
      sized_is = record { size = size; split = refl; width = w; size_is = w' };
    }

-- a cut, where nothing comes after, and where more comes
pub cut_is : (bytes held rest : List ℕ) (next : List ℕ → List ℕ → Step) → IsCut16 bytes held rest → sized16_at bytes next ≡ next held rest
cut_is bytes held rest next cut = sized16_is bytes cut.sized held rest next cut.split cut.sized_is

pub cut_more : (bytes held rest : List ℕ) (next : List ℕ → List ℕ → Step) (more : List ℕ) → IsCut16 bytes held rest → sized16_at (bytes ++ more) next ≡ next held (rest ++ more)
cut_more bytes held rest next more cut = sized16_is (bytes ++ more) cut.sized held (rest ++ more) next (before_more bytes cut.sized rest more cut.split) cut.sized_is

-- ---- what follows each piece

pub hello_at_is : (bytes front after : List ℕ) (is_magic : Bool) → bytes ≡ front ++ after → length front ≡ 4 → starts_with nat_eq front magic ≡ is_magic → hello_at bytes ≡ (if is_magic then hello_sized after else Broken BadMagic)
unfolding hello_at hello_front
hello_at_is bytes front after is_magic e w is = piece_is 4 bytes front after hello_front e w ∙ ap (λ (b : Bool). if b then hello_sized after else Broken BadMagic) is

pub message_long : (kind : ℤ) (size after : List ℕ) → max_message_bytes < number32 size → message_sized kind size after ≡ Broken TooLong
unfolding message_sized
message_long kind size after lt = grind arith

pub message_short : (kind : ℤ) (size after : List ℕ) → number32 size ≤ max_message_bytes → message_sized kind size after ≡ piece_at (number32 size) after (message_read kind)
unfolding message_sized
message_short kind size after le = grind arith

pub message_at_is : (kind : ℤ) (bytes size after : List ℕ) → bytes ≡ size ++ after → length size ≡ 4 → message_at kind bytes ≡ message_sized kind size after
unfolding message_at
message_at_is kind bytes size after e w = piece_is 4 bytes size after (message_sized kind) e w

pub message_is : (kind : ℤ) (bytes size after body rest : List ℕ) → bytes ≡ size ++ after → length size ≡ 4 → after ≡ body ++ rest → length body ≡ number32 size → number32 size ≤ max_message_bytes → message_at kind bytes ≡ message_read kind body rest
message_is kind bytes size after body rest e w e' w' le =
    message_at_is kind bytes size after e w ∙ message_short kind size after le ∙ piece_is (number32 size) after body rest (message_read kind) e' w'

pub message_lacks : (kind : ℤ) (bytes size after : List ℕ) → bytes ≡ size ++ after → length size ≡ 4 → number32 size ≤ max_message_bytes → length after < number32 size → LacksMore (message_at kind) bytes (number32 size - length after)
message_lacks kind bytes size after e w le lt more few =
    message_at_is kind (bytes ++ more) size (after ++ more) (before_more bytes size after more e) w ∙ message_short kind size (after ++ more) le ∙ piece_missing (number32 size) after more (message_read kind) lt few

-- ---- what is found after a front is found

ends : (at at' : List ℕ → Step) (bytes after : List ℕ) → ((more : List ℕ) → at (bytes ++ more) ≡ at' (after ++ more)) → at bytes ≡ at' after
ends at at' bytes after e = ap at (sym (append-nil bytes)) ∙ e [] ∙ ap at' (append-nil after)

pub found_after : (at at' : List ℕ → Step) (bytes after : List ℕ) (r : Result Found FrameFault) → ((more : List ℕ) → at (bytes ++ more) ≡ at' (after ++ more)) → MatchResult r (Finds at' after) (Fails (at' after)) → MatchResult r (Finds at bytes) (Fails (at bytes))
found_after at at' bytes after (Ok (Missing n)) e h = (h.0, λ more few. e more ∙ h.1 more few)
found_after at at' bytes after (Ok (WholeFound f left)) e h = (h.0, h.1, ends at at' bytes after e ∙ h.2)
found_after at at' bytes after (Err f) e h = λ ne. ends at at' bytes after e ∙ h ne

is_zero_not : (z : ℤ) → z ≢ pos 0 → is_zero z ≡ false
is_zero_not (pos zero) h = absurd (h refl)
is_zero_not (pos (suc n)) h = grind arith
is_zero_not (negsuc n) h = refl

pub header_plain : (text rest : List ℕ) (h : Header) → decoded header_table header text ≡ Ok h → h.compression ≡ pos 0 → header_read text rest ≡ message_at h.kind rest
unfolding header_read
header_plain text rest h e z = ap (header_found rest) e ∙ ap (λ (c : ℤ). if is_zero c then message_at h.kind rest else Broken Compressed) z

pub header_compressed : (text rest : List ℕ) (h : Header) → decoded header_table header text ≡ Ok h → h.compression ≢ pos 0 → header_read text rest ≡ Broken Compressed
unfolding header_read
header_compressed text rest h e z = ap (header_found rest) e ∙ ap (λ (b : Bool). if b then message_at h.kind rest else Broken Compressed) (is_zero_not h.compression z)

abbrev pub fails : (A : Type 0) → FrameFault → Result A FrameFault
fails A e = Err e

abbrev pub failed : FrameFault → Result Frame FrameFault
failed e = Err e

abbrev pub found : Frame → Result Frame FrameFault
found f = Ok f

-- where a message can't be read, the step, or the answer, is this fault
pub unread : {M S : Type 0} (made : Result M MessageFault → S) (broken : FrameFault → S) (bad : FrameFault) (r : Result M MessageFault) (e : FrameFault) → ((f : MessageFault) → made (Err f) ≡ broken bad) → FailsAs r bad e → e ≢ OutOfMemory → made r ≡ broken e
unread made broken bad (Ok m) e at fails ne = absurd (ne fails)
unread made broken bad (Err f) e at (inl is) ne = at f ∙ ap broken (sym is)
unread made broken bad (Err f) e at (inr is) ne = absurd (ne is)

pub hello_bad : (body rest : List ℕ) (e : FrameFault) → FailsAs (decoded hello_table hello body) BadBody e → Fails (hello_read body rest) e
unfolding hello_read
hello_bad body rest e fails ne = unread (hello_found rest) Broken BadBody (decoded hello_table hello body) e (λ f. refl) fails ne

pub hello_good : (body rest : List ℕ) (m : Hello) → decoded hello_table hello body ≡ Ok m → hello_read body rest ≡ Whole (HelloFrame m) rest
unfolding hello_read
hello_good body rest m e = ap (hello_found rest) e

pub header_bad : (text rest : List ℕ) (e : FrameFault) → FailsAs (decoded header_table header text) BadHeader e → Fails (header_read text rest) e
unfolding header_read
header_bad text rest e fails ne = unread (header_found rest) Broken BadHeader (decoded header_table header text) e (λ f. refl) fails ne

pub message_carried : (kind same : ℤ) (body rest : List ℕ) (r : Result Frame FrameFault) → same ≡ kind → (r ≢ failed OutOfMemory → r ≡ carried same body) → r ≢ failed OutOfMemory → message_read kind body rest ≡ message_found rest r
unfolding message_read
message_carried kind same body rest r is read ne = ap (λ (z : ℤ). message_found rest (carried z body)) (sym is) ∙ ap (message_found rest) (sym (read ne))

-- an error that was passed on
pub passed_on : {A B : Type 0} (x : Result A FrameFault) (y e : FrameFault) → x ≡ Err y → y ≡ e → x ≡ Err OutOfMemory → fails B e ≡ fails B OutOfMemory
passed_on {A} {B} x y e p q given =
    let same : fails A e ≡ fails A OutOfMemory = ap (fails A) (sym q) ∙ sym p ∙ given in
    let out : e ≡ OutOfMemory = cc in
    ap (fails B) out
