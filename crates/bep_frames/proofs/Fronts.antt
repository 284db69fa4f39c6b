-- The frame of a Response of code 0 is what comes before its data, and then these.
use Rattle.std.proofs.Common.{◌≡◌, ℕ, zero, suc, ◌+◌, ◌<◌, List, [], ◌∷◌, ◌++◌, length, ℤ, pos, Result, Ok, Err, refl, sym, ap, ◌∙◌, arith}
use Rattle.std.specs.Prelude.{OnOk}
use Rattle.std.specs.Int.{w32, to_be_bytes}
use Rattle.std.proofs.lemmas.List.{append_assoc, append-nil, length-append}
use Rattle.bep_wire.specs.Written.{shortest, shortest_within}
use Rattle.bep_messages.specs.Forms.{form, number_form, bytes_form, unsigned64}
use Rattle.bep_messages.specs.Protocol.{response_table}
use Rattle.bep_frames.specs.Written.{header_form, later_frame, sized16, sized32}

-- nothing is written for no bytes
pub none_follow : (old bytes : List ℕ) → length bytes ≡ 0 → old ++ bytes ≡ old ++ bytes_form 2 bytes
unfolding bytes_form
none_follow old [] e = refl
none_follow old (b ∷ bytes) e = absurd (omega (arith, e))

some_bytes : (bytes : List ℕ) → 0 < length bytes → bytes_form 2 bytes ≡ shortest 18 ++ (shortest (length bytes) ++ bytes)
unfolding bytes_form
some_bytes [] lt = absurd (omega (arith, lt))
some_bytes (b ∷ bytes) lt = refl

-- lists that are appended one after the other
in_turn : (old mid new a b c : List ℕ) → mid ≡ old ++ a → new ≡ mid ++ b → new ++ c ≡ old ++ (a ++ (b ++ c))
in_turn old mid new a b c m n = ap (λ l. l ++ c) n ∙ append_assoc mid b c ∙ ap (λ l. l ++ (b ++ c)) m ∙ append_assoc old a (b ++ c)

-- the key and the length of some bytes are written before them
pub some_follow : {U E : Type 0} (r : Result U E) (old mid new bytes : List ℕ) → 0 < length bytes → mid ≡ old ++ shortest 18 → OnOk r (new ≡ mid ++ shortest (length bytes)) → OnOk r (new ++ bytes ≡ old ++ bytes_form 2 bytes)
some_follow (Ok u) old mid new bytes lt m n = in_turn old mid new (shortest 18) (shortest (length bytes)) bytes m n ∙ ap (λ l. old ++ l) (sym (some_bytes bytes lt))
some_follow (Err e) old mid new bytes lt m n = tt

-- a Response of code 0 is its id, and then its data
id_then_data : (id code : ℤ) (bytes : List ℕ) → code ≡ pos 0 → form response_table (id, (bytes, (code, tt))) ≡ form response_table (id, ([], (pos 0, tt))) ++ bytes_form 2 bytes
unfolding number_form bytes_form
id_then_data id code bytes e =
    ap (λ (c : ℤ). form response_table (id, (bytes, (c, tt)))) e
    ∙ ap (λ l. number_form 1 (unsigned64 id) ++ l) (append-nil (bytes_form 2 bytes))
    ∙ sym (ap (λ l. l ++ bytes_form 2 bytes) (append-nil (number_form 1 (unsigned64 id))))

pub data_follow : (mid new bytes : List ℕ) (id code : ℤ) → code ≡ pos 0 → mid ≡ form response_table (id, ([], (pos 0, tt))) → new ++ bytes ≡ mid ++ bytes_form 2 bytes → new ++ bytes ≡ form response_table (id, (bytes, (code, tt)))
data_follow mid new bytes id code c m n = n ∙ ap (λ l. l ++ bytes_form 2 bytes) m ∙ sym (id_then_data id code bytes c)

-- ---- the frame

header_is : sized16 (header_form 4) ≡ 0 ∷ 2 ∷ 8 ∷ 4 ∷ []
unfolding number_form shortest shortest_within
header_is = refl

-- what comes before the fields, where these have so many bytes
abbrev before : ℕ → List ℕ
before size = 0 ∷ 2 ∷ 8 ∷ 4 ∷ to_be_bytes w32 size

before_is : (body : List ℕ) → before (length body) ++ body ≡ later_frame 4 body
before_is body = ap (λ header. header ++ sized32 body) (sym header_is)

pub frame_follows : (old new front fields bytes body : List ℕ) → front ≡ 0 ∷ 2 ∷ 8 ∷ 4 ∷ to_be_bytes w32 (length fields + length bytes) ++ fields → fields ++ bytes ≡ body → new ≡ old ++ front → new ++ bytes ≡ old ++ later_frame 4 body
frame_follows old new front fields bytes body f b n =
    ap (λ l. l ++ bytes) n
    ∙ append_assoc old front bytes
    ∙ ap (λ l. old ++ (l ++ bytes)) f
    ∙ ap (λ l. old ++ l) (append_assoc (before (length fields + length bytes)) fields bytes)
    ∙ ap (λ size. old ++ (before size ++ (fields ++ bytes))) (sym (length-append fields bytes))
    ∙ ap (λ l. old ++ (before (length l) ++ l)) b
    ∙ ap (λ l. old ++ l) (before_is body)
