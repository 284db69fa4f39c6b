-- What is written is read as what was handed in.
use Rattle.std.proofs.Common.{◌≡◌, ℕ, zero, suc, ◌+◌, ◌<◌, ◌≤◌, true, false, List, ◌++◌, length, ℤ, pos, Result, Ok, Err, refl, sym, ap, subst, ◌∙◌, arith}
use Rattle.std.specs.Prelude.{OnOk, OnErr, IsErrOf}
use Rattle.std.specs.Int.{w16, w32, to_be_bytes}
use Rattle.std.proofs.lemmas.Nat.{from_be_bytes-to_be_bytes_2, from_be_bytes-to_be_bytes_4}
use Rattle.bep_wire.specs.Written.{shortest, shortest_within}
use Rattle.bep_messages.specs.declared.hello.Hello.{Hello}
use Rattle.bep_messages.specs.Protocol.{hello_table, header_table}
use Rattle.bep_messages.specs.Structs.{hello, header}
use Rattle.bep_messages.specs.Forms.{number_form, form}
use Rattle.bep_messages.specs.Tables.{Table, Values}
use Rattle.bep_messages.specs.Values.{decoded}
use Rattle.bep_frames.specs.declared.fault.WriteFault.{WriteFault}
use Rattle.bep_frames.specs.declared.fault.WriteFault.TheVariants.{TooLong, OutOfMemory}
use Rattle.bep_frames.specs.declared.frame.Frame.TheVariants.{Hello as HelloFrame, Message as MessageFrame}
use Rattle.bep_frames.specs.declared.frame.Message.{Message}
use Rattle.bep_frames.specs.Carried.{IsMessage}
use Rattle.bep_frames.specs.Grammar.{max_hello_bytes, max_message_bytes, IsSized16, IsSized32, IsLater, IsFrame}
use Rattle.bep_frames.specs.Written.{sized16, sized32, hello_body, hello_frame, header_form, kind_of, body_of, later_frame, message_frame}
use Rattle.bep_frames.proofs.Carries.{mapped, decoded_with}

sized16_is : (held : List ℕ) → length held ≤ max_hello_bytes → IsSized16 (sized16 held) held
sized16_is held le = record { size = to_be_bytes w16 (length held); split = refl; width = refl; size_is = sym (from_be_bytes-to_be_bytes_2 (length held) (omega arith)) }

sized32_is : (held : List ℕ) → length held ≤ max_message_bytes → IsSized32 (sized32 held) held
sized32_is held le = record { size = to_be_bytes w32 (length held); split = refl; width = refl; size_is = sym (from_be_bytes-to_be_bytes_4 (length held) (omega arith)) }

pub hello_again : {U E : Type 0} (r : Result U E) (m : Hello) → OnOk r (length (hello_body m) ≤ max_hello_bytes) → OnOk r (decoded hello_table hello (hello_body m) ≡ Ok m) → OnOk r (IsFrame true (hello_frame m) (HelloFrame m))
hello_again (Ok u) m le reads = record { sized = sized16 (hello_body m); body = hello_body m; split = refl; sized_is = sized16_is (hello_body m) le; reads = reads }
hello_again (Err e) m le reads = tt

-- a header takes two bytes at most
header_short : (kind : ℕ) → kind < 8 → length (header_form kind) ≤ 2
unfolding number_form shortest shortest_within
header_short zero lt = omega arith
header_short (suc zero) lt = omega arith
header_short (suc (suc zero)) lt = omega arith
header_short (suc (suc (suc zero))) lt = omega arith
header_short (suc (suc (suc (suc zero)))) lt = omega arith
header_short (suc (suc (suc (suc (suc zero))))) lt = omega arith
header_short (suc (suc (suc (suc (suc (suc zero)))))) lt = omega arith
header_short (suc (suc (suc (suc (suc (suc (suc zero))))))) lt = omega arith
header_short (suc (suc (suc (suc (suc (suc (suc (suc n)))))))) lt = absurd (omega (arith, lt))

later_written : (kind : ℕ) (body : List ℕ) (m : Message) → kind < 8 → length body ≤ max_message_bytes → decoded header_table header (header_form kind) ≡ Ok (record { kind = pos kind; compression = pos 0 }) → IsMessage (pos kind) body m → IsLater (later_frame kind body) (MessageFrame m)
later_written kind body m lt le reads is =
    record {
      says = record { kind = pos kind; compression = pos 0 };
      sized = sized32 body;
      body = body;
      header = record { sized = sized16 (header_form kind); text = header_form kind; split = refl; sized_is = sized16_is (header_form kind) (omega (arith, header_short kind lt)); reads = reads };
      plain = refl;
      sized_is = sized32_is body le;
      short = le;
      carries = is;
    }

-- the length of a header is never too long
pub header_fits : (kind : ℕ) (z : ℤ) → z ≡ pos kind → kind < 8 → length (form header_table (z, (pos 0, tt))) ≤ 2
header_fits kind z is lt = omega (arith, ap (λ (k : ℤ). length (form header_table (k, (pos 0, tt)))) is, header_short kind lt)

again_ok : {U E D : Type 0} (r : Result U E) (m : Message) → kind_of m < 8 → OnOk r (length (body_of m) ≤ max_message_bytes) → OnOk r (decoded header_table header (header_form (kind_of m)) ≡ Ok (record { kind = pos (kind_of m); compression = pos 0 })) → OnOk r D → (D → IsMessage (pos (kind_of m)) (body_of m) m) → OnOk r (IsFrame false (message_frame m) (MessageFrame m))
again_ok (Ok u) m lt le head d is = later_written (kind_of m) (body_of m) m lt le head (is d)
again_ok (Err e) m lt le head d is = tt

-- what a call that appends the frame of a message does
abbrev pub Appends : {U : Type 0} → Result U WriteFault → List ℕ → List ℕ → ℕ → ℕ → ℕ → Message → Type 0
Appends r old new room made len m = record {
  ok : OnOk r (new ≡ old ++ message_frame m);
  short : OnOk r (length (body_of m) ≤ max_message_bytes);
  long : IsErrOf r TooLong → max_message_bytes < length (body_of m);
  err : OnErr r (new ≡ old);
  full : IsErrOf r OutOfMemory → room < len + length (message_frame m);
  capacity : room ≤ made;
  again : OnOk r (IsFrame false (message_frame m) (MessageFrame m));
}

pub appends : {U D : Type 0} (r : Result U WriteFault) (old new : List ℕ) (room made len : ℕ) (x m : Message) → x ≡ m → kind_of m < 8 → OnOk r (new ≡ old ++ message_frame m) → OnOk r (length (body_of m) ≤ max_message_bytes) → (IsErrOf r TooLong → max_message_bytes < length (body_of m)) → OnErr r (new ≡ old) → (IsErrOf r OutOfMemory → room < len + length (message_frame m)) → room ≤ made → OnOk r (decoded header_table header (header_form (kind_of m)) ≡ Ok (record { kind = pos (kind_of m); compression = pos 0 })) → OnOk r D → (D → IsMessage (pos (kind_of m)) (body_of m) m) → Appends r old new room made len x
appends r old new room made len x m e lt ok short long err full capacity head d is =
    subst (Appends r old new room made len) (sym e) (record { ok = ok; short = short; long = long; err = err; full = full; capacity = capacity; again = again_ok r m lt short head d is })

pub read_by : {M : Type 0} (table : Table) (whole : Values table → M) (message : M → Message) (bytes : List ℕ) (m : M) → decoded table whole bytes ≡ Ok m → decoded table (λ values. message (whole values)) bytes ≡ Ok (message m)
read_by table whole message bytes m e = decoded_with table whole message bytes ∙ ap (mapped message) e
