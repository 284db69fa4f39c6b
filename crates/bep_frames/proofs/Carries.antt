-- What the function finds under a type is what the bytes are, and nothing else.
use Rattle.std.proofs.Common.{◌≡◌, ℕ, zero, suc, ◌-◌, ◌≤◌, List, ℤ, pos, Option, None, Some, Result, Ok, Err, refl, sym, ap, subst, ◌∙◌, arith}
use Rattle.std.specs.Prelude.{◌≢◌, negsuc, IsSomeAnd, IsErrAnd}
use Rattle.std.proofs.lemmas.Result.{err_from_is_err_and}
use Rattle.bep_messages.specs.declared.fault.MessageFault.{MessageFault}
use Rattle.bep_messages.specs.Faults.{message_fault, outcome}
use Rattle.bep_messages.specs.Tables.{Table, Values}
use Rattle.bep_messages.specs.Values.{value, decoded}
use Rattle.bep_frames.specs.declared.fault.FrameFault.{FrameFault}
use Rattle.bep_frames.specs.declared.fault.FrameFault.TheVariants.{BadBody, OutOfMemory}
use Rattle.bep_frames.specs.declared.frame.Frame.{Frame}
use Rattle.bep_frames.specs.declared.frame.Frame.TheVariants.{Hello as HelloFrame, Message as MessageFrame, Unknown}
use Rattle.bep_frames.specs.declared.frame.Message.{Message}
use Rattle.bep_frames.specs.Carried.{Kind, kind_at, IsUnknown, Carries, frame_read, carried_as, carried}
use Rattle.bep_frames.specs.Memory.{BodyTakesMemory}
use Rattle.bep_messages.specs.Memory.{TakesMemory}
use Rattle.bep_frames.specs.Readable.{FailsAs}
use Rattle.bep_frames.proofs.Pieces.{found, fails, failed, unread, passed_on}

-- ---- a message by its table

-- what is made of the message, where there is one
abbrev pub mapped : {A B : Type 0} → (A → B) → Result A MessageFault → Result B MessageFault
mapped f (Ok m) = Ok (f m)
mapped f (Err e) = Err e

outcome_with : {A B : Type 0} (f : A → B) (fault : Option MessageFault) (v : A) → outcome fault (f v) ≡ mapped f (outcome fault v)
outcome_with f None v = refl
outcome_with f (Some e) v = refl

pub decoded_with : {A B : Type 0} (table : Table) (whole : Values table → A) (f : A → B) (bytes : List ℕ) → decoded table (λ values. f (whole values)) bytes ≡ mapped f (decoded table whole bytes)
decoded_with table whole f bytes = outcome_with f (message_fault table bytes) (whole (value table bytes))

abbrev pub kind_of_table : {M : Type 0} → (table : Table) → (Values table → M) → (M → Message) → Kind
kind_of_table table whole message = record { table = table; message = λ values. message (whole values) }

-- ---- what the bytes are is found

pub unknown_at : (n : ℕ) → 8 ≤ n → kind_at n ≡ None
unknown_at n h =
    let e : suc (suc (suc (suc (suc (suc (suc (suc (n - 8)))))))) ≡ n = omega arith in
    subst (λ (m : ℕ). kind_at m ≡ None) e refl

pub unknown_found : (kind : ℤ) (bytes : List ℕ) → IsUnknown kind → carried kind bytes ≡ Ok (Unknown kind)
unfolding carried
unknown_found (negsuc n) bytes h = refl
unknown_found (pos n) bytes h = ap (carried_as n bytes) (unknown_at n h)

found_as : (n : ℕ) (bytes : List ℕ) (m : Message) (kind : Option Kind) → IsSomeAnd kind (λ k. decoded k.table k.message bytes ≡ Ok m) → carried_as n bytes kind ≡ Ok (MessageFrame m)
found_as n bytes m None h = absurd h
found_as n bytes m (Some k) h = ap frame_read h

pub carries_found : (kind : ℤ) (bytes : List ℕ) (f : Frame) → Carries kind bytes f → carried kind bytes ≡ Ok f
unfolding carried
carries_found kind bytes (HelloFrame m) h = absurd h
carries_found (pos n) bytes (MessageFrame m) h = found_as n bytes m (kind_at n) h
carries_found (negsuc n) bytes (MessageFrame m) h = absurd h
carries_found kind bytes (Unknown k) h = unknown_found kind bytes h.1 ∙ ap (λ (z : ℤ). found (Unknown z)) (sym h.0)

-- ---- and what is found is what they are

abbrev pub IsFoundAs : ℤ → List ℕ → Result Frame FrameFault → Type 0
IsFoundAs kind bytes (Ok f) = Carries kind bytes f
IsFoundAs kind bytes (Err e) = e ≡ BadBody

known_below : (n : ℕ) → kind_at n ≡ None → 8 ≤ n
known_below zero e = cc
known_below (suc zero) e = cc
known_below (suc (suc zero)) e = cc
known_below (suc (suc (suc zero))) e = cc
known_below (suc (suc (suc (suc zero)))) e = cc
known_below (suc (suc (suc (suc (suc zero))))) e = cc
known_below (suc (suc (suc (suc (suc (suc zero)))))) e = cc
known_below (suc (suc (suc (suc (suc (suc (suc zero))))))) e = cc
known_below (suc (suc (suc (suc (suc (suc (suc (suc n)))))))) e = omega arith

message_as : (n : ℕ) (bytes : List ℕ) (k : Kind) (r : Result Message MessageFault) → kind_at n ≡ Some k → decoded k.table k.message bytes ≡ r → IsFoundAs (pos n) bytes (frame_read r)
message_as n bytes k (Ok m) e is = subst (λ (o : Option Kind). IsSomeAnd o (λ x. decoded x.table x.message bytes ≡ Ok m)) (sym e) is
message_as n bytes k (Err f) e is = refl

carries_as : (n : ℕ) (bytes : List ℕ) (kind : Option Kind) → kind_at n ≡ kind → IsFoundAs (pos n) bytes (carried_as n bytes kind)
carries_as n bytes None e = (refl, known_below n e)
carries_as n bytes (Some k) e = message_as n bytes k (decoded k.table k.message bytes) e refl

pub found_carries : (kind : ℤ) (bytes : List ℕ) → IsFoundAs kind bytes (carried kind bytes)
unfolding carried
found_carries (negsuc n) bytes = (refl, tt)
found_carries (pos n) bytes = carries_as n bytes (kind_at n) refl

-- an error is returned only where the bytes are nothing
pub none_carried : (kind : ℤ) (bytes : List ℕ) (e : FrameFault) → carried kind bytes ≡ Err e → (f : Frame) → Carries kind bytes f → ⊥
none_carried kind bytes e h f c = let is = carries_found kind bytes f c in cc

-- where the bytes are nothing, the error is returned
pub bad_carried : (kind : ℤ) (bytes : List ℕ) → ((f : Frame) → Carries kind bytes f → ⊥) → carried kind bytes ≡ Err BadBody
bad_carried kind bytes none = go (carried kind bytes) (found_carries kind bytes)
  where
    go : (r : Result Frame FrameFault) → IsFoundAs kind bytes r → r ≡ Err BadBody
    go (Ok f) h = absurd (none f h)
    go (Err e) h = ap failed h

-- ---- a message of a known type, and the memory that it takes

pub carried_at : {M : Type 0} (table : Table) (whole : Values table → M) (message : M → Message) (kind : ℤ) (n : ℕ) (bytes : List ℕ) → kind ≡ pos n → kind_at n ≡ Some (kind_of_table table whole message) → carried kind bytes ≡ frame_read (mapped message (decoded table whole bytes))
unfolding carried
carried_at table whole message kind n bytes is at = ap (λ (z : ℤ). carried z bytes) is ∙ ap (carried_as n bytes) at ∙ ap frame_read (decoded_with table whole message bytes)

pub body_takes : (kind : ℤ) (n : ℕ) (k : Kind) (bytes : List ℕ) → kind ≡ pos n → kind_at n ≡ Some k → TakesMemory k.table bytes → BodyTakesMemory kind bytes
body_takes kind n k bytes is at takes =
    subst (λ (z : ℤ). BodyTakesMemory z bytes) (sym is) (subst (λ (o : Option Kind). IsSomeAnd o (λ x. TakesMemory x.table bytes)) (sym at) takes)

pub carried_err : {M : Type 0} (table : Table) (whole : Values table → M) (message : M → Message) (kind : ℤ) (n : ℕ) (bytes : List ℕ) (e : FrameFault) (x : Result Frame FrameFault) → kind ≡ pos n → kind_at n ≡ Some (kind_of_table table whole message) → FailsAs (decoded table whole bytes) BadBody e → IsErrAnd x (λ y. y ≡ e) → x ≢ failed OutOfMemory → x ≡ carried kind bytes
carried_err table whole message kind n bytes e x is at fails err ne =
    let p = err_from_is_err_and x err in
    let given = p.1 ∙ ap failed p.2 in
    given ∙ sym (carried_at table whole message kind n bytes is at ∙ unread (λ r. frame_read (mapped message r)) failed BadBody (decoded table whole bytes) e (λ f. refl) fails (λ h. ne (given ∙ ap failed h)))

pub carried_ok : {M : Type 0} (table : Table) (whole : Values table → M) (message : M → Message) (kind : ℤ) (n : ℕ) (bytes : List ℕ) (m : M) (x : Message) → kind ≡ pos n → kind_at n ≡ Some (kind_of_table table whole message) → decoded table whole bytes ≡ Ok m → x ≡ message m → Ok (MessageFrame x) ≡ carried kind bytes
carried_ok table whole message kind n bytes m x is at e was = ap (λ (y : Message). found (MessageFrame y)) was ∙ sym (carried_at table whole message kind n bytes is at ∙ ap (λ r. frame_read (mapped message r)) e)

pub carried_memory : {M : Type 0} (table : Table) (whole : Values table → M) (message : M → Message) (kind : ℤ) (n : ℕ) (bytes : List ℕ) (e : FrameFault) (x : Result Frame FrameFault) → kind ≡ pos n → kind_at n ≡ Some (kind_of_table table whole message) → (fails M e ≡ fails M OutOfMemory → TakesMemory table bytes) → IsErrAnd x (λ y. y ≡ e) → x ≡ failed OutOfMemory → BodyTakesMemory kind bytes
carried_memory {M} table whole message kind n bytes e x is at takes err given =
    let p = err_from_is_err_and x err in
    body_takes kind n (kind_of_table table whole message) bytes is at (takes (passed_on x p.0 e p.1 p.2 given))
