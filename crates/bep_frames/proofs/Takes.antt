-- Where reading the first frame takes memory.
use Rattle.std.proofs.Common.{◌≡◌, ℕ, Bool, true, false, ℤ, pos, List, [], ◌++◌, Option, Result, Ok, Err, refl, sym, subst, ◌∙◌}
use Rattle.std.specs.Prelude.{negsuc, IsSomeAnd}
use Rattle.bep_wire.specs.Fields.{fields_within, fields}
use Rattle.bep_messages.specs.declared.fault.MessageFault.{MessageFault}
use Rattle.bep_messages.specs.declared.hello.Hello.{Hello}
use Rattle.bep_messages.specs.Memory.{TakesMemory}
use Rattle.bep_messages.specs.Protocol.{hello_table}
use Rattle.bep_messages.specs.Structs.{hello}
use Rattle.bep_messages.specs.Tables.{Table}
use Rattle.bep_messages.specs.Values.{decoded}
use Rattle.bep_frames.specs.declared.fault.FrameFault.{FrameFault}
use Rattle.bep_frames.specs.declared.fault.FrameFault.TheVariants.{BadBody}
use Rattle.bep_frames.specs.declared.frame.Frame.{Frame}
use Rattle.bep_frames.specs.declared.frame.Frame.TheVariants.{Hello as HelloFrame, Message as MessageFrame, Unknown}
use Rattle.bep_frames.specs.Carried.{Kind, IsUnknown, carried}
use Rattle.bep_frames.specs.Grammar.{Begins, Shows, IsPartial}
use Rattle.bep_frames.specs.Memory.{BodyTakesMemory, FrameTakesMemory}
use Rattle.bep_frames.specs.Reading.{Step, More, Whole, Broken, hello_found, hello_read, message_found, message_read, frame_at}
use Rattle.bep_frames.proofs.Carries.{IsFoundAs, found_carries, unknown_at}
use Rattle.bep_frames.proofs.Readings.{partial_more}
use Rattle.bep_frames.proofs.Sound.{begins_again, fault_again, hello_spelled, plain_again, message_again}

-- a frame that isn't of an unknown type, or a body that can't be read
abbrev IsKnown : Step → Type 0
IsKnown More = ⊥
IsKnown (Whole (HelloFrame m) rest) = Unit {0}
IsKnown (Whole (MessageFrame m) rest) = Unit {0}
IsKnown (Whole (Unknown k) rest) = ⊥
IsKnown (Broken e) = e ≡ BadBody

unknown_takes_none : (kind : ℤ) (bytes : List ℕ) → IsUnknown kind → BodyTakesMemory kind bytes → ⊥
unknown_takes_none (pos n) bytes h t = subst (λ (o : Option Kind). IsSomeAnd o (λ k. TakesMemory k.table bytes)) (unknown_at n h) t
unknown_takes_none (negsuc n) bytes h t = t

hello_known : (rest : List ℕ) (r : Result Hello MessageFault) → IsKnown (hello_found rest r)
hello_known rest (Ok m) = tt
hello_known rest (Err f) = refl

message_known : (kind : ℤ) (body rest : List ℕ) (r : Result Frame FrameFault) → IsFoundAs kind body r → BodyTakesMemory kind body → IsKnown (message_found rest r)
message_known kind body rest (Ok (HelloFrame m)) is t = tt
message_known kind body rest (Ok (MessageFrame m)) is t = tt
message_known kind body rest (Ok (Unknown k)) is t = unknown_takes_none kind body is.1 t
message_known kind body rest (Err e) is t = is

step_known : (due : Bool) (bytes : List ℕ) → FrameTakesMemory due bytes → IsKnown (frame_at due bytes)
unfolding hello_read message_read
step_known true bytes t = subst IsKnown (sym (hello_spelled bytes t.sized t.body t.after t.split t.sized_is)) (hello_known t.after (decoded hello_table hello t.body))
step_known false bytes t =
    let kind = t.says.kind in
    subst IsKnown (sym (plain_again bytes (t.sized ++ t.after) t.says t.header t.plain ∙ message_again kind t.sized t.body t.after t.sized_is t.short))
    (message_known kind t.body t.after (carried kind t.body) (found_carries kind t.body) t.takes)

pub takes_whole : (due : Bool) (bytes : List ℕ) → FrameTakesMemory due bytes → IsPartial due bytes → ⊥
takes_whole due bytes t p = subst IsKnown (partial_more due bytes p) (step_known due bytes t)

pub takes_faults : (due : Bool) (bytes : List ℕ) (e : FrameFault) → FrameTakesMemory due bytes → Shows due bytes e → e ≡ BadBody
takes_faults due bytes e t s = subst IsKnown (fault_again due bytes e s) (step_known due bytes t)

pub takes_known : (due : Bool) (bytes rest : List ℕ) (kind : ℤ) → FrameTakesMemory due bytes → Begins due bytes (Unknown kind) rest → ⊥
takes_known due bytes rest kind t b = subst IsKnown (begins_again due bytes (Unknown kind) rest b) (step_known due bytes t)

pub empty_takes : (table : Table) → TakesMemory table [] → ⊥
unfolding fields fields_within
empty_takes table t = t
