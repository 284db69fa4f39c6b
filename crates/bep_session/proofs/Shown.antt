-- The faults that streams show.
use Rattle.std.proofs.Common.{◌≡◌, ℕ, Bool, true, false, List, [], ◌∷◌, Some, IsSome, Err, refl, sym, ap, subst}
use Rattle.bep_frames.specs.declared.fault.FrameFault.{FrameFault}
use Rattle.bep_frames.specs.declared.fault.FrameFault.TheVariants.{BadMagic, TooLong, Compressed, BadHeader, BadBody, OutOfMemory}
use Rattle.bep_frames.specs.declared.frame.Frame.{Frame}
use Rattle.bep_frames.specs.Faults.{frame_fault_name, frame_fault_number}
use Rattle.bep_frames.specs.Grammar.{Shows}
use Rattle.bep_frames.specs.Stream.{Splits, stream}
use Rattle.bep_frames.proofs.Readings.{stream_splits}
use Rattle.bep_session.specs.declared.fault.SessionFault.{SessionFault}
use Rattle.bep_session.specs.Faults.{session_fault, session_fault_name, session_fault_number}

shown_ends : (due : Bool) (bytes : List ℕ) (e : FrameFault) → Shows due bytes e → IsSome (session_fault e)
shown_ends due bytes BadMagic h = refl
shown_ends due bytes TooLong h = refl
shown_ends due bytes Compressed h = refl
shown_ends due bytes BadHeader h = refl
shown_ends due bytes BadBody h = refl
shown_ends true bytes OutOfMemory h = absurd h
shown_ends false bytes OutOfMemory h = absurd h

splits_end : (due : Bool) (bytes : List ℕ) (frames : List Frame) (e : FrameFault) → Splits due bytes frames (Err e) → IsSome (session_fault e)
splits_end due bytes [] e h = shown_ends due bytes e h
splits_end due bytes (f ∷ frames) e h = splits_end false h.0 frames e h.2

pub fault_ends : (due : Bool) (bytes : List ℕ) (e : FrameFault) → (stream due bytes).end ≡ Err e → IsSome (session_fault e)
fault_ends due bytes e is = splits_end due bytes (stream due bytes).frames e (subst (Splits due bytes (stream due bytes).frames) is (stream_splits due bytes))

number_of : {f g : SessionFault} → Some f ≡ Some g → session_fault_number g ≡ session_fault_number f
number_of {f} {g} is = let same : f ≡ g = cc in ap session_fault_number (sym same)

name_of : {f g : SessionFault} → Some f ≡ Some g → session_fault_name g ≡ session_fault_name f
name_of {f} {g} is = let same : f ≡ g = cc in ap session_fault_name (sym same)

pub same_number : (e : FrameFault) (fault : SessionFault) → session_fault e ≡ Some fault → session_fault_number fault ≡ frame_fault_number e
same_number BadMagic fault is = number_of is
same_number TooLong fault is = number_of is
same_number Compressed fault is = number_of is
same_number BadHeader fault is = number_of is
same_number BadBody fault is = number_of is
same_number OutOfMemory fault is = absurd cc

pub same_name : (e : FrameFault) (fault : SessionFault) → session_fault e ≡ Some fault → session_fault_name fault ≡ frame_fault_name e
same_name BadMagic fault is = name_of is
same_name TooLong fault is = name_of is
same_name Compressed fault is = name_of is
same_name BadHeader fault is = name_of is
same_name BadBody fault is = name_of is
same_name OutOfMemory fault is = absurd cc
