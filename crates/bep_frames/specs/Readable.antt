-- What a call that reads a message returns (own rule).
use Rattle.std.specs.Prelude.{◌≡◌, ◌⊎◌, Result, Ok, Err}
use Rattle.bep_messages.specs.declared.fault.MessageFault.{MessageFault}
use Rattle.bep_frames.specs.declared.fault.FrameFault.{FrameFault}
use Rattle.bep_frames.specs.declared.fault.FrameFault.TheVariants.{OutOfMemory}

-- The bytes aren't a message, and the error says so; or it is out of memory.
abbrev pub FailsAs : {M : Type 0} → Result M MessageFault → FrameFault → FrameFault → Type 0
FailsAs (Ok m) unreadable e = e ≡ OutOfMemory
FailsAs (Err f) unreadable e = (e ≡ unreadable) ⊎ (e ≡ OutOfMemory)

abbrev pub ReadsAs : {M : Type 0} → Result M MessageFault → FrameFault → Result M FrameFault → Type 0
ReadsAs read unreadable (Ok m) = read ≡ Ok m
ReadsAs read unreadable (Err e) = FailsAs read unreadable e
