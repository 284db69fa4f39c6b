-- The numbers and names under which programs report faults (own rule).
use Rattle.std.specs.Prelude.{ℕ, List, codes}
use Rattle.bep_frames.specs.declared.fault.FrameFault.{FrameFault}
use Rattle.bep_frames.specs.declared.fault.FrameFault.TheVariants.{BadMagic, TooLong, Compressed, BadHeader, BadBody, OutOfMemory}
use Rattle.bep_frames.specs.declared.fault.WriteFault.{WriteFault}
use Rattle.bep_frames.specs.declared.fault.WriteFault.TheVariants.{TooLong as FormTooLong, OutOfMemory as NoMemory}

abbrev pub frame_fault_number : FrameFault → ℕ
frame_fault_number BadMagic = 10
frame_fault_number TooLong = 11
frame_fault_number Compressed = 12
frame_fault_number BadHeader = 13
frame_fault_number BadBody = 14
frame_fault_number OutOfMemory = 33

abbrev pub frame_fault_name : FrameFault → List ℕ
frame_fault_name BadMagic = codes "BadMagic"
frame_fault_name TooLong = codes "TooLong"
frame_fault_name Compressed = codes "Compressed"
frame_fault_name BadHeader = codes "BadHeader"
frame_fault_name BadBody = codes "BadBody"
frame_fault_name OutOfMemory = codes "OutOfMemory"

abbrev pub write_fault_number : WriteFault → ℕ
write_fault_number FormTooLong = 11
write_fault_number NoMemory = 33

abbrev pub write_fault_name : WriteFault → List ℕ
write_fault_name FormTooLong = codes "TooLong"
write_fault_name NoMemory = codes "OutOfMemory"
