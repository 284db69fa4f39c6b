-- Faults of a connection, and the numbers and names under which programs report them and refusals (own rule).
use Rattle.std.specs.Prelude.{ℕ, List, Option, None, Some, codes}
use Rattle.bep_frames.specs.declared.fault.FrameFault.{FrameFault}
use Rattle.bep_frames.specs.declared.fault.FrameFault.TheVariants.{BadMagic as BadFrameMagic, TooLong as FrameTooLong, Compressed as CompressedFrame, BadHeader as BadFrameHeader, BadBody as BadFrameBody, OutOfMemory as ReaderOutOfMemory}
use Rattle.bep_session.specs.declared.fault.SessionFault.{SessionFault}
use Rattle.bep_session.specs.declared.fault.SessionFault.TheVariants.{BadMagic, TooLong, Compressed, BadHeader, BadBody, NotClusterConfigFirst}
use Rattle.bep_session.specs.declared.fault.AskRefusal.{AskRefusal}
use Rattle.bep_session.specs.declared.fault.AskRefusal.TheVariants.{TooManyAsks}

-- The fault of a connection whose stream shows this one. No stream shows that memory is out.
abbrev pub session_fault : FrameFault → Option SessionFault
session_fault BadFrameMagic = Some BadMagic
session_fault FrameTooLong = Some TooLong
session_fault CompressedFrame = Some Compressed
session_fault BadFrameHeader = Some BadHeader
session_fault BadFrameBody = Some BadBody
session_fault ReaderOutOfMemory = None

abbrev pub session_fault_number : SessionFault → ℕ
session_fault_number BadMagic = 10
session_fault_number TooLong = 11
session_fault_number Compressed = 12
session_fault_number BadHeader = 13
session_fault_number BadBody = 14
session_fault_number NotClusterConfigFirst = 50

abbrev pub session_fault_name : SessionFault → List ℕ
session_fault_name BadMagic = codes "BadMagic"
session_fault_name TooLong = codes "TooLong"
session_fault_name Compressed = codes "Compressed"
session_fault_name BadHeader = codes "BadHeader"
session_fault_name BadBody = codes "BadBody"
session_fault_name NotClusterConfigFirst = codes "NotClusterConfigFirst"

abbrev pub ask_refusal_number : AskRefusal → ℕ
ask_refusal_number TooManyAsks = 53

abbrev pub ask_refusal_name : AskRefusal → List ℕ
ask_refusal_name TooManyAsks = codes "TooManyAsks"
