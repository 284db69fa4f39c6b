-- What a reader of frames is, and what its calls do to it (own rule).
use Rattle.std.specs.Prelude.{◌≡◌, ◌⊎◌, ℕ, Bool, false, List, [], ◌++◌, length, Option, Some, None, Result, Ok, Err}
use Rattle.bep_frames.specs.declared.fault.FrameFault.{FrameFault}
use Rattle.bep_frames.specs.declared.fault.FrameFault.TheVariants.{BadMagic, TooLong, Compressed, BadHeader, BadBody, OutOfMemory}
use Rattle.bep_frames.specs.declared.frame.Frame.{Frame}
use Rattle.bep_frames.specs.Grammar.{Begins, Shows, IsPartial}
use Rattle.bep_frames.specs.Memory.{FrameTakesMemory}
use Rattle.bep_frames.specs.Stream.{Stream, ended, stream}

-- whether a Hello is due, the bytes after the last frame given, and the fault that was returned, if any
pub record State : Type 0 where
  pub hello : Bool
  pub rest : List ℕ
  pub fault : Option FrameFault

abbrev pub start : Bool → State
start hello = record { hello = hello; rest = []; fault = None }

-- after a piece came: a reader that returned a fault drops it
abbrev pub grown : List ℕ → List ℕ → Option FrameFault → List ℕ
grown rest piece None = rest ++ piece
grown rest piece (Some e) = rest

abbrev pub fed : State → List ℕ → State
fed s piece = record { hello = s.hello; rest = grown s.rest piece s.fault; fault = s.fault }

-- A fault was returned before, or the unread bytes show it; from then on the reader has it.
abbrev pub GivesFault : State → FrameFault → State → Type 0
GivesFault old e new =
    ((old.fault ≡ Some e) × (new ≡ old))
    ⊎ ((old.fault ≡ None) × Shows old.hello old.rest e × (new ≡ record { hello = old.hello; rest = old.rest; fault = Some e }))

-- What `next` returns, and what it leaves: the frame that the unread bytes begin with; none where they are less than a frame;
-- or a fault. Out of memory is returned only where a whole Hello or message is first that takes memory, and changes nothing.
abbrev pub Gives : State → Option (Result Frame FrameFault) → State → Type 0
Gives old None new = (old.fault ≡ None) × IsPartial old.hello old.rest × (new ≡ old)
Gives old (Some (Ok f)) new = (old.fault ≡ None) × Begins old.hello old.rest f new.rest × (new.hello ≡ false) × (new.fault ≡ None)
Gives old (Some (Err BadMagic)) new = GivesFault old BadMagic new
Gives old (Some (Err TooLong)) new = GivesFault old TooLong new
Gives old (Some (Err Compressed)) new = GivesFault old Compressed new
Gives old (Some (Err BadHeader)) new = GivesFault old BadHeader new
Gives old (Some (Err BadBody)) new = GivesFault old BadBody new
Gives old (Some (Err OutOfMemory)) new = (old.fault ≡ None) × FrameTakesMemory old.hello old.rest × (new ≡ old)

-- the stream that a reader still has to give
abbrev pub to_give : Bool → List ℕ → Option FrameFault → Stream
to_give hello rest None = stream hello rest
to_give hello rest (Some e) = ended (Err e)

abbrev pub remaining : State → Stream
remaining s = to_give s.hello s.rest s.fault

-- these frames, and then those of a stream
abbrev pub with_front : List Frame → Stream → Stream
with_front frames others = record { frames = frames ++ others.frames; end = others.end }

-- all frames that are there were given: less than a frame is left, or a fault was returned
abbrev pub Stops : State → Option FrameFault → Type 0
Stops s None = (s.fault ≡ None) × IsPartial s.hello s.rest
Stops s (Some e) = s.fault ≡ Some e

-- how a stream ends: with a rest of so many bytes, or with the fault
abbrev pub EndsAs : Result (List ℕ) FrameFault → Result ℕ FrameFault → Type 0
EndsAs (Ok rest) (Ok count) = count ≡ length rest
EndsAs (Ok rest) (Err e) = ⊥
EndsAs (Err f) (Ok count) = ⊥
EndsAs (Err f) (Err e) = e ≡ f
