-- What a look at some bytes finds (own rule).
use Rattle.std.specs.Prelude.{◌≡◌, ◌≢◌, ℕ, ◌+◌, ◌<◌, ◌≤◌, Bool, ℤ, List, ◌++◌, length, drop, Option, Some}
use Rattle.bep_messages.specs.Tables.{Table}
use Rattle.bep_frames.specs.declared.fault.FrameFault.{FrameFault}
use Rattle.bep_frames.specs.declared.fault.FrameFault.TheVariants.{OutOfMemory}
use Rattle.bep_frames.specs.declared.found.Found.{Found}
use Rattle.bep_frames.specs.declared.found.Found.TheVariants.{Missing, Whole as WholeFound}
use Rattle.bep_frames.specs.Grammar.{max_message_bytes, IsSized16, IsSized32}
use Rattle.bep_frames.specs.Memory.{BodyTakesMemory}
use Rattle.bep_messages.specs.Memory.{TakesMemory}
use Rattle.bep_frames.specs.Reading.{Step, More, Whole, Broken, sized16_at, frame_at}

-- nothing is found before so many more bytes are there
abbrev pub LacksMore : (List ℕ → Step) → List ℕ → ℕ → Type 0
LacksMore at bytes missing = (more : List ℕ) → length more < missing → at (bytes ++ more) ≡ More

-- bytes after their length of 16 bits, and the rest
pub record IsCut16 (bytes held rest : List ℕ) : Type 0 where
  pub sized : List ℕ
  pub split : bytes ≡ sized ++ rest
  pub sized_is : IsSized16 sized held

-- the same, where decoding the bytes by this table takes memory
pub record TakesMemory16 (table : Table) (bytes : List ℕ) : Type 0 where
  pub held : List ℕ
  pub rest : List ℕ
  pub cut : IsCut16 bytes held rest
  pub takes : TakesMemory table held

-- a body after its length of 32 bits, where decoding it as a message of this type takes memory
pub record TakesMemory32 (kind : ℤ) (bytes : List ℕ) : Type 0 where
  pub sized : List ℕ
  pub body : List ℕ
  pub after : List ℕ
  pub split : bytes ≡ sized ++ after
  pub sized_is : IsSized32 sized body
  pub short : length body ≤ max_message_bytes
  pub takes : BodyTakesMemory kind body

-- there are no such bytes before so many more are there
abbrev pub Lacks16 : List ℕ → ℕ → Type 0
Lacks16 bytes missing = (0 < missing) × ((next : List ℕ → List ℕ → Step) → LacksMore (λ (l : List ℕ). sized16_at l next) bytes missing)

-- what is found: that bytes are missing, or a frame, with so many bytes after it
abbrev pub Finds : (List ℕ → Step) → List ℕ → Found → Type 0
Finds at bytes (Missing n) = (0 < n) × LacksMore at bytes n
Finds at bytes (WholeFound f left) = (rest : List ℕ) × (length rest ≡ left) × (at bytes ≡ Whole f rest)

-- an error is the fault, unless it is out of memory
abbrev pub Fails : Step → FrameFault → Type 0
Fails step e = e ≢ OutOfMemory → step ≡ Broken e

-- what a reader holds: the bytes from a place on are its rest, those before it are no more, and nothing is found there
-- before so many more bytes are; the fault that was returned isn't out of memory
pub record IsHeld (hello : Bool) (bytes : List ℕ) (start missing : ℕ) (fault : Option FrameFault) : Type 0 where
  pub within : start ≤ length bytes
  pub half : start + start ≤ length bytes
  pub lacks : LacksMore (frame_at hello) (drop start bytes) missing
  pub not_memory : fault ≢ Some OutOfMemory
