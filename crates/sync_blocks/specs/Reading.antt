-- What a reader gives (own rule). The bytes that it has left are known where its type says them.
use Rattle.std.specs.Prelude.{◌<◌, ℕ, List, Option, length, IfSome, ⊤}
use Rattle.std.specs.Io.KnownBytes.{Consumes}
use Rattle.sync_blocks.specs.declared.fault.ReadFault.{ReadFault}
use Rattle.sync_blocks.specs.declared.fault.ReadFault.TheVariants.{Short, Long, Read, OutOfMemory}

-- some bytes were taken from the front
abbrev pub TakesFront : Option (List ℕ) → Option (List ℕ) → Type 0
TakesFront old new = (front : List ℕ) × Consumes old new front

-- what a fault says of the bytes that a reader had, of which there should be `size`
abbrev pub Tells : ReadFault → Option (List ℕ) → ℕ → Type 0
Tells Short known size = IfSome known (λ bytes. length bytes < size)
Tells Long known size = IfSome known (λ bytes. size < length bytes)
Tells Read known size = ⊤
Tells OutOfMemory known size = ⊤

-- the same while no more than `size` bytes were read
abbrev pub TellsEarly : ReadFault → Option (List ℕ) → ℕ → Type 0
TellsEarly Short known size = IfSome known (λ bytes. length bytes < size)
TellsEarly Long known size = ⊥
TellsEarly Read known size = ⊤
TellsEarly OutOfMemory known size = ⊤
