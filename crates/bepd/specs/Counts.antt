-- What readers and writers count (own rule).
use Rattle.std.specs.Prelude.{◌≡◌, ℕ, ◌+◌, ◌-◌, ◌^◌, min, List, ◌++◌, length, Option, Result, Ok, Err}
use Rattle.std.specs.Io.KnownBytes.{Appends, Consumes}
use Rattle.bepd.specs.declared.counted.CountedReader.{CountedReader}
use Rattle.bepd.specs.declared.counted.CountedWriter.{CountedWriter}

-- so many more, as far as a count goes
abbrev pub count_more : ℕ → ℕ → ℕ
count_more n more = n + min more (2 ^ 64 - 1 - n)

-- how many bytes were given, after a read that answered this
abbrev pub given_after : {E : Type 0} → Result ℕ E → ℕ → ℕ
given_after (Ok count) n = count_more n count
given_after (Err e) n = n

-- how many calls failed, after one that answered this
abbrev pub failed_after : {X : Type 0} → {E : Type 0} → Result X E → ℕ → ℕ
failed_after (Ok x) n = n
failed_after (Err e) n = count_more n 1

-- A reader: the bytes that it has left, where they are known; how many it gave; and how many of its reads failed.
pub record Input : Type 0 where
  pub left : Option (List ℕ)
  pub given : ℕ
  pub failed : ℕ

abbrev pub input_of : {R : Type 0} → (R → Option (List ℕ)) → CountedReader R → Input
input_of remaining reader = record { left = remaining reader.inner; given = reader.given; failed = reader.failed }

-- A writer: the bytes that it has, where they are known, and how many of its calls failed.
pub record Output : Type 0 where
  pub bytes : Option (List ℕ)
  pub failed : ℕ

abbrev pub output_of : {W : Type 0} → (W → Option (List ℕ)) → CountedWriter W → Output
output_of contents writer = record { bytes = contents writer.inner; failed = writer.failed }

-- these bytes were read, and counted
pub record Reads (bytes : List ℕ) (old new : Input) : Type 0 where
  pub taken : Consumes old.left new.left bytes
  pub counted : new.given ≡ count_more old.given (length bytes)

-- a front of these bytes was written
abbrev pub WritesSome : List ℕ → Option (List ℕ) → Option (List ℕ) → Type 0
WritesSome bytes old new = (front : List ℕ) × (rest : List ℕ) × (bytes ≡ front ++ rest) × Appends old new front
