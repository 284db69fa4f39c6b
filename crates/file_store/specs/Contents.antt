-- The bytes of a file (POSIX.1, `pwrite`).
use Rattle.std.specs.Prelude.{ℕ, ◌+◌, ◌-◌, List, [], ◌∷◌, ◌++◌, take, drop, length, replicate}

-- bytes with others written over them from an offset on, and 0 in a gap; writing no bytes changes nothing
abbrev pub overwritten : List ℕ → ℕ → List ℕ → List ℕ
overwritten bytes offset [] = bytes
overwritten bytes offset (b ∷ bs) =
    take offset bytes ++ replicate (offset - length bytes) 0 ++ (b ∷ bs) ++ drop (offset + length (b ∷ bs)) bytes
