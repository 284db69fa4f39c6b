-- What a worker asks of a folder, with reads in between (own rule).
use Rattle.std.specs.Prelude.{List, [], ◌∷◌}
use Rattle.folder_calls.specs.Adds.{Asked}
use Rattle.folder_calls.specs.Shared.{CallerView, Gets, Sees}

-- the caller asked for these changes, one after another, and got these answers; else it saw the history go on
abbrev pub AsksAndSees : CallerView → List Asked → CallerView → Type 0
AsksAndSees old [] new = Sees old new
AsksAndSees old (m ∷ ms) new = (point next : CallerView) × Sees old point × Gets point m.0 m.1 next × AsksAndSees next ms new
