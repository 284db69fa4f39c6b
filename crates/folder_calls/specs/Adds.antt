-- What changes that a caller asks for one after another come to. Own rule.
use Rattle.std.specs.Prelude.{◌≡◌, List, [], ◌∷◌, ◌++◌, map}
use mathlib.Core.List.{IsPrefix}
use Rattle.folder_core.specs.declared.answer.Answer.{Answer}
use Rattle.folder_core.specs.declared.change.Change.{Change}
use Rattle.folder_calls.specs.Histories.{own_entries}
use Rattle.folder_calls.specs.Shared.{Gets, CallerView, own_entry, seeing}

-- a change that was asked for, with its answer
abbrev pub Asked : Type 0
Asked = Change × Answer

-- The caller saw the history go on. Of its own there are just the entries of these changes more, in their order.
pub record Adds (old : CallerView) (made : List Asked) (new : CallerView) : Type 0 where
  pub longer : IsPrefix old.seen new.seen
  pub own : own_entries old.pass new.seen ≡ own_entries old.pass old.seen ++ map (λ m. own_entry old m.0 m.1) made
  pub same : new ≡ seeing old new.seen

-- the caller asked for these changes, one after another, and got these answers
abbrev pub Asks : CallerView → List Asked → CallerView → Type 0
Asks old [] new = new ≡ old
Asks old (m ∷ ms) new = (next : CallerView) × Gets old m.0 m.1 next × Asks next ms new
