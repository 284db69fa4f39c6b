-- A folder that nobody else changed (own rule).
use Rattle.std.specs.Prelude.{◌≡◌, List, ◌++◌}
use Rattle.std.specs.List.{AllByRecursion}
use Rattle.folder_calls.specs.Shared.{CallerView}
use Rattle.folder_calls.specs.declared.entry.Entry.{Entry}

-- what came to the history that a caller had seen is the caller's own
pub record IsAlone (old new : CallerView) : Type 0 where
  pub since : List Entry
  pub longer : old.seen ++ since ≡ new.seen
  pub own : AllByRecursion (λ e. e.pass ≡ old.pass) since
