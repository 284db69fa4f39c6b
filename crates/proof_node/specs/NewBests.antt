-- The names whose best is another one after a change, and that they are counted.
use Rattle.std.specs.Prelude.{◌≢◌, ℕ, ◌+◌, ◌-◌, ◌^◌, ◌≤◌, All, AllPairs, List, Some, length, min}
use Rattle.std.specs.FinMap.{entries}
use Rattle.std.specs.FinSet as set
use Rattle.sync_record.specs.Records.{Name}
use Rattle.folder_core.specs.Announced.{Announced, best}
use Rattle.folder_core.specs.States.{FolderState}
use Rattle.folder_core.specs.declared.answer.Answer.{Answer}
use Rattle.folder_core.specs.declared.change.Change.{Change}
use Rattle.folder_core.specs.declared.change.Change.TheVariants.{IndexFull, IndexMore, Forget}
use Rattle.folder_index.specs.Devices.{names_by}
use Rattle.folder_db.specs.Indexed.{choices_after, counted_more, names_in, names_with}

-- no two of the names are one, and the best of each is another one, or there is one now, or none any more
pub record HaveNewBests (before after : Announced) (names : List Name) : Type 0 where
  pub apart : AllPairs (λ m n. m ≢ n) names
  pub changed : All (λ n. best (entries after) n ≢ best (entries before) n) names

-- what was counted has risen by the number of names with a new best, at least, up to the greatest number of 64 bits
abbrev pub CountsNewBests : Announced → ℕ → Announced → ℕ → Type 0
CountsNewBests before was after is = (names : List Name) → HaveNewBests before after names → min (was + length names) (2 ^ 64 - 1) ≤ is

-- how often a best was chosen after a change of a folder in an index with this answer, as its calls promise it
abbrev pub choices_of : FolderState → Change → Answer → ℕ → ℕ
choices_of s (IndexFull d records) a n = counted_more n (set.len (names_with records (names_by d (entries s.announced))))
choices_of s (IndexMore d records) a n = counted_more n (set.len (names_in records))
choices_of s (Forget d) a n = counted_more n (length (names_by d (entries s.announced)))
choices_of s _ a n = choices_after (Some a) n
