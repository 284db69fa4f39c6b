use Rattle.std.proofs.Common.{refl}
use Rattle.folder_core.proofs.ReadAnswers.{place-read, no_place-read}
use Rattle.folder_core.proofs.laws.reads.blocks_are_found_where_they_are.Goals as goal

pub returns-clause-place : goal.returns-clause-place
returns-clause-place c = place-read

pub returns-clause-no_place : goal.returns-clause-no_place
returns-clause-no_place c = λ s hash. (
  λ none n r b g file listed same. (no_place-read s hash).0 none _ (n, r, b, g, file, listed, same, refl),
  λ each. (no_place-read s hash).1 (λ p h. each h.0 h.1 h.2 h.3 h.4 h.5 h.6),
)
