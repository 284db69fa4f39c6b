use Rattle.std.proofs.Common.{inl, inr}
use Rattle.sync_pull.proofs.SourceLemmas.{asked-each}
use Rattle.sync_pull.proofs.laws.each_other_device_was_asked_in_vain.Goals as goal

pub returns : goal.returns
returns g c n source old new target h = (
  h.live,
  h.point,
  h.since,
  h.lacks.0,
  h.lacks.1,
  elim h.lacks.2 [
    | inl empty ↦ inl empty
    | inr vain ↦ inr (λ d has apart. asked-each g.B.BlockSource.gives n old.opening.me h.lacks.0 _ source vain d has apart)
  ],
)
