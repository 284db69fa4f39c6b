use Rattle.std.proofs.Common.{refl}
use Rattle.sync_pull.proofs.TargetLemmas.{comes-as}
use Rattle.bepd_pair.proofs.pulls.answer_of.Goals as goal

pub returns : goal.returns
returns g c = record {
  comes = comes-as _ _ _ _ _ _ _ _ _ _ _ _ _ _ (λ target view h. h.live) c.pull_name.ensures.comes;
  others = refl;
}
