use Rattle.std.proofs.Common.{rules, ◌≡◌, subst, codes}
use Rattle.bepd_pair.proofs.Grammar.{no_sync, IsNoText}
use Rattle.bepd_pair.proofs.command.command_of.Goals as goal

pub returns-in-None-2 : goal.returns-in-None-2
returns-in-None-2 c =
    let not : c.in-Ok.text.now ≡ codes "sync" → ⊥ = search rules in
    λ command h. subst IsNoText c.in-Ok.ensures.cases.0 (no_sync c.in-Ok.text.now c.in-None.ensures not) command h.1
