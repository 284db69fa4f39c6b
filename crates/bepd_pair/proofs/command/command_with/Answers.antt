use Rattle.std.proofs.Common.{rules, ◌≡◌, codes}
use Rattle.bepd_pair.proofs.Grammar.{no_action}
use Rattle.bepd_pair.proofs.command.command_with.Goals as goal

pub returns-in-None : goal.returns-in-None
returns-in-None c =
    let not : c.args.word.now ≡ codes "time" → ⊥ = search rules in
    no_action c.args.word.now c.args.rest.now c.requires not c.in-None.ensures
