use Rattle.std.proofs.Common.{rules, ◌≡◌, true, codes}
use Rattle.std.specs.Prelude.{is_some}
use Rattle.bepd_pair.proofs.Grammar.{no_put, no_limit, no_name_in}
use Rattle.bepd_pair.proofs.command.named_action.Goals as goal

pub returns-in_err-name : goal.returns-in_err-name
returns-in_err-name c =
    let is : c.args.word.now ≡ codes "put" = search rules in
    rw c.from_residual.ensures (no_put c.args.word.now c.args.argument.now is c.in_err-name.ensures)

pub returns-in_err-limit_of : goal.returns-in_err-limit_of
returns-in_err-limit_of c =
    let is : c.args.word.now ≡ codes "conflicts" = search rules in
    rw c.from_residual-in_err-limit_of.ensures (no_limit c.args.word.now c.args.argument.now is c.in_err-limit_of.ensures)

pub returns-then-is_some : goal.returns-then-is_some
returns-then-is_some c =
    let put : c.args.word.now ≡ codes "put" → ⊥ = search rules in
    let conflicts : c.args.word.now ≡ codes "conflicts" → ⊥ = search rules in
    let some : is_some c.first_word-2.result ≡ true = search rules in
    no_name_in c.args.word.now c.args.argument.now c.first_word-2.result put conflicts some c.first_word-2.ensures
