use Rattle.std.proofs.Common.{rules, ◌≡◌, ◌∙◌, Some, sym, codes}
use Rattle.clap.specs.Words.{found_of, rows_of, subcommand_name_of, subcommand_rows_of}
use Rattle.bepd.proofs.Matching.{first_of-rows, given_value, name_of_rows}
use Rattle.bepd.proofs.command.verbose_in.Goals as goal

pub returns : goal.returns
returns c =
    let found = found_of c.in_ok-subcommand_matches.field-0.now in
    let name : subcommand_name_of c.args.matches.now ≡ Some (codes "run") = search rules in
    c.get_str.ensures ∙ sym (first_of-rows found (codes "verbose"))
    ∙ sym (given_value (codes "run") (codes "verbose") (subcommand_rows_of c.args.matches.now) (rows_of found) (name_of_rows c.args.matches.now ∙ name) c.in_ok-subcommand_matches.ensures.rows)
