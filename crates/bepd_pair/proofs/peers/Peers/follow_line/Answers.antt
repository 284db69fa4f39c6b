use Rattle.std.proofs.Common.{rules, ◌≡◌, ◌++◌, ◌∙◌, ap, Some}
use Rattle.bepd_pair.specs.Lines.{refused_line}
use Rattle.bepd_pair.specs.declared.refused.Refused.TheVariants.{UnknownCommand}
use Rattle.std.specs.Prelude.{option_copied}
use Rattle.bepd_pair.proofs.Told.{told_none, told_line}
use Rattle.bepd_pair.proofs.peers.Peers.follow_line.Goals as goal

pub returns-in_default-command_of : goal.returns-in_default-command_of
returns-in_default-command_of g c =
    let is : option_copied c.args.line ≡ Some c.in-Some.line.now = search rules in
    told_none (option_copied c.args.line) c.in-Some.line.now c.args.self.now c.push_refused-in_default-command_of.new.lines.items is c.in_default-command_of.ensures
    (c.in_ok-push_refused-2.ensures ∙ ap (λ l. l ++ refused_line UnknownCommand) c.new-lines.ensures.items)

pub returns : goal.returns
returns g c =
    let is : option_copied c.args.line ≡ Some c.in-Some.line.now = search rules in
    told_line (option_copied c.args.line) c.in-Some.line.now c.args.self.now c.follow.new.self c.follow.new.lines.items is
    (c.in_ok-follow.ensures c.in-Some.line.now c.in-Some-command_of.ensures)
