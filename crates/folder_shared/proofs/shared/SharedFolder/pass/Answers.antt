use Rattle.std.proofs.Common.{refl}
use Rattle.folder_shared.proofs.Moves.{blanks}
use Rattle.folder_shared.proofs.Numbering.{back-rule, number-rule, numbered-pass}
use Rattle.folder_shared.proofs.shared.SharedFolder.pass.Goals as goal

pub another-token-requires-clause-rule : goal.another-token-requires-clause-rule
another-token-requires-clause-rule g c = blanks _ _ c.take-blank.ensures.blank.idle

pub put-requires-clause-rule : goal.put-requires-clause-rule
put-requires-clause-rule g c = let n = c.in-Some.ensures.given in
    (number-rule c.args.self.now c.take-blank.result.0 c.take-blank.ensures.blank _ c.another-token.ensures.rule.1 c.take-recorded.result _ c.take-recorded.ensures.taken c.add_pass.new.self c.in-Some.number n.1 n.2 _ _, λ items views k at. tt)

pub put-requires-in-None-clause-rule : goal.put-requires-in-None-clause-rule
put-requires-in-None-clause-rule g c = let n = c.in-None.ensures.full refl in
    (back-rule c.args.self.now c.take-blank.result.0 c.take-blank.ensures.blank _ c.another-token.ensures.rule.1 c.take-recorded.result _ c.take-recorded.ensures.taken c.add_pass.new.self n.1 _ _, λ items views k at. tt)

pub returns-in-Some-clause-pass : goal.returns-in-Some-clause-pass
returns-in-Some-clause-pass g c = let n = c.in-Some.ensures.given in (
  numbered-pass c.args.self.now c.take-blank.result.0 c.take-blank.ensures.blank _ c.another-token.ensures.rule.1 c.take-recorded.result _ c.take-recorded.ensures.taken c.add_pass.new.self c.in-Some.number n.1 n.2
      c.len.ensures.history (record { number = c.in-Some.number; seen = 0; token = c.put.new.token }) refl refl c.put.ensures.seat c.put.ensures.rule,
  refl,
)
