use Rattle.std.proofs.Common.{ap, ◌∙◌, refl}
use Rattle.crossbeam_channel.specs.Claims.{view, Pass as Token}
use Rattle.folder_calls.specs.declared.history.History.{History}
use Rattle.folder_shared.specs.declared.known.Known.{Known}
use Rattle.folder_shared.specs.declared.shared.Pass.{Pass}
use Rattle.folder_shared.proofs.Joins.{joins}
use Rattle.folder_shared.proofs.Meets.{Course, met, met-one, met-other}
use Rattle.folder_shared.proofs.Moves.{blanks, compares}
use Rattle.folder_shared.proofs.Parts.{parts}
use Rattle.folder_shared.proofs.shared.LockedFolder.meet.Goals as goal

pub another-blank-requires-clause-rule : goal.another-blank-requires-clause-rule
another-blank-requires-clause-rule g c = blanks _ _ c.requires.one.idle

pub absorb-requires-clause-rule : goal.absorb-requires-clause-rule
absorb-requires-clause-rule g c = joins _ _ _ _ (ap (λ (v : Known). v.state) c.another-blank.ensures.rule.0 ∙ c.requires.one.idle) (ap (λ (t : Token History Known). (view t).state) c.replace-token.ensures.value ∙ c.requires.other.idle)

pub learn_as-requires-clause-rule : goal.learn_as-requires-clause-rule
learn_as-requires-clause-rule g c = compares _ _ (ap (λ (v : Known). v.state) c.absorb.ensures.rule)

pub another-requires-clause-rule : goal.another-requires-clause-rule
another-requires-clause-rule g c = parts _ _ (ap (λ (v : Known). v.state) (c.learn_as.ensures.channel.2 ∙ c.absorb.ensures.rule))

abbrev one-now : (g : _) (c : goal.After-other-1 g) → Pass g.row.C.Denot
one-now g c = record { number = c.args.one.now.number; seen = c.max-seen.result; token = c.another.new.pass }

abbrev other-now : (g : _) (c : goal.After-other-1 g) → Pass g.row.C.Denot
other-now g c = record { number = c.args.other.now.number; seen = c.max-seen.result; token = c.another.result }

abbrev course : (g : _) (c : goal.After-other-1 g) → Course (view c.args.one.now.token) (view c.args.other.now.token) (view c.another-blank.new.pass) (view c.replace-token.result) (view c.absorb.new.pass) (view c.learn_as.new.pass) (view c.another.new.pass) (view c.another.result) c.learn_as.ensures.rule.0
course g c = record {
  first = c.another-blank.ensures.rule.0;
  second = ap (λ (t : Token History Known). view t) c.replace-token.ensures.value;
  joins = c.absorb.ensures.rule;
  learns = c.learn_as.ensures.channel.2;
  agree = c.learn_as.ensures.rule.1;
  cuts = c.another.ensures.rule.0;
  rest = c.another.ensures.rule.1;
}

pub returns-clause-one : goal.returns-clause-one
returns-clause-one g c =
    (met-one c.args.self.now c.args.one.now c.args.other.now (one-now g c) (other-now g c) _ _ _ _ _ c.requires.one c.requires.other (course g c) refl refl c.max-seen.ensures refl c.another.ensures.channel.0, refl)

pub returns-clause-other : goal.returns-clause-other
returns-clause-other g c =
    (met-other c.args.self.now c.args.one.now c.args.other.now (one-now g c) (other-now g c) _ _ _ _ _ c.requires.one c.requires.other (course g c) refl refl c.max-seen.ensures refl c.another.ensures.channel.2, refl)

pub returns-clause-meets : goal.returns-clause-meets
returns-clause-meets g c =
    met c.args.self.now c.args.one.now c.args.other.now (one-now g c) (other-now g c) _ _ _ _ _ c.requires.one c.requires.other (course g c) refl refl c.max-seen.ensures refl
