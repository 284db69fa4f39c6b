use Rattle.std.proofs.Common.{Ok, ap, inr, ◌∙◌}
use Rattle.folder_core.specs.declared.answer.Answer.TheVariants.{Begun}
use Rattle.folder_core.specs.declared.change.Change.TheVariants.{BeginPull}
use Rattle.folder_calls.specs.Calls.{begin_value}
use Rattle.sync_pull.proofs.ChainLemmas.{gets}
use Rattle.sync_pull.specs.Moments.{begun}
use Rattle.sync_pull.proofs.TargetLemmas.{begun-pullable}
use Rattle.sync_pull.proofs.pull.pull_name.Goals as goal

pub returns-in-Ok-Begun-clause-comes : goal.returns-in-Ok-Begun-clause-comes
returns-in-Ok-Begun-clause-comes g c = inr (
  c.in-Ok-Begun.ticket,
  g.W.FolderCalls.view c.begin_pull.new.self,
  gets _ _ (BeginPull c.args.name.now) _ (Begun c.in-Ok-Begun.ticket) c.in-Ok.ensures.changes
      (ap begin_value c.in-Ok-Begun.is ∙ ap (λ b. begin_value (Ok b)) c.in-Ok-Begun.field-0-is),
  record {
    ends = c.pull_begun.ensures.ends;
    done = c.pull_begun.ensures.done;
    reasons = c.pull_begun.ensures.reasons;
    kept = c.pull_begun.ensures.kept;
    left = c.pull_begun.ensures.left;
    saved = c.pull_begun.ensures.saved;
    temporary = c.pull_begun.ensures.temporary;
    alone = c.pull_begun.ensures.alone;
    entered = c.pull_begun.ensures.entered;
    free = c.pull_begun.ensures.free;
  },
)

pub returns-in-Ok-Begun-clause-checks : goal.returns-in-Ok-Begun-clause-checks
returns-in-Ok-Begun-clause-checks g c = begun c.in-Ok-Begun.ticket (g.W.FolderCalls.view c.begin_pull.new.self)
    (gets _ _ (BeginPull c.args.name.now) _ (Begun c.in-Ok-Begun.ticket) c.in-Ok.ensures.changes
    (ap begin_value c.in-Ok-Begun.is ∙ ap (λ b. begin_value (Ok b)) c.in-Ok-Begun.field-0-is)) c.pull_begun.ensures.ends c.pull_begun.ensures.checks

pub pull_begun-requires-clause-target : goal.pull_begun-requires-clause-target
pull_begun-requires-clause-target g c = λ _ _.
    begun-pullable _ _ c.args.name.now c.in-Ok-Begun.ticket
    (gets _ _ (BeginPull c.args.name.now) _ (Begun c.in-Ok-Begun.ticket) c.in-Ok.ensures.changes
    (ap begin_value c.in-Ok-Begun.is ∙ ap (λ b. begin_value (Ok b)) c.in-Ok-Begun.field-0-is))
