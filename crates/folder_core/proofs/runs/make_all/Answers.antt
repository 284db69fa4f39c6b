use Rattle.std.proofs.Common.{◌≡◌, ◌∷◌, sym, subst, ◌∙◌, ap, ◌++◌, []}
use Rattle.folder_core.specs.Steps.{step}
use Rattle.folder_core.proofs.ChangeRuns.{Ran, ran-more}
use Rattle.folder_core.proofs.runs.make_all.Goals as goal

pub loop-change-preserved : goal.loop-change-preserved
loop-change-preserved g c =
    let left : c.loop-change.change-iterator.rest.items ≡ c.in-Some.change ∷ c.next.new.self.rest.items = c.in-Some.ensures.steps.0 in
    let made : step (g.C.FolderCore.state c.loop-change.core) c.in-Some.change ≡ (c.in-Ok.answer, g.C.FolderCore.state c.make.new.core) = c.in-Ok.ensures.made in
    let before = subst (λ rest. Ran (g.C.FolderCore.state c.args.core.now) (g.C.FolderCore.state c.loop-change.core) c.args.changes rest c.loop-change.answers.items) left c.loop-change.invariant.2 in (
      tt,
      tt,
      subst (Ran (g.C.FolderCore.state c.args.core.now) (g.C.FolderCore.state c.make.new.core) c.args.changes c.next.new.self.rest.items) (sym (c.push_reserved.ensures.items ∙ ap (λ es. es ++ c.in-Ok.answer ∷ []) c.reserve.ensures.items))
          (ran-more _ _ _ _ _ _ _ _ before made),
    )
