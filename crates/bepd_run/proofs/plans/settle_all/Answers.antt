use Rattle.std.proofs.Common.{◌≡◌, ◌++◌, ◌∷◌, [], ◌∙◌, rules, append_assoc, ap, sym, subst}
use Rattle.std.specs.List.{AllZip}
use Rattle.bepd_run.specs.Plans.{IsSettledFolder, plans_under}
use Rattle.bepd_run.proofs.Beginning.{zip-push}
use Rattle.bepd_run.proofs.plans.settle_all.Goals as goal

pub loop-folder-preserved : goal.loop-folder-preserved
loop-folder-preserved g c =
    let folder = c.in-Some.folder in
    let yielded = c.loop-folder.yielded in
    let step : c.loop-folder.folder-iterator.rest.items ≡ folder ∷ c.next.new.self.rest.items = search rules in
    let came = c.loop-folder.invariant.divided ∙ ap (λ l. yielded ++ l) step in
    record {
      each = subst (AllZip IsSettledFolder (yielded ++ folder ∷ [])) (sym c.in_ok-push.ensures.items)
          (zip-push IsSettledFolder yielded c.loop-folder.settled.items folder c.in_ok-settle_folder.field-0 c.loop-folder.invariant.each
          (plans_under c.loop-folder.plans.items folder.settings.id, c.in_ok-settle_folder.ensures.settled));
      divided = came ∙ sym (append_assoc yielded (folder ∷ []) c.next.new.self.rest.items);
    }
