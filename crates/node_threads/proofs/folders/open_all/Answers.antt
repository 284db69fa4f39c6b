use Rattle.std.proofs.Common.{rules, ◌≡◌, ◌++◌, ◌∷◌, [], ◌∙◌, List, append_assoc, sym, ap, subst}
use Rattle.node_threads.specs.Left.{AreOpened}
use Rattle.node_threads.proofs.Leaving.{opened_more}
use Rattle.node_threads.proofs.folders.open_all.Goals as goal

pub loop-folder-preserved : goal.loop-folder-preserved
loop-folder-preserved g c =
    let step : c.loop-folder.folder-iterator.rest.items ≡ c.in-Some.folder ∷ c.next.new.self.rest.items = search rules in
    let grown : c.push-in-loop-folder.new.self.items ≡ c.loop-folder.shared.items ++ c.in_ok-open_folder.field-0 ∷ [] = search rules in
    record {
      opened =
          rw grown (opened_more g.C.FolderCore.state c.loop-folder.yielded c.in-Some.folder c.loop-folder.shared.items c.in_ok-open_folder.field-0
          c.loop-folder.invariant.opened c.in_ok-open_folder.ensures);
      divided =
          c.loop-folder.invariant.divided ∙ ap (λ l. c.loop-folder.yielded ++ l) step
          ∙ sym (append_assoc c.loop-folder.yielded (c.in-Some.folder ∷ []) c.next.new.self.rest.items);
    }
