use Rattle.std.proofs.Common.{rules, ◌≡◌, ◌++◌, ◌∷◌, [], ◌∙◌, List, append_assoc, sym, ap, subst}
use Rattle.folder_shared.specs.declared.shared.SharedFolder.{SharedFolder}
use Rattle.node_threads.specs.Left.{AreClosed}
use Rattle.node_threads.proofs.Leaving.{closed_more}
use Rattle.node_threads.proofs.folders.close_all.Goals as goal

pub loop-folder-preserved : goal.loop-folder-preserved
loop-folder-preserved g c =
    let step : c.loop-folder.folder-iterator.rest.items ≡ c.in-Some.folder ∷ c.next.new.self.rest.items = search rules in
    let grown : c.push.new.self.items ≡ c.loop-folder.cores.items ++ c.in_ok-close.field-0 ∷ [] = search rules in
    record {
      closed =
          rw grown (closed_more g.C.FolderCore.state c.loop-folder.yielded c.in-Some.folder c.loop-folder.cores.items c.in_ok-close.field-0
          c.loop-folder.invariant.closed c.in_ok-close.ensures);
      divided =
          c.loop-folder.invariant.divided ∙ ap (λ l. c.loop-folder.yielded ++ l) step
          ∙ sym (append_assoc c.loop-folder.yielded (c.in-Some.folder ∷ []) c.next.new.self.rest.items);
    }
