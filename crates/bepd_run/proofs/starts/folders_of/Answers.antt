use Rattle.std.proofs.Common.{rules, ◌≡◌, ◌∙◌, ◌<◌, ◌+◌, ◌++◌, ◌∷◌, [], List, append_assoc, length, get_or, sym, ap, subst, arith}
use Rattle.std.specs.Prelude.{map}
use Rattle.std.proofs.lemmas.List.{length-append, map-append}
use Rattle.node_config.specs.declared.config.FolderConfig.{FolderConfig}
use Rattle.node_resume.specs.Resumed.{taken}
use Rattle.bepd_run.specs.Starts.{AreFolders, IsFolder}
use Rattle.bepd_run.proofs.Starting.{comes-below, each-more}
use Rattle.bepd_run.proofs.starts.folders_of.Goals as goal

pub loop-folder-preserved : goal.loop-folder-preserved
loop-folder-preserved c =
    let fs : List FolderConfig = c.args.config.now.folders in
    let step : c.loop-folder.folder-iterator.rest.items ≡ c.in-Some.folder ∷ c.next.new.self.rest.items = search rules in
    let came = c.loop-folder.invariant.divided ∙ ap (λ l. c.loop-folder.yielded ++ l) step in
    let below = comes-below c.args.resumed.items c.loop-folder.yielded c.in-Some.folder c.next.new.self.rest.items came in
    let all = c.requires in
    let count : length c.loop-folder.folders.items ≡ length c.loop-folder.yielded = c.loop-folder.invariant.count in
    let grown : c.push.new.self.items ≡ c.loop-folder.folders.items ++ c.in_ok-folder_of.field-0 ∷ [] = c.in_ok-push.ensures.items in
    let lt : length c.loop-folder.folders.items < length fs = omega arith in
    let x : FolderConfig = c.index-as_slice-place.result in
    let place : c.len-place.result ≡ length c.loop-folder.folders.items = search rules in
    let at : x ≡ get_or fs (length c.loop-folder.folders.items) x = c.index-as_slice-place.is ∙ (λ j. get_or (c.as_slice.ensures j) (place j) x) in
    let one = each-more (λ r s f. IsFolder f r s) (map taken c.loop-folder.yielded) c.loop-folder.folders.items fs (taken c.in-Some.folder) c.in_ok-folder_of.field-0 x
    c.loop-folder.invariant.each lt at c.in_ok-folder_of.ensures in
    let long : length c.push.new.self.items ≡ length c.loop-folder.folders.items + 1 = ap length grown ∙ length-append c.loop-folder.folders.items (c.in_ok-folder_of.field-0 ∷ []) in
    let longer : length (c.loop-folder.yielded ++ c.in-Some.folder ∷ []) ≡ length c.loop-folder.yielded + 1 = length-append c.loop-folder.yielded (c.in-Some.folder ∷ []) in
    record {
      count = omega arith;
      each =
          subst (λ l. AreFolders l c.push.new.self.items fs) (sym (map-append taken c.loop-folder.yielded (c.in-Some.folder ∷ [])))
          (subst (λ l. AreFolders (map taken c.loop-folder.yielded ++ taken c.in-Some.folder ∷ []) l fs) (sym grown) one);
      divided = came ∙ sym (append_assoc c.loop-folder.yielded (c.in-Some.folder ∷ []) c.next.new.self.rest.items);
    }
