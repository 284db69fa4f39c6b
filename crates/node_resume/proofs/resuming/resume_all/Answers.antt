use Rattle.std.proofs.Common.{◌≡◌, ◌∙◌, ℕ, ◌+◌, ◌++◌, ◌∷◌, [], List, map, sym, ap, subst, take}
use Rattle.std.specs.List.{enumerate_from}
use Rattle.std.proofs.lemmas.List.{map-append}
use Rattle.node_config.specs.declared.config.FolderConfig.{FolderConfig}
use Rattle.node_resume.specs.Resumed.{Resumed, resumed_from, stored_of, taken}
use Rattle.node_resume.proofs.Listed.{each-push}
use Rattle.node_resume.proofs.resuming.resume_all.Goals as goal

pub loop-place-preserved : goal.loop-place-preserved
loop-place-preserved c =
    let h : ℕ × FolderConfig → Resumed = λ f. resumed_from c.args.config.now c.args.new_index_id c.args.is_left f.0 (stored_of f.1.id c.args.state.now.folders) in
    let i : ℕ = c.loop-place.place in
    let x : FolderConfig = c.index-folders-place.result in
    let more : map h (enumerate_from 0 (take (i + 1) c.args.config.now.folders)) ≡ map h (enumerate_from 0 (take i c.args.config.now.folders)) ++ h (i, x) ∷ [] =
    subst (λ (l : List FolderConfig). map h (enumerate_from 0 (take (i + 1) l)) ≡ map h (enumerate_from 0 (take i l)) ++ h (i, x) ∷ []) c.as_slice-folders.ensures
    (each-push h c.as_slice-folders.result.now i x c.loop-place-test.true c.index-folders-place.is) in
    let found = c.stored_of-stored.ensures ∙ (λ j. stored_of (c.as_str.ensures j) (c.as_slice.ensures j)) in
    let new : taken c.in_ok-resume.field-0 ≡ h (i, x) = c.in_ok-resume.ensures ∙ ap (resumed_from c.args.config.now c.args.new_index_id c.args.is_left i) found in
    ap (map taken) c.in_ok-push.ensures.items ∙ map-append taken c.loop-place.resumed.items (c.in_ok-resume.field-0 ∷ [])
    ∙ (λ j. c.loop-place.invariant j ++ new j ∷ []) ∙ sym more
