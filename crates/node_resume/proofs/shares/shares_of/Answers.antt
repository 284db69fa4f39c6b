use Rattle.std.proofs.Common.{◌≡◌, ◌+◌, ◌++◌, ◌∷◌, [], ◌∙◌, ℕ, List, Bool, get_or, map, refl, sym, ap, take}
use Rattle.std.specs.Prelude.{◌==◌}
use Rattle.std.specs.List.{list_any}
use Rattle.std.proofs.lemmas.List.{take_more}
use Rattle.node_resume.specs.declared.shares.Share.{Share}
use Rattle.node_resume.specs.Shares.{firsts, share_of}
use Rattle.node_resume.proofs.Firsts.{shares-again, shares-more}
use Rattle.node_resume.proofs.shares.shares_of.Goals as goal
use Rattle.node_resume.proofs.shares.shares_of.Goals.{then-not-has_share+in_ok-push, else-not-has_share}

pub loop-folder-preserved : goal.loop-folder-preserved
loop-folder-preserved c =
    let share : ℕ → Share = share_of c.args.config.now c.args.state.now c.args.peer.now.device in
    let i = c.loop-folder.folder-index in
    let folders : List ℕ = c.args.peer.now.folders in
    let items : List ℕ = c.as_slice-folder-items.result.now in
    let x : ℕ = get_or items i 0 in
    let same : items ≡ folders = c.as_slice-folder-items.ensures in
    let more : take (i + 1) folders ≡ take i folders ++ x ∷ [] =
    ap (take (i + 1)) (sym same) ∙ take_more items i 0 c.loop-folder-test.true ∙ ap (λ (l : List ℕ). take i l ++ x ∷ []) same in
    let has : list_any (λ (s : Share). s.folder == x) (map share (firsts (take i folders))) ≡ c.has_share.result =
    ap (list_any (λ (s : Share). s.folder == x)) (sym c.loop-folder.invariant ∙ sym c.as_slice.ensures.value) ∙ sym c.has_share.ensures in
    let made : ℕ → Share = λ n. record { folder = x; kept_index_id = n } in
    let onward = ap (λ (l : List ℕ). map share (firsts l)) (sym more) in
    elim c.if-not-has_share.branch [
      | then-not-has_share+in_ok-push w ↦
          ap (λ v. v.items) w.shares-is ∙ w.in_ok-push.ensures.items ∙ ap (λ n. c.loop-folder.shares.items ++ made n ∷ []) w.kept_index_id.ensures ∙ ap (λ (l : List Share). l ++ share x ∷ []) c.loop-folder.invariant
          ∙ sym (shares-more share (λ y. refl) x (take i folders) (has ∙ w.if-not-has_share.true)) ∙ onward
      | else-not-has_share w ↦
          ap (λ v. v.items) w.shares-is ∙ c.loop-folder.invariant
          ∙ sym (shares-again share (λ y. refl) x (take i folders) (has ∙ w.if-not-has_share.false)) ∙ onward
    ]
