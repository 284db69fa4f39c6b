use Rattle.std.proofs.Common.{◌≡◌, ◌++◌, ◌∷◌, ◌∙◌, [], ℕ, List, true, false, sym, ap}
use Rattle.std.specs.List.{list_any}
use Rattle.std.specs.Prelude.{bytes_eq}
use Rattle.node_replay.proofs.Firsts.{added}
use Rattle.node_replay.proofs.finding.add.Goals as goal

pub returns-then-has_id : goal.returns-then-has_id
returns-then-has_id c = λ xs is.
    let has : true ≡ list_any (λ (y : List ℕ). bytes_eq y c.args.id.now) c.args.ids.now.items =
    sym c.if-has_id.true ∙ c.has_id.ensures ∙ ap (list_any (λ (y : List ℕ). bytes_eq y c.args.id.now)) c.as_slice.ensures.value in
    added c.args.id.now xs c.args.ids.now.items true is has

pub returns : goal.returns
returns c = λ xs is.
    let has : false ≡ list_any (λ (y : List ℕ). bytes_eq y c.args.id.now) c.args.ids.now.items =
    sym c.if-has_id.false ∙ c.has_id.ensures ∙ ap (list_any (λ (y : List ℕ). bytes_eq y c.args.id.now)) c.as_slice.ensures.value in
    c.in_ok-push.ensures.items ∙ ap (λ (y : List ℕ). c.args.ids.now.items ++ y ∷ []) c.in_ok-new.ensures.value
    ∙ added c.args.id.now xs c.args.ids.now.items false is has
