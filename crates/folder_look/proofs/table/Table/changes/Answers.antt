use Rattle.std.proofs.Common.{◌≡◌, ◌∙◌, ◌∷◌, [], ap, sym, map, get_or, refl, List, ℕ, Bor, Bool}
use Rattle.std.specs.Prelude.{is_none}
use Rattle.std.proofs.lemmas.List.{map-append}
use Rattle.folder_look.specs.Tables.{Named, facts_of, is_new, named, news, row_facts}
use Rattle.folder_look.proofs.TableLemmas.{no-row, row-entry, row-within, told-more, told-same}
use Rattle.folder_look.proofs.table.Table.changes.Goals as goal
use Rattle.folder_look.proofs.table.Table.changes.Goals.{then-is_news+in_ok-push, else-is_news, then-lacks+in_ok-push-2, else-lacks}

pub loop-row-preserved : goal.loop-row-preserved
loop-row-preserved c =
    let view = c.args.now.now in
    let names = c.as_slice.result.now in
    let rows = c.deref-row-items.result.now in
    let i = c.loop-row.row-index in
    let same : map (named names) rows ≡ view = (λ k. map (named (c.as_slice.ensures.value k)) (c.deref-row-items.ensures.value k)) ∙ c.now.view_is in
    let p : Named → Bool = λ e. is_new (facts_of e.0 c.args.self.now) e.1 in
    let e : Named = (c.name_of-name.result.now, c.facts.result) in
    let lt = row-within names rows view i same c.loop-row-test.true in
    let is = row-entry names rows view i no-row c.name_of-name.result.now c.facts.result same c.loop-row-test.true c.name_of-name.ensures c.facts.ensures in
    let now = λ (n : Bor (List ℕ)). n.now in
    let before = c.loop-row.names.items in
    elim c.if-is_news.branch [
      | then-is_news+in_ok-push w ↦ ap (λ v. map now v.items) w.names-is ∙ ap (map now) w.in_ok-push.ensures.items ∙ map-append now before (c.name_of-name.result ∷ [])
          ∙ told-more p view i e lt is [] (map now before) c.loop-row.invariant (sym c.is_news.ensures ∙ w.if-is_news.true)
      | else-is_news w ↦ ap (λ v. map now v.items) w.names-is ∙ told-same p view i e lt is [] (map now before) c.loop-row.invariant (sym c.is_news.ensures ∙ w.if-is_news.false)
    ]

pub loop-row-2-preserved : goal.loop-row-2-preserved
loop-row-2-preserved c =
    let view = c.args.self.now in
    let names = c.as_slice-in-loop-row-2.result.now in
    let rows = c.deref-row-items-2.result.now in
    let i = c.loop-row-2.row-index in
    let same : map (named names) rows ≡ view = (λ k. map (named (c.as_slice-in-loop-row-2.ensures.value k)) (c.deref-row-items-2.ensures.value k)) ∙ c.self.view_is in
    let p : Named → Bool = λ e. is_none (facts_of e.0 c.args.now.now) in
    let name = c.name_of-name-in-loop-row-2.result.now in
    let facts = row_facts (get_or rows i no-row) in
    let lt = row-within names rows view i same c.loop-row-2-test.true in
    let is = row-entry names rows view i no-row name facts same c.loop-row-2-test.true c.name_of-name-in-loop-row-2.ensures refl in
    let now = λ (n : Bor (List ℕ)). n.now in
    let first = map (λ (e : Named). e.0) (news c.args.self.now c.args.now.now) in
    let before = c.loop-row-2.names.items in
    elim c.if-lacks.branch [
      | then-lacks+in_ok-push-2 w ↦ ap (λ v. map now v.items) w.names-is ∙ ap (map now) w.in_ok-push-2.ensures.items ∙ map-append now before (c.name_of-name-in-loop-row-2.result ∷ [])
          ∙ told-more p view i (name, facts) lt is first (map now before) c.loop-row-2.invariant (sym c.lacks.ensures ∙ w.if-lacks.true)
      | else-lacks w ↦ ap (λ v. map now v.items) w.names-is ∙ told-same p view i (name, facts) lt is first (map now before) c.loop-row-2.invariant (sym c.lacks.ensures ∙ w.if-lacks.false)
    ]
