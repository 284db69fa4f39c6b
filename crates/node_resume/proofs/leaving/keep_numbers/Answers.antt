use Rattle.std.proofs.Common.{rules, ◌≡◌, ◌∙◌, ℕ, ◌<◌, ◌≤◌, true, false, List, [], ◌∷◌, length, get_or, take, min, refl, sym, ap, arith}
use Rattle.std.specs.FinMap.{insert}
use Rattle.std.specs.Iterator.Adapters.{zip_first, zip_second}
use Rattle.std.specs.Slice.Iter.{iter_rest}
use Rattle.std.specs.List.{zip}
use Rattle.std.proofs.lemmas.List.{length_push, take_all}
use Rattle.std.proofs.lemmas.Slice.Zip.{zip_turn, zip_end, length-zip}
use Rattle.node_state.specs.Peers.{Peers}
use Rattle.node_resume.specs.declared.shares.Share.{Share}
use Rattle.node_resume.proofs.KeptNumbers.{is-picked, is_picked, keep, kept-more, kept-same, not-picked-folder, not-picked-number, pair-at, picked}
use Rattle.node_resume.proofs.leaving.keep_numbers.Goals as goal
use Rattle.node_resume.proofs.leaving.keep_numbers.Goals.{else-share-place-via-then-share-place+else-index_id-ne0, else-share-place-via-else-share-place}

pub loop-share-preserved-then-index_id-ne0 : goal.loop-share-preserved-then-index_id-ne0
loop-share-preserved-then-index_id-ne0 c =
    let shares : List Share = c.args.shares.now in
    let kept : List ℕ = c.args.kept.now in
    let n : ℕ = length c.loop-share.yielded in
    let p : Share × ℕ = (c.in-Some.share.now, c.in-Some.index_id.now) in
    let first : iter_rest (zip_first c.into_iter-share-iterator.result) ≡ c.args.shares.now = search rules in
    let second : iter_rest (zip_second c.into_iter-share-iterator.result) ≡ c.args.kept.now = search rules in
    let t = zip_turn c.args.shares.now c.args.kept.now c.loop-share.yielded c.into_iter-share-iterator.result c.loop-share.share-iterator c.next.new.self c.next.result first second c.loop-share.yielded_by (c.in-Some.share, c.in-Some.index_id) c.in-Some.is c.next.ensures.steps in
    let long = length-zip shares kept in
    let below : n < length (zip shares kept) = omega (arith, t.0, t.1) in
    let is : p ≡ get_or (zip shares kept) n p = pair-at shares kept n p.0 p.1 t.0 t.1 (t.2 p.0) (t.3 p.1) in
    c.in_ok-insert.ensures.ok
    ∙ ap (λ (m : Peers). insert m c.args.device p.1) c.loop-share.invariant
    ∙ sym (kept-more c.args.place c.args.device c.args.indexes.now (zip shares kept) n p below is (is-picked c.args.place p c.if-share-place.true c.if-index_id-ne0.true))
    ∙ ap (λ k. keep c.args.indexes.now (picked c.args.place c.args.device (take k (zip shares kept)))) (sym (length_push c.loop-share.yielded (c.in-Some.share, c.in-Some.index_id)))

pub loop-share-preserved : goal.loop-share-preserved
loop-share-preserved c =
    let shares : List Share = c.args.shares.now in
    let kept : List ℕ = c.args.kept.now in
    let n : ℕ = length c.loop-share.yielded in
    let p : Share × ℕ = (c.in-Some.share.now, c.in-Some.index_id.now) in
    let first : iter_rest (zip_first c.into_iter-share-iterator.result) ≡ c.args.shares.now = search rules in
    let second : iter_rest (zip_second c.into_iter-share-iterator.result) ≡ c.args.kept.now = search rules in
    let t = zip_turn c.args.shares.now c.args.kept.now c.loop-share.yielded c.into_iter-share-iterator.result c.loop-share.share-iterator c.next.new.self c.next.result first second c.loop-share.yielded_by (c.in-Some.share, c.in-Some.index_id) c.in-Some.is c.next.ensures.steps in
    let long = length-zip shares kept in
    let below : n < length (zip shares kept) = omega (arith, t.0, t.1) in
    let is : p ≡ get_or (zip shares kept) n p = pair-at shares kept n p.0 p.1 t.0 t.1 (t.2 p.0) (t.3 p.1) in
    let other : is_picked c.args.place p ≡ false = elim c.else-share-place.branch [
      | else-share-place-via-then-share-place+else-index_id-ne0 w ↦ not-picked-number c.args.place p w.if-index_id-ne0.false
      | else-share-place-via-else-share-place w ↦ not-picked-folder c.args.place p w.if-share-place.false
    ] in
    c.loop-share.invariant
    ∙ sym (kept-same c.args.place c.args.device c.args.indexes.now (zip shares kept) n p below is other)
    ∙ ap (λ k. keep c.args.indexes.now (picked c.args.place c.args.device (take k (zip shares kept)))) (sym (length_push c.loop-share.yielded (c.in-Some.share, c.in-Some.index_id)))

pub returns : goal.returns
returns c =
    let shares : List Share = c.args.shares.now in
    let kept : List ℕ = c.args.kept.now in
    let first : iter_rest (zip_first c.into_iter-share-iterator.result) ≡ c.args.shares.now = search rules in
    let second : iter_rest (zip_second c.into_iter-share-iterator.result) ≡ c.args.kept.now = search rules in
    let e = zip_end c.args.shares.now c.args.kept.now c.loop-share.yielded c.into_iter-share-iterator.result c.loop-share.share-iterator c.next.new.self c.next.result first second c.loop-share.yielded_by c.in-None.is c.next.ensures.steps in
    let long = length-zip shares kept in
    c.loop-share.invariant
    ∙ ap (λ l. keep c.args.indexes.now (picked c.args.place c.args.device l)) (take_all (length c.loop-share.yielded) (zip shares kept) (omega (arith, e, long)))
