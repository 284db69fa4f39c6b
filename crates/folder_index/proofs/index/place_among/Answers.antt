use Rattle.std.proofs.Common.{[], ◌∷◌, ◌++◌, take, sym, subst, ap, ◌∙◌, arith, ◌≡◌}
use Rattle.std.specs.Prelude.{find, bytes_eq}
use Rattle.std.proofs.lemmas.List.{take_all, take_more}
use Rattle.folder_index.specs.Locals.{HasNoBlock, IsBlockPlace, placed}
use Rattle.folder_index.proofs.Placed.{block_found, none_more}
use Rattle.folder_index.proofs.index.place_among.Goals as goal

pub returns-in_err-copy-clause-none : goal.returns-in_err-copy-clause-none
returns-in_err-copy-clause-none c = λ none.
    let rs = c.args.records.now in
    let hash = c.args.hash.now in
    let r = c.announced-item.result in
    let b = c.in-Some.block.now in
    absurd (none (placed r b) (block_found rs hash r b (c.loop-announced.announced-index, c.loop-announced-test.true, sym c.announced-item.is)
    (c.in-Some.ensures ∙ ap (find (λ b. bytes_eq b.hash hash)) c.live_blocks.ensures)))

pub returns-in-Some-clause-found : goal.returns-in-Some-clause-found
returns-in-Some-clause-found c =
    let rs = c.args.records.now in
    let hash = c.args.hash.now in
    let r = c.announced-item.result in
    let b = c.in-Some.block.now in
    subst (λ n. IsBlockPlace rs hash (record { name = n; offset = b.offset; size = b.size })) (sym (c.in_ok-copy.ensures ∙ c.name.ensures))
    (block_found rs hash r b (c.loop-announced.announced-index, c.loop-announced-test.true, sym c.announced-item.is)
    (c.in-Some.ensures ∙ ap (find (λ b. bytes_eq b.hash hash)) c.live_blocks.ensures))

pub loop-announced-preserved : goal.loop-announced-preserved
loop-announced-preserved c =
    let rs = c.args.records.now in
    let hash = c.args.hash.now in
    let r = c.announced-item.result in
    let i = c.loop-announced.announced-index in
    subst (λ xs. HasNoBlock xs hash) (sym (take_more rs i r c.loop-announced-test.true ∙ ap (λ x. take i rs ++ x ∷ []) (sym c.announced-item.is)))
    (none_more (take i rs) hash r c.loop-announced.invariant (c.in_default.ensures ∙ ap (find (λ b. bytes_eq b.hash hash)) c.live_blocks.ensures))

pub returns-clause-found : goal.returns-clause-found
returns-clause-found c =
    let rs = c.args.records.now in
    let all : take c.loop-announced.announced-index rs ≡ rs = take_all c.loop-announced.announced-index rs (let f = c.loop-announced-test.false in omega arith) in
    subst (λ xs. HasNoBlock xs c.args.hash.now) all c.loop-announced.invariant
