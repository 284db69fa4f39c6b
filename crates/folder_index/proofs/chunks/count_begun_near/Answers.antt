use Rattle.std.proofs.Common.{◌≡◌, ◌+◌, ◌<◌, true, length, take, drop, sym, subst, ◌∙◌, arith}
use Rattle.std.specs.Prelude.{filter, nat_lt, not, vec_len}
use Rattle.std.specs.List.{list_all}
use Rattle.std.proofs.lemmas.List.{take_rest}
use Rattle.std.proofs.lemmas.Option.{slice_get_within}
use Rattle.folder_index.specs.Chunks.{Chunk, begins_by}
use Rattle.folder_index.proofs.Chunked.{chunks_parted, flat}
use Rattle.folder_index.proofs.Listed.{Sorted}
use Rattle.folder_index.proofs.Nearby.{back_filled, back_sorted, begun_at, cut_back, earlier_pass}
use Rattle.folder_index.proofs.chunks.count_begun_near.Goals as goal

pub count_begun_soon-requires-clause-filled : goal.count_begun_soon-requires-clause-filled
count_begun_soon-requires-clause-filled c =
    let vs = c.args.chunks.now in
    subst (λ l. list_all (λ (v : Chunk). nat_lt 0 (vec_len v)) l ≡ true) (sym (take_rest vs (c.args.near.chunk + 1))) (back_filled vs (c.args.near.chunk + 1) c.requires.filled)

pub count_begun_soon-requires-clause-ordered : goal.count_begun_soon-requires-clause-ordered
count_begun_soon-requires-clause-ordered c =
    let vs = c.args.chunks.now in
    subst (λ l. Sorted (flat l)) (sym (take_rest vs (c.args.near.chunk + 1))) (back_sorted vs (c.args.near.chunk + 1) c.requires.ordered)

pub returns-then-is_after-clause-begun : goal.returns-then-is_after-clause-begun
returns-then-is_after-clause-begun c =
    let n = c.args.name.now in
    let vs = c.args.chunks.now in
    let near = c.args.near.chunk in
    let k = c.count_begun_soon.result in
    let there = begun_at n vs near c.args.near.place c.requires.ordered (sym c.is_after.ensures ∙ c.if-is_after.true) in
    let short : near < length vs = slice_get_within vs near there.0 there.1 in
    let pass = earlier_pass (λ (v : Chunk). begins_by n v.items) vs (chunks_parted n vs c.requires.filled c.requires.ordered) near there.0 there.1 there.2 (near + 1) (omega arith) in
    (cut_back (λ (v : Chunk). begins_by n v.items) vs (near + 1) k (omega (arith, short)) pass
    (subst (λ l. take k l ≡ filter (λ (v : Chunk). begins_by n v.items) l) (take_rest vs (near + 1)) c.count_begun_soon.ensures.begun)
    (subst (λ l. drop k l ≡ filter (λ (v : Chunk). not (begins_by n v.items)) l) (take_rest vs (near + 1)) c.count_begun_soon.ensures.others)).front

pub returns-then-is_after-clause-others : goal.returns-then-is_after-clause-others
returns-then-is_after-clause-others c =
    let n = c.args.name.now in
    let vs = c.args.chunks.now in
    let near = c.args.near.chunk in
    let k = c.count_begun_soon.result in
    let there = begun_at n vs near c.args.near.place c.requires.ordered (sym c.is_after.ensures ∙ c.if-is_after.true) in
    let short : near < length vs = slice_get_within vs near there.0 there.1 in
    let pass = earlier_pass (λ (v : Chunk). begins_by n v.items) vs (chunks_parted n vs c.requires.filled c.requires.ordered) near there.0 there.1 there.2 (near + 1) (omega arith) in
    (cut_back (λ (v : Chunk). begins_by n v.items) vs (near + 1) k (omega (arith, short)) pass
    (subst (λ l. take k l ≡ filter (λ (v : Chunk). begins_by n v.items) l) (take_rest vs (near + 1)) c.count_begun_soon.ensures.begun)
    (subst (λ l. drop k l ≡ filter (λ (v : Chunk). not (begins_by n v.items)) l) (take_rest vs (near + 1)) c.count_begun_soon.ensures.others)).back
