use Rattle.std.proofs.Common.{◌≡◌, ◌+◌, ap, ◌∙◌, arith}
use Rattle.std.specs.Prelude.{cond, nat_lt, slice_set, vec_len}
use Rattle.std.specs.List.{insert, list_all}
use Rattle.folder_index.specs.declared.chunks.Chunks.{Chunks}
use Rattle.folder_index.specs.Chunks.{AreFilled, Chunk}
use Rattle.folder_index.proofs.Chunked.{begun_filled, chunk_read, filled_set, flat, parted_groups, same_groups, with_chunk}
use Rattle.folder_index.proofs.chunks.Chunks.split.Goals as goal

pub returns-in_err-upper-clause-same : goal.returns-in_err-upper-clause-same
returns-in_err-upper-clause-same c =
    let cs : Chunks = record { chunks = c.reserve.new.self; count = c.args.self.now.count } in
    let v = c.index_mut.result.now in
    same_groups cs c.args.at v (chunk_read cs c.args.at v (omega (arith, c.requires.at, c.reserve.ensures.len)) c.index_mut.ensures.value) c.upper_half.new.chunk c.in_err-upper.ensures.err
    ∙ ap flat c.reserve.ensures.items

pub returns-in_err-upper-clause-filled : goal.returns-in_err-upper-clause-filled
returns-in_err-upper-clause-filled c =
    let cs : Chunks = record { chunks = c.reserve.new.self; count = c.args.self.now.count } in
    let filled : AreFilled cs = ap (list_all (λ (v : Chunk). nat_lt 0 (vec_len v))) c.reserve.ensures.items ∙ c.requires.filled in
    filled_set cs c.args.at c.upper_half.new.chunk filled c.upper_half.ensures.lower

pub returns-clause-same : goal.returns-clause-same
returns-clause-same c =
    let cs : Chunks = record { chunks = c.reserve.new.self; count = c.args.self.now.count } in
    let v = c.index_mut.result.now in
    let k = c.args.at + 1 in
    let vs = slice_set c.reserve.new.self.items c.args.at c.upper_half.new.chunk in
    let inserted : c.insert.new.self.items ≡ insert vs k c.in_ok-upper.upper = c.insert.ensures.items ∙ ap (λ b. cond b (insert vs k c.in_ok-upper.upper) vs) c.if-is_err.ensures.negation in
    parted_groups cs c.args.at v c.upper_half.new.chunk c.in_ok-upper.upper c.insert.new.self c.args.self.now.count
    (chunk_read cs c.args.at v (omega (arith, c.requires.at, c.reserve.ensures.len)) c.index_mut.ensures.value)
    c.in_ok-upper.ensures.parts inserted
    ∙ ap flat c.reserve.ensures.items

pub returns-clause-filled : goal.returns-clause-filled
returns-clause-filled c =
    let cs : Chunks = record { chunks = c.reserve.new.self; count = c.args.self.now.count } in
    let filled : AreFilled cs = ap (list_all (λ (v : Chunk). nat_lt 0 (vec_len v))) c.reserve.ensures.items ∙ c.requires.filled in
    let k = c.args.at + 1 in
    let vs = slice_set c.reserve.new.self.items c.args.at c.upper_half.new.chunk in
    let inserted : c.insert.new.self.items ≡ insert vs k c.in_ok-upper.upper = c.insert.ensures.items ∙ ap (λ b. cond b (insert vs k c.in_ok-upper.upper) vs) c.if-is_err.ensures.negation in
    begun_filled (with_chunk cs c.args.at c.upper_half.new.chunk) (c.args.at + 1) c.in_ok-upper.upper c.insert.new.self c.args.self.now.count
    (filled_set cs c.args.at c.upper_half.new.chunk filled c.upper_half.ensures.lower)
    c.in_ok-upper.ensures.upper inserted
