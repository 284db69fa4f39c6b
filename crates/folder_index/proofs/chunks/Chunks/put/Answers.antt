use Rattle.std.proofs.Common.{arith}
use Rattle.folder_index.proofs.Chunked.{chunk_read, filled_chunk, filled_set, put_groups, same_groups}
use Rattle.folder_index.proofs.Results.{on_err, on_ok}
use Rattle.folder_index.proofs.chunks.Chunks.put.Goals as goal

pub returns-clause-placed : goal.returns-clause-placed
returns-clause-placed c =
    let cs = c.args.self.now in
    let s = c.args.gap in
    let v = c.index_mut.result.now in
    on_ok c.put_into.result (λ items. put_groups cs s.chunk v (chunk_read cs s.chunk v c.requires.inside c.index_mut.ensures.value) c.put_into.new.chunk s.place c.args.group items) c.put_into.ensures.items

pub returns-clause-err : goal.returns-clause-err
returns-clause-err c =
    let cs = c.args.self.now in
    let s = c.args.gap in
    let v = c.index_mut.result.now in
    on_err c.put_into.result (λ items. same_groups cs s.chunk v (chunk_read cs s.chunk v c.requires.inside c.index_mut.ensures.value) c.put_into.new.chunk items) c.put_into.ensures.err

pub returns-clause-filled : goal.returns-clause-filled
returns-clause-filled c =
    let cs = c.args.self.now in
    let s = c.args.gap in
    let v = c.index_mut.result.now in
    let some = filled_chunk cs s.chunk v c.requires.filled (chunk_read cs s.chunk v c.requires.inside c.index_mut.ensures.value) in
    filled_set cs s.chunk c.put_into.new.chunk c.requires.filled (omega (arith, c.put_into.ensures.len))
