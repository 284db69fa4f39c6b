use Rattle.std.proofs.Common.{◌≡◌, ◌<◌, false, length, drop, refl, sym, ap, ◌∙◌, arith}
use Rattle.std.specs.Prelude.{Some, slice_get}
use Rattle.std.proofs.lemmas.Option.{slice_get_read}
use Rattle.folder_index.specs.Chunks.{Chunk, begins_by}
use Rattle.folder_index.proofs.Chunked.{chunks_parted}
use Rattle.folder_index.proofs.Nearby.{Fail, cut_front, front_filled, front_sorted, later_fail, past_fail}
use Rattle.folder_index.proofs.chunks.count_begun_soon.Goals.{then-loop-end-test+else-begins_by, else-loop-end-test}
use Rattle.folder_index.proofs.chunks.count_begun_soon.Goals as goal

pub count_begun-requires-clause-filled : goal.count_begun-requires-clause-filled
count_begun-requires-clause-filled c = front_filled c.args.chunks.now c.min-end.result c.requires.filled

pub count_begun-requires-clause-ordered : goal.count_begun-requires-clause-ordered
count_begun-requires-clause-ordered c = front_sorted c.args.chunks.now c.min-end.result c.requires.ordered

pub returns-clause-begun : goal.returns-clause-begun
returns-clause-begun c =
    let n = c.args.name.now in
    let vs = c.args.chunks.now in
    let e = c.min-end.result in
    let fail : Fail (λ (v : Chunk). begins_by n v.items) (drop e vs) =
    elim c.loop-end-test.branch [
      | then-loop-end-test+else-begins_by w ↦
          let v = w.index-chunks-end.result in
          let short : e < length vs = (let t = w.loop-end-test.true in let m = c.min-end.ensures in omega arith) in
          let same : e ≡ c.loop-end.end = (let t = w.loop-end-test.true in let m = c.min-end.ensures in omega arith) in
          let at : slice_get vs c.loop-end.end ≡ Some v = slice_get_read vs (length vs) c.loop-end.end v refl w.loop-end-test.true w.index-chunks-end.is in
          let fails : begins_by n v.items ≡ false = ap (begins_by n) (sym w.as_slice.ensures.value) ∙ sym w.begins_by.ensures ∙ w.if-begins_by.false in
          later_fail (λ (v : Chunk). begins_by n v.items) vs (chunks_parted n vs c.requires.filled c.requires.ordered) e v (ap (slice_get vs) same ∙ at) fails
      | else-loop-end-test w ↦ past_fail (λ (v : Chunk). begins_by n v.items) vs e (let f = w.loop-end-test.false in let m = c.min-end.ensures in omega arith)
    ] in
    (cut_front (λ (v : Chunk). begins_by n v.items) vs e c.count_begun.result c.count_begun.ensures.bound c.count_begun.ensures.begun c.count_begun.ensures.others fail).front

pub returns-clause-others : goal.returns-clause-others
returns-clause-others c =
    let n = c.args.name.now in
    let vs = c.args.chunks.now in
    let e = c.min-end.result in
    let fail : Fail (λ (v : Chunk). begins_by n v.items) (drop e vs) =
    elim c.loop-end-test.branch [
      | then-loop-end-test+else-begins_by w ↦
          let v = w.index-chunks-end.result in
          let short : e < length vs = (let t = w.loop-end-test.true in let m = c.min-end.ensures in omega arith) in
          let same : e ≡ c.loop-end.end = (let t = w.loop-end-test.true in let m = c.min-end.ensures in omega arith) in
          let at : slice_get vs c.loop-end.end ≡ Some v = slice_get_read vs (length vs) c.loop-end.end v refl w.loop-end-test.true w.index-chunks-end.is in
          let fails : begins_by n v.items ≡ false = ap (begins_by n) (sym w.as_slice.ensures.value) ∙ sym w.begins_by.ensures ∙ w.if-begins_by.false in
          later_fail (λ (v : Chunk). begins_by n v.items) vs (chunks_parted n vs c.requires.filled c.requires.ordered) e v (ap (slice_get vs) same ∙ at) fails
      | else-loop-end-test w ↦ past_fail (λ (v : Chunk). begins_by n v.items) vs e (let f = w.loop-end-test.false in let m = c.min-end.ensures in omega arith)
    ] in
    (cut_front (λ (v : Chunk). begins_by n v.items) vs e c.count_begun.result c.count_begun.ensures.bound c.count_begun.ensures.begun c.count_begun.ensures.others fail).back
