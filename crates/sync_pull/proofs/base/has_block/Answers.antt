use Rattle.std.proofs.Common.{◌≡◌, ◌≤◌, drop, length, take, ap, rules, sym, subst, ◌∙◌}
use Rattle.std.proofs.lemmas.List.{length-take-le}
use Rattle.std.specs.Cmp.Lexicographic.{pointwise}
use Rattle.std.specs.Prelude.{IsTrue, nat_eq}
use Rattle.std.proofs.Math.Seq.{take-length}
use Rattle.file_store.specs.Trees.{bytes_of}
use Rattle.sync_pull.proofs.BytesLemmas.{full-is, has-exactly}
use Rattle.sync_pull.proofs.base.has_block.Goals as goal

pub returns-clause-exact : goal.returns-clause-exact
returns-clause-exact g c = λ keeps.
    let size = c.args.block.now.size in
    let room : length (take size c.args.buffer.now) ≡ size = length-take-le size c.args.buffer.now c.requires.room in
    let whole : length c.read_full.new.buffer ≡ size = c.read_full.auto.buffer ∙ room in
    let read : take c.in_ok-count.count c.read_full.new.buffer
    ≡ take size (drop c.args.at (bytes_of ((g.S.FileStore.tree c.args.store.now).names c.args.name.now))) =
    c.in_ok-count.ensures.reads keeps ∙ ap (λ k. take k (drop c.args.at (bytes_of ((g.S.FileStore.tree c.args.store.now).names c.args.name.now)))) room in
    let more : size ≤ c.in_ok-count.count = c.if-count-block.false in
    has-exactly c.eq.result c.args.block.now c.read_full.new.buffer _ (full-is c.args.block.now c.in_ok-count.count c.read_full.new.buffer _ whole c.in_ok-count.ensures.bound read more) whole
    (c.eq.ensures ∙ ap (λ d. pointwise nat_eq d c.args.block.now.hash) c.digest.ensures)

pub returns-clause-told : goal.returns-clause-told
returns-clause-told g c = λ is.
    let size = c.args.block.now.size in
    let bytes = c.read_full.new.buffer in
    let room : length (take size c.args.buffer.now) ≡ size = length-take-le size c.args.buffer.now c.requires.room in
    let whole : length bytes ≡ size = c.read_full.auto.buffer ∙ room in
    let all : bytes ≡ take size bytes = sym (subst (λ k. take k bytes ≡ bytes) whole (take-length bytes)) in
    let more : size ≤ c.in_ok-count.count = c.if-count-block.false in
    let has : IsTrue c.eq.result = search rules in (
      c.in_ok-count.count,
      _,
      bytes,
      c.in_ok-count.ensures.given,
      more,
      (has-exactly c.eq.result c.args.block.now bytes bytes all whole
          (c.eq.ensures ∙ ap (λ d. pointwise nat_eq d c.args.block.now.hash) c.digest.ensures)).0 has,
    )
