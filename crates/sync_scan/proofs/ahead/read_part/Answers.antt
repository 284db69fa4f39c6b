use Rattle.std.proofs.Common.{◌≡◌, ◌∙◌, ◌+◌, ◌-◌, ◌++◌, rules, length, take, arith, refl, sym, ap, subst, length-take-le}
use Rattle.std.specs.Prelude.{Ok}
use Rattle.file_store.specs.Sequences.{Since}
use Rattle.sync_scan.specs.Ahead.{file_cuts}
use Rattle.sync_scan.specs.Told.{ReadsOther}
use Rattle.sync_scan.specs.declared.ahead.Part.{Part}
use Rattle.sync_scan.proofs.CutLemmas.{has-new, part-all, part-before, part-long}
use Rattle.sync_scan.proofs.ahead.read_part.Goals as goal

pub returns-in-Ok-false-clause-read : goal.returns-in-Ok-false-clause-read
returns-in-Ok-false-clause-read g c = λ first looks e.
    let f = c.args.batch.now.filled in
    let size = c.args.size in
    let s = c.deref_mut.result.now in
    let same = ap length c.deref_mut.ensures.value in
    let grown = c.in_ok-grow.ensures.grown in
    let long = part-long f size s (omega arith) in (
      subst (ReadsOther (Since g.S.FileStore.gives first) c.args.name.now) long (c.in-Ok-false.ensures.other first looks (ap Ok c.in-Ok-false.field-0-test)),
      λ k at. c.in-Ok-false.ensures.not_there (ap Ok c.in-Ok-false.field-0-test) k (at ∙ sym long),
    )

pub returns-in-Ok-false-clause-bytes : goal.returns-in-Ok-false-clause-bytes
returns-in-Ok-false-clause-bytes g c =
    let f = c.args.batch.now.filled in
    let size = c.args.size in
    let s = c.deref_mut.result.now in
    let items = c.grow.new.buffer.items in
    let part = c.read_whole.new.part in
    let same = ap length c.deref_mut.ensures.value in
    let grown = c.in_ok-grow.ensures.grown in
    let k = f + size - f in
    let one : k ≡ size = omega arith in
    let sized : length part ≡ size = c.read_whole.auto.part ∙ part-long f size s (omega arith) in
    let all : c.grow.new.buffer.len ≡ length items = search rules in
    part-before c.grow.new.buffer.len f k c.args.buffer.now.items items s part c.deref_mut.ensures.value all (sized ∙ sym one) (omega arith) c.in_ok-grow.ensures.front c.requires.within

pub returns-in-Err-clause-bytes : goal.returns-in-Err-clause-bytes
returns-in-Err-clause-bytes g c =
    let f = c.args.batch.now.filled in
    let size = c.args.size in
    let s = c.deref_mut.result.now in
    let items = c.grow.new.buffer.items in
    let part = c.read_whole.new.part in
    let same = ap length c.deref_mut.ensures.value in
    let grown = c.in_ok-grow.ensures.grown in
    let k = f + size - f in
    let one : k ≡ size = omega arith in
    let sized : length part ≡ size = c.read_whole.auto.part ∙ part-long f size s (omega arith) in
    let all : c.grow.new.buffer.len ≡ length items = search rules in
    part-before c.grow.new.buffer.len f k c.args.buffer.now.items items s part c.deref_mut.ensures.value all (sized ∙ sym one) (omega arith) c.in_ok-grow.ensures.front c.requires.within

pub returns-clause-bytes : goal.returns-clause-bytes
returns-clause-bytes g c =
    let f = c.args.batch.now.filled in
    let size = c.args.size in
    let s = c.deref_mut.result.now in
    let items = c.grow.new.buffer.items in
    let part = c.read_whole.new.part in
    let same = ap length c.deref_mut.ensures.value in
    let grown = c.in_ok-grow.ensures.grown in
    let k = f + size - f in
    let one : k ≡ size = omega arith in
    let sized : length part ≡ size = c.read_whole.auto.part ∙ part-long f size s (omega arith) in
    let all : c.grow.new.buffer.len ≡ length items = search rules in
    let after = part-all c.grow.new.buffer.len f k c.args.buffer.now.items items s part c.deref_mut.ensures.value all (sized ∙ sym one) (omega arith) c.in_ok-grow.ensures.front c.requires.within
    (f + size) (let e : f + size ≡ f + k = omega arith in e) in
    (part, sym after)

pub returns-clause-read : goal.returns-clause-read
returns-clause-read g c = λ start looks.
    let f = c.args.batch.now.filled in
    let size = c.args.size in
    let s = c.deref_mut.result.now in
    let items = c.grow.new.buffer.items in
    let part = c.read_whole.new.part in
    let same = ap length c.deref_mut.ensures.value in
    let grown = c.in_ok-grow.ensures.grown in
    let k = f + size - f in
    let one : k ≡ size = omega arith in
    let sized : length part ≡ size = c.read_whole.auto.part ∙ part-long f size s (omega arith) in
    let all : c.grow.new.buffer.len ≡ length items = search rules in
    let after = part-all c.grow.new.buffer.len f k c.args.buffer.now.items items s part c.deref_mut.ensures.value all (sized ∙ sym one) (omega arith) c.in_ok-grow.ensures.front c.requires.within
    (f + size) (let e : f + size ≡ f + k = omega arith in e) in
    let own : Part = record { start = f; size = size; modified = c.args.modified; first = c.len-first.result } in
    let known : length (take f c.args.buffer.now.items) ≡ f = length-take-le f c.args.buffer.now.items c.requires.within in
    let first : length c.args.batch.now.cuts.items ≡ c.len-first.result = search rules in (
      part,
      sized,
      (
        has-new (take f c.args.buffer.now.items) _ part c.args.batch.now.cuts.items c.push_cuts.new.cuts.items own after known sized
            (c.in_ok-push_cuts.ensures ∙ ap (λ b. c.args.batch.now.cuts.items ++ file_cuts c.args.batch.now.filled c.args.size b) c.block_size_for-block_size.ensures) first,
        refl,
        refl,
        c.in-Ok-true.ensures.read start looks (ap Ok c.in-Ok-true.field-0-test),
        λ keeps. c.in-Ok-true.ensures.there (ap Ok c.in-Ok-true.field-0-test) keeps,
      ),
      λ e. absurd (cc),
    )
