use Rattle.std.proofs.Common.{◌<◌, ℕ, length, ap, sym, ◌∙◌, arith, slice_index_or}
use Rattle.sync_record.specs.Assemblies.{put_answer, Assembling}
use Rattle.sync_record.proofs.Placed.{answered_at, as_long, nothing, placed_at, put_has}
use Rattle.sync_record.proofs.assembly.Assembly.put_hashed.Goals as goal

abbrev length_of : Assembling → ℕ
length_of a = length a.target.blocks

pub index_mut-requires : goal.index_mut-requires
index_mut-requires c =
    let long = as_long c.self.inside.placed.items c.self.inside.target.blocks c.self.invariant.placed in
    let same = ap length_of c.self.view_is in
    grind (arith, long, same, c.requires.block)

pub invariant_of-self : goal.invariant_of-self
invariant_of-self c =
    let blocks = c.self.inside.target.blocks in
    let within : c.args.block < length blocks = rw (ap length_of c.self.view_is) c.requires.block in
    let ok = c.in-Ok.ensures ∙ ap (λ bs. put_answer (slice_index_or bs c.args.block nothing) c.args.bytes.now) c.blocks-2.ensures in
    record {
      valid = c.self.invariant.valid;
      placed = placed_at c.self.inside.placed.items blocks c.args.block nothing c.self.invariant.placed within (put_has _ c.args.bytes.now (sym ok));
    }

pub returns-in-Ok-clause-answer : goal.returns-in-Ok-clause-answer
returns-in-Ok-clause-answer c =
    let same = c.blocks-2.ensures ∙ ap (λ a. a.target.blocks) c.self.view_is in
    answered_at c.args.self.now.target.blocks c.args.block c.args.bytes.now c.try_block-answer.result c.requires.block
    (c.try_block-answer.ensures ∙ ap (λ bs. put_answer (slice_index_or bs c.args.block nothing) c.args.bytes.now) same)

pub returns-in_default-clause-answer : goal.returns-in_default-clause-answer
returns-in_default-clause-answer c =
    let same = c.blocks-2.ensures ∙ ap (λ a. a.target.blocks) c.self.view_is in
    answered_at c.args.self.now.target.blocks c.args.block c.args.bytes.now c.try_block-answer.result c.requires.block
    (c.try_block-answer.ensures ∙ ap (λ bs. put_answer (slice_index_or bs c.args.block nothing) c.args.bytes.now) same)
