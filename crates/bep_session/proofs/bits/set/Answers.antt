use Rattle.std.proofs.Common.{arith}
use Rattle.std.specs.Int.{w64}
use Rattle.std.proofs.lemmas.Nat.Bits.{bit_at_set_same, bit_at_set_other}
use Rattle.bep_session.proofs.Words.{bit-set_same, bit-set_other}
use Rattle.bep_session.proofs.bits.set.Goals as goal

pub returns-clause-here : goal.returns-clause-here
returns-clause-here c =
    bit-set_same c.args.words.now c.args.k _ 1 (omega arith) (bit_at_set_same w64 _ _ (omega arith))

pub returns-clause-others : goal.returns-clause-others
returns-clause-others c = λ j under ne.
    bit-set_other c.args.words.now c.args.k _ (omega arith) (λ i lt other. bit_at_set_other w64 _ _ (omega arith) i other) j ne
