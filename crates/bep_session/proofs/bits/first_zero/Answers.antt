use Rattle.std.proofs.Common.{arith}
use Rattle.bep_session.proofs.Words.{zero_in, ones_before, ones_through}
use Rattle.bep_session.proofs.bits.first_zero.Goals as goal

pub loop-i-init : goal.loop-i-init
loop-i-init c = λ j under. absurd (omega arith)

pub loop-i-preserved : goal.loop-i-preserved
loop-i-preserved c = ones_through c.args.words.now c.loop-i.i c.if-word.false c.loop-i.invariant

pub returns-then-word-clause-zero : goal.returns-then-word-clause-zero
returns-then-word-clause-zero c =
    let fits = c.fits-words c.loop-i.i in
    let full = c.if-word.true in
    zero_in c.args.words.now c.loop-i.i c.trailing_ones.result c.trailing_ones.ensures (omega (arith, fits, full))

pub returns-then-word-clause-first : goal.returns-then-word-clause-first
returns-then-word-clause-first c =
    let fits = c.fits-words c.loop-i.i in
    let full = c.if-word.true in
    ones_before c.args.words.now c.loop-i.i c.trailing_ones.result c.trailing_ones.ensures (omega (arith, fits, full)) c.loop-i.invariant

pub returns-clause-none : goal.returns-clause-none
returns-clause-none c = λ j under. c.loop-i.invariant j (omega arith)
