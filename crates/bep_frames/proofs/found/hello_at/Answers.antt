use Rattle.std.proofs.Common.{true, false, arith, rules}
use Rattle.bep_frames.specs.Reading.{hello_at, hello_sized, hello_front}
use Rattle.bep_frames.proofs.Places.{hello_takes}
use Rattle.bep_frames.proofs.Sound.{same_front}
use Rattle.bep_frames.proofs.Pieces as pieces
use Rattle.bep_frames.proofs.found.hello_at.Goals as goal

pub returns-then-bytes-lt4-clause-found : goal.returns-then-bytes-lt4-clause-found
unfolding hello_at
returns-then-bytes-lt4-clause-found c = (omega (arith, c.if-bytes-lt4.true), λ more few. pieces.piece_missing 4 c.args.bytes.now more hello_front c.if-bytes-lt4.true few)

pub returns-then-not-starts_with-clause-found : goal.returns-then-not-starts_with-clause-found
returns-then-not-starts_with-clause-found c = λ ne. pieces.hello_at_is c.args.bytes.now _ _ false c.split_at.ensures.by_index.0 c.split_at.ensures.front_len (search rules)

pub returns-clause-found : goal.returns-clause-found
returns-clause-found c =
    pieces.found_after hello_at hello_sized c.args.bytes.now c.split_at.result.1.now c.hello_sized.result
    (λ more. pieces.hello_at_is _ _ _ true (pieces.before_more c.args.bytes.now _ _ more c.split_at.ensures.by_index.0) c.split_at.ensures.front_len (search rules)) c.hello_sized.ensures.found

pub returns-clause-memory : goal.returns-clause-memory
returns-clause-memory c = λ e.
    hello_takes c.args.bytes.now _ _ c.split_at.ensures.by_index.0 (same_front c.split_at.result.0.now c.split_at.ensures.front_len (search rules)) (c.hello_sized.ensures.memory e)
