use Rattle.std.proofs.Common.{◌∙◌, arith}
use Rattle.bep_frames.specs.Reading.{sized16_at}
use Rattle.bep_frames.proofs.Pieces as pieces
use Rattle.bep_frames.proofs.found.sized16.Goals as goal

pub returns-then-bytes-lt2 : goal.returns-then-bytes-lt2
unfolding sized16_at
returns-then-bytes-lt2 c = (omega (arith, c.if-bytes-lt2.true), λ next more few. pieces.piece_missing 2 c.args.bytes.now more _ c.if-bytes-lt2.true few)

pub returns-then-after-len : goal.returns-then-after-len
returns-then-after-len c = rw c.number16-len.ensures (omega arith, pieces.sized16_lacks c.args.bytes.now _ _ c.split_at.ensures.by_index.0 c.split_at.ensures.front_len (omega arith))

pub returns : goal.returns
returns c = pieces.sized16_cut c.args.bytes.now _ _ _ _ c.split_at.ensures.by_index.0 c.split_at.ensures.front_len c.split_at-2.ensures.by_index.0 (c.split_at-2.ensures.front_len ∙ c.number16-len.ensures)
