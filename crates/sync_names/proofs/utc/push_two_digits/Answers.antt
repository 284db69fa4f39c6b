use Rattle.sync_names.proofs.UtcLemmas.{two_digits_styled}
use Rattle.sync_names.proofs.utc.push_two_digits.Goals as goal

pub returns : goal.returns
returns c =
    let written = rw c.laid_out.ensures at c.write.ensures.bytes in
    rw (← two_digits_styled c.args.number c.requires) written
