use Rattle.std.proofs.Common.{◌<◌, ◌^◌, ap, sym, ◌∙◌, pos}
use Rattle.std.specs.Int.{w64}
use Rattle.std.proofs.lemmas.Int.{to_z_pos}
use Rattle.index_sender.proofs.PageRecords.{last-read}
use Rattle.node_saver.proofs.frames.last_sequence.Goals as goal

pub returns-in-Some : goal.returns-in-Some
returns-in-Some c =
    let fits : c.sequence.result < 2 ^ 63 = c.sequence.ensures.fits in
    to_z_pos w64 c.sequence.result fits ∙ ap pos (c.sequence.ensures.value ∙ sym (last-read 0 c.args.records.now c.in-Some.record.now c.in-Some.ensures.value))
