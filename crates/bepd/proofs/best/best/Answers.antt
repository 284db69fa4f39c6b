use Rattle.std.proofs.Common.{ap, ◌∙◌}
use Rattle.bepd.specs.Counts.{output_of}
use Rattle.bepd.proofs.Answering.{received_nothing, no_write_failed, untouched}
use Rattle.bepd.proofs.best.best.Goals as goal

pub read_stream-requires : goal.read_stream-requires
read_stream-requires g c =
    let received = c.new-received.result in
    let state = g.F.FolderCore.state in
    received_nothing c.args.folder.now (state received.folder) received.skipped (ap state c.new-received.ensures.folder ∙ c.requires) c.new-received.ensures.skipped

pub write_listing-requires : goal.write_listing-requires
write_listing-requires g c = record { named = c.in-Ok.ensures.read.received.named }

pub returns-in-Err-clause-listing : goal.returns-in-Err-clause-listing
returns-in-Err-clause-listing g c =
    let told = c.in-Err.ensures.failed in
    (told.0, told.1, told.2, untouched c.in-Err.failure _ (g.W.Write.contents c.args.writer.now.inner))

pub returns-in-Err-clause-writes : goal.returns-in-Err-clause-writes
returns-in-Err-clause-writes g c = no_write_failed c.in-Err.failure (output_of g.W.Write.contents c.args.writer.now) c.in-Err.ensures.refused
