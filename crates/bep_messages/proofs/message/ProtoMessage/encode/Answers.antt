use Rattle.std.proofs.Common.{Ok, ap, ◌∙◌}
use Rattle.bep_messages.proofs.Again.{decoded_form}
use Rattle.bep_messages.proofs.message.ProtoMessage.encode.Goals as goal

pub returns-in-Ok-clause-again : goal.returns-in-Ok-clause-again
returns-in-Ok-clause-again g c =
    decoded_form g.Self.ProtoMessage.table g.Self.ProtoMessage.whole (g.Self.ProtoMessage.parts c.args.self.now) g.met.Self.ProtoMessage.table_rises c.in-Ok.ensures.fits
    ∙ ap Ok (g.met.Self.ProtoMessage.whole_of_parts c.args.self.now)
