use Rattle.std.proofs.Common.{rules}
use Rattle.bep_frames.specs.declared.frame.Message.TheVariants.{Response}
use Rattle.bep_frames.specs.Written.{body_of}
use Rattle.bep_frames.proofs.Fronts.{frame_follows}
use Rattle.bep_frames.proofs.front.write_response_front.Goals as goal

pub returns-clause-ok : goal.returns-clause-ok
returns-clause-ok c = frame_follows c.args.out.now.items c.extend_from_slice.new.self.items c.in_ok-front.front.items c.in_ok-fields.fields.items c.args.message.now.payload (body_of (Response c.args.message.now)) (search rules) (search rules) (search rules)
