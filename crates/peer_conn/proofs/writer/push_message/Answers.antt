use Rattle.std.proofs.Common.{rules}
use Rattle.std.proofs.lemmas.Result.{err_from_is_err_and}
use Rattle.bep_frames.specs.declared.fault.WriteFault.TheVariants.{TooLong}
use Rattle.bep_frames.specs.declared.frame.Message.TheVariants.{Response}
use Rattle.peer_conn.proofs.Sending.{err_as, front_as, long_as}
use Rattle.peer_conn.proofs.writer.push_message.Goals as goal

pub returns-in_ok-write_response_front-in-Response-clause-pushed : goal.returns-in_ok-write_response_front-in-Response-clause-pushed
returns-in_ok-write_response_front-in-Response-clause-pushed c = front_as c.args.buffer.now.items c.write_response_front.new.out.items c.args.message.now (Response c.in-Response.response) c.in-Response.is (search rules)

pub returns-in_err-write_response_front-in-Response-clause-long : goal.returns-in_err-write_response_front-in-Response-clause-long
returns-in_err-write_response_front-in-Response-clause-long c =
    long_as _ c.args.message.now (Response c.in-Response.response) c.in-Response.is (λ is.
    let p = err_from_is_err_and c.from_residual.result c.from_residual.ensures.1 in
    c.write_response_front.ensures.long (err_as c.from_residual.result c.write_response_front.result _ _ TooLong p.1 p.2 c.in_err-write_response_front-in-Response.was is))
