use Rattle.bep_frames.proofs.Written.{hello_again}
use Rattle.bep_frames.proofs.writing.write_hello.Goals as goal

pub returns-else-is_err-clause-again : goal.returns-else-is_err-clause-again
returns-else-is_err-clause-again c = hello_again c.put_hello-written.result c.args.message.now c.put_hello-written.ensures.short c.put_hello-written.ensures.again
