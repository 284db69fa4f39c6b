use Rattle.folder_core.proofs.ReadReplies.{some-reply, one-reply}
use Rattle.folder_core.proofs.laws.reads.queries_have_replies.Goals as goal

pub returns-clause-some : goal.returns-clause-some
returns-clause-some c = some-reply

pub returns-clause-one : goal.returns-clause-one
returns-clause-one c = one-reply
