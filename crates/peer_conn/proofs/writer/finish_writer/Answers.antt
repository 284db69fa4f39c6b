use Rattle.std.proofs.Common.{◌∙◌}
use Rattle.peer_conn.specs.Words.{all_of, ended_of}
use Rattle.peer_conn.proofs.Sending.{all_sent}
use Rattle.peer_conn.proofs.writer.finish_writer.Goals as goal

pub returns-clause-all : goal.returns-clause-all
returns-clause-all g c =
    all_sent c.drain.result c.drain.new.taker (ended_of c.args.taker.now) (all_of c.args.indexer) (all_of c.args.server) (all_of c.args.requester) (c.drain.ensures.same.1 ∙ c.last.ensures.ended) c.drain.ensures.whole
