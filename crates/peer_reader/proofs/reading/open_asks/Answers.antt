use Rattle.peer_reader.proofs.RunLemmas.{opens_more, opens_none}
use Rattle.peer_reader.proofs.reading.open_asks.Goals as goal

pub loop-init : goal.loop-init
loop-init g c = opens_none c.args.session.now

pub loop-preserved : goal.loop-preserved
loop-preserved g c = opens_more c.args.session.now c.loop.session c.book.new.self c.in_ok-book.field-0 _ c.loop.invariant c.in_ok-book.ensures.opened
