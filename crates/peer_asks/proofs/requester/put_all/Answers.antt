use Rattle.std.proofs.Common.{◌∙◌}
use Rattle.peer_conn.specs.Words.{put_of}
use Rattle.peer_asks.proofs.Putting.{one-more}
use Rattle.peer_asks.proofs.requester.put_all.Goals as goal

pub loop-preserved : goal.loop-preserved
loop-preserved g c =
    let same = c.loop.invariant.same in
    let now = c.put_next.ensures.same in
    record {
      next = tt;
      finite = tt;
      same = (now.0 ∙ same.0, now.1 ∙ same.1);
      puts = one-more g.Q.Source.gives c.args.requests.now c.loop.requests c.put_next.new.requests (put_of c.args.seat.now) (put_of c.loop.seat)
          (put_of c.put_next.new.seat) c.loop.invariant.puts c.in_default.ensures.put;
    }
