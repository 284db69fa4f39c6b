use Rattle.bepd_pair.proofs.Played.{ends_as, ends_empty}
use Rattle.bepd_pair.proofs.playing.end.Goals as goal

pub returns-then-is_empty : goal.returns-then-is_empty
returns-then-is_empty g c = λ start bytes out h.
    let none = (c.is_empty.ensures h.rest h.come).0 c.if-is_empty.true in
    ends_empty start bytes c.args.line.now c.args.line.now c.args.peers.now out (g.W.Write.contents c.args.writer.now) h none

pub returns : goal.returns
returns g c = λ start bytes out h.
    ends_as start bytes c.args.line.now c.args.line.now c.args.peers.now out (g.W.Write.contents c.args.writer.now) h c.end_line.result c.end_line.new.peers (g.W.Write.contents c.end_line.new.writer)
    c.is_empty.result (c.is_empty.ensures h.rest h.come) c.if-is_empty.false c.end_line.ensures.followed c.end_line.ensures.failed
