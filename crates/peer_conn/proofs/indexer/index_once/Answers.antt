use Rattle.std.proofs.Common.{ap, ◌∙◌}
use Rattle.peer_conn.specs.Words.{put_of}
use Rattle.peer_conn.proofs.Telling.{told-pinged}
use Rattle.peer_conn.proofs.indexer.index_once.Goals as goal
use Rattle.peer_conn.proofs.indexer.index_once.Goals.{then-is_ping+in_ok-put_ping, else-is_ping}

pub returns-clause-tells : goal.returns-clause-tells
returns-clause-tells g c =
    let folder = g.W.FolderCalls.folder in
    let view = g.W.FolderCalls.view in
    let says = g.W.KeptCalls.says in
    let told = c.in_ok-round.ensures.tells in
    elim c.if-is_ping.branch [
      | then-is_ping+in_ok-put_ping w ↦
          told-pinged folder view says c.args.folders.now c.args.senders.now c.index_round.new.senders (put_of c.args.seat.now) (put_of c.index_round.new.seat) (put_of c.if-is_ping.seat) w.in_ok-put_ping.ensures.put.0
          told w.in_ok-put_ping.ensures.put.1 (ap put_of w.seat-is ∙ w.in_ok-put_ping.ensures.put.2)
      | else-is_ping w ↦ (told.0, told.1, ap put_of w.seat-is ∙ told.2, told.3, told.4)
    ]

pub returns-then-is_over_within-clause-tells : goal.returns-then-is_over_within-clause-tells
returns-then-is_over_within-clause-tells g c =
    let folder = g.W.FolderCalls.folder in
    let view = g.W.FolderCalls.view in
    let says = g.W.KeptCalls.says in
    let told = c.in_ok-round.ensures.tells in
    elim c.if-is_ping.branch [
      | then-is_ping+in_ok-put_ping w ↦
          let more = told-pinged folder view says c.args.folders.now c.args.senders.now c.index_round.new.senders (put_of c.args.seat.now) (put_of c.index_round.new.seat) (put_of c.if-is_ping.seat) w.in_ok-put_ping.ensures.put.0
          told w.in_ok-put_ping.ensures.put.1 (ap put_of w.seat-is ∙ w.in_ok-put_ping.ensures.put.2) in
          (more.0, more.1, more.2, more.3, tt)
      | else-is_ping w ↦ (told.0, told.1, ap put_of w.seat-is ∙ told.2, told.3, tt)
    ]
