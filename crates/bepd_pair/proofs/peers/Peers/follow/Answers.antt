use Rattle.bepd_pair.proofs.Told.{told_done, told_refused}
use Rattle.bepd_pair.proofs.peers.Peers.follow.Goals as goal

pub returns-in-Ok : goal.returns-in-Ok
returns-in-Ok g c = λ line is.
    told_done line c.args.command.now c.args.self.now c.run.new.self c.args.lines.now.items c.run.new.lines.items c.run.result c.in-Ok.is c.requires c.run.ensures is

pub returns-in-Err : goal.returns-in-Err
returns-in-Err g c =
    told_refused c.args.command.now c.args.self.now c.run.new.self c.args.lines.now.items c.run.new.lines.items c.tell.new.lines.items c.run.result c.in-Err.refused c.tell.result c.in-Err.is c.requires c.run.ensures
    c.tell.ensures.told c.tell.ensures.memory
