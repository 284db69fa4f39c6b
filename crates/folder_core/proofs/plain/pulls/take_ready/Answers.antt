use Rattle.std.proofs.Common.{refl}
use Rattle.folder_core.proofs.PlainFinish.{ready-taken}
use Rattle.folder_core.proofs.plain.pulls.take_ready.Goals as goal

pub returns : goal.returns
returns c = ready-taken c.args.info.now c.args.pulls.now.items c.take.new.pulls.items c.in_ok-ready.field-0 c.in_ok-ready.field-0.ready refl c.in_ok-ready.ensures
