use Rattle.folder_core.specs.Calls.{close_answer}
use Rattle.folder_core.specs.declared.change.Change.TheVariants.{Abort}
use Rattle.folder_shared.proofs.shared.LockedFolder.abort.Goals as goal

pub hand_in-reply-requires : goal.hand_in-reply-requires
hand_in-reply-requires g c = (c.args.pass.now, c.lend-recorded.result, close_answer, Abort c.args.commit, c.requires.pass, c.lend-recorded.ensures.held, c.abort-value.ensures.appends)

pub returns-clause-changes : goal.returns-clause-changes
returns-clause-changes g c = c.in-Ok.ensures.changes c.args.pass.now c.lend-recorded.result close_answer (Abort c.args.commit) c.requires.pass c.lend-recorded.ensures.held c.abort-value.ensures.appends
