use Rattle.folder_core.specs.Calls.{close_answer}
use Rattle.folder_core.specs.declared.change.Change.TheVariants.{GiveUp}
use Rattle.folder_shared.proofs.shared.LockedFolder.give_up.Goals as goal

pub hand_in-reply-requires : goal.hand_in-reply-requires
hand_in-reply-requires g c = (c.args.pass.now, c.lend-recorded.result, close_answer, GiveUp c.args.ticket, c.requires.pass, c.lend-recorded.ensures.held, c.give_up-value.ensures.appends)

pub returns-clause-changes : goal.returns-clause-changes
returns-clause-changes g c = c.in-Ok.ensures.changes c.args.pass.now c.lend-recorded.result close_answer (GiveUp c.args.ticket) c.requires.pass c.lend-recorded.ensures.held c.give_up-value.ensures.appends
