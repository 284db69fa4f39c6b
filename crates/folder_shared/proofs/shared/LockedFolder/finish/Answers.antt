use Rattle.folder_core.specs.Calls.{finish_answer}
use Rattle.folder_core.specs.declared.change.Change.TheVariants.{Finish}
use Rattle.folder_shared.proofs.shared.LockedFolder.finish.Goals as goal

pub hand_in-reply-requires : goal.hand_in-reply-requires
hand_in-reply-requires g c = (c.args.pass.now, c.lend-recorded.result, finish_answer, Finish c.args.commit c.args.assembled, c.requires.pass, c.lend-recorded.ensures.held, c.finish-value.ensures.appends)

pub returns-clause-changes : goal.returns-clause-changes
returns-clause-changes g c = c.in-Ok.ensures.changes c.args.pass.now c.lend-recorded.result finish_answer (Finish c.args.commit c.args.assembled) c.requires.pass c.lend-recorded.ensures.held c.finish-value.ensures.appends
