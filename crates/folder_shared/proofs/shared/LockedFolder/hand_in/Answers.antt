use Rattle.folder_shared.proofs.Calls.{change-grown, change-replies, put-fault, put-value}
use Rattle.folder_shared.proofs.shared.LockedFolder.hand_in.Goals as goal

pub put_back-requires : goal.put_back-requires
put_back-requires g c = let r = c.requires in (r.0, r.1, r.4, r.5, change-grown c.args.self.now r.0 c.args.pass.now r.1 r.4 r.5 c.args.recorded r.2 r.3 c.args.answer r.6)

pub returns-clause-changes : goal.returns-clause-changes
returns-clause-changes g c = λ before x f change of held entered.
    change-replies c.args.self.now before c.args.pass.now x of held c.args.recorded c.put_back.new.pass f change c.args.answer c.put_back.result entered
    (c.put_back.ensures.put_back before x of held (change-grown c.args.self.now before c.args.pass.now x of held c.args.recorded f change c.args.answer entered))

pub returns-clause-answer : goal.returns-clause-answer
returns-clause-answer g c = let r = c.requires in
    put-value c.args.self.now r.0 c.args.pass.now r.1 r.4 r.5 c.args.recorded c.put_back.new.pass c.args.answer c.put_back.result
    (c.put_back.ensures.put_back r.0 r.1 r.4 r.5 (change-grown c.args.self.now r.0 c.args.pass.now r.1 r.4 r.5 c.args.recorded r.2 r.3 c.args.answer r.6))

pub returns-clause-fault : goal.returns-clause-fault
returns-clause-fault g c = let r = c.requires in
    put-fault c.args.self.now r.0 c.args.pass.now r.1 r.4 r.5 c.args.recorded c.put_back.new.pass c.args.answer c.put_back.result
    (c.put_back.ensures.put_back r.0 r.1 r.4 r.5 (change-grown c.args.self.now r.0 c.args.pass.now r.1 r.4 r.5 c.args.recorded r.2 r.3 c.args.answer r.6))
