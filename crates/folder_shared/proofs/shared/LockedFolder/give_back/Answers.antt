use Rattle.folder_shared.proofs.Calls.{may-unchanged, read-given}
use Rattle.folder_shared.proofs.shared.LockedFolder.give_back.Goals as goal

pub put_back-requires : goal.put_back-requires
put_back-requires g c = let r = c.requires in (r.0, c.args.recorded, r.1, r.2, may-unchanged _ _ _)

pub returns-clause-given_back : goal.returns-clause-given_back
returns-clause-given_back g c = λ before of held.
    read-given c.args.self.now before c.args.pass.now c.args.recorded of held c.put_back.new.pass c.args.answer c.put_back.result (c.put_back.ensures.put_back before c.args.recorded of held (may-unchanged _ _ _))
