use Rattle.std.proofs.Common.{refl}
use Rattle.folder_shared.proofs.Calls.{answered-pass, back-err, back-ok, kept-pass, may-grown, may-same, rule-back}
use Rattle.folder_shared.proofs.shared.LockedFolder.put_back.Goals as goal

pub put-requires-clause-rule : goal.put-requires-clause-rule
put-requires-clause-rule g c = let r = c.requires in (rule-back c.args.self.now r.0 c.args.pass.now r.1 r.2 r.3 c.args.recorded (may-grown _ _ _ _ r.4) _ _, λ items views k at. tt)

pub returns-in-Ok-clause-pass : goal.returns-in-Ok-clause-pass
returns-in-Ok-clause-pass g c = let r = c.requires in
    (answered-pass c.args.self.now r.0 c.args.pass.now r.1 r.2 r.3 c.args.recorded (may-grown _ _ _ _ r.4) (record { number = c.args.pass.now.number; seen = c.len-at.result; token = c.put.new.token }) refl c.put.ensures.seat c.put.ensures.rule c.len-at.ensures.history c.len-at.ensures.len, refl)

pub returns-in-Ok-clause-put_back : goal.returns-in-Ok-clause-put_back
returns-in-Ok-clause-put_back g c = λ before x of held may.
    back-ok c.args.self.now before c.args.pass.now x of held c.args.recorded (may-grown _ _ _ _ may) (record { number = c.args.pass.now.number; seen = c.len-at.result; token = c.put.new.token }) refl c.put.ensures.seat c.put.ensures.rule c.len-at.ensures.history c.len-at.ensures.len
    c.args.answer c.in-Ok.value c.in-Ok.is

pub returns-in-Err-clause-pass : goal.returns-in-Err-clause-pass
returns-in-Err-clause-pass g c = let r = c.requires in
    (kept-pass c.args.self.now r.0 c.args.pass.now r.1 r.2 r.3 c.args.recorded (may-grown _ _ _ _ r.4) (may-same _ _ _ _ _ c.in-Err.is r.4) (record { number = c.args.pass.now.number; seen = c.args.pass.now.seen; token = c.put.new.token }) refl c.put.ensures.seat c.put.ensures.rule refl, refl)

pub returns-in-Err-clause-put_back : goal.returns-in-Err-clause-put_back
returns-in-Err-clause-put_back g c = λ before x of held may.
    back-err c.args.self.now before c.args.pass.now x of held c.args.recorded (may-grown _ _ _ _ may) (may-same _ _ _ _ _ c.in-Err.is may) (record { number = c.args.pass.now.number; seen = c.args.pass.now.seen; token = c.put.new.token }) refl c.put.ensures.seat c.put.ensures.rule refl
    c.args.answer c.in-Err.fault c.in-Err.is
