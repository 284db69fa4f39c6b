use Rattle.std.proofs.Common.{◌≡◌, arith, rules}
use Rattle.bep_frames.proofs.Lemmas.{given_shorter}
use Rattle.bep_frames.specs.declared.fault.FrameFault.TheVariants.{OutOfMemory}
use Rattle.bepd.proofs.Framing.{given_few, receives_frame, receives_fault, leaves_fault, leaves_none}
use Rattle.bepd.proofs.input.take_frames.Goals as goal

pub loop-answer-init : goal.loop-answer-init
loop-answer-init g c = record {
  received = λ bytes h. h;
  me = c.requires.me;
  later = c.requires.later;
  few = omega arith;
}

pub take_frame-requires-clause-me : goal.take_frame-requires-clause-me
take_frame-requires-clause-me g c = c.loop-answer.invariant.me

pub take_frame-requires-clause-room : goal.take_frame-requires-clause-room
take_frame-requires-clause-room g c =
    let gives = rw c.in-Ok.is at c.in-Some.ensures in
    let few = given_few c.args.folder.now c.loop-answer.frames c.next.new.self c.in-Ok.frame c.loop-answer.invariant.later gives in
    omega (arith, few, c.loop-answer.invariant.few, c.requires.few)

pub loop-answer-smaller : goal.loop-answer-smaller
loop-answer-smaller g c =
    given_shorter c.loop-answer.frames c.next.new.self c.in-Ok.frame (rw c.in-Ok.is at c.in-Some.ensures)

pub loop-answer-preserved : goal.loop-answer-preserved
loop-answer-preserved g c =
    let loop = c.loop-answer in
    let state = g.F.FolderCore.state in
    let gives = rw c.in-Ok.is at c.in-Some.ensures in
    let taken = c.in_ok-take_frame-in-Ok.ensures in
    let few = given_few c.args.folder.now loop.frames c.next.new.self c.in-Ok.frame loop.invariant.later gives in
    record {
      received = λ bytes h. receives_frame c.args.folder.now bytes loop.frames c.next.new.self c.in-Ok.frame (state loop.received.folder) (state c.take_frame.new.self.folder)
          loop.received.skipped c.take_frame.new.self.skipped gives taken.received taken.count (loop.invariant.received bytes h);
      me = taken.me;
      later = gives.2;
      few = omega (arith, few, taken.count, loop.invariant.few);
    }

pub returns-in-Err : goal.returns-in-Err
returns-in-Err g c =
    let loop = c.loop-answer in
    let gives = rw c.in-Err.is at c.in-Some.ensures in
    let not : c.in-Err.fault ≡ OutOfMemory → ⊥ = search rules in
    record {
      received = λ bytes h. receives_fault c.args.folder.now bytes loop.frames c.next.new.self c.in-Err.fault (g.F.FolderCore.state loop.received.folder) loop.received.skipped gives not (loop.invariant.received bytes h);
      me = loop.invariant.me;
      leaves = leaves_fault loop.frames c.next.new.self c.in-Err.fault gives not;
    }

pub returns-clause-leaves : goal.returns-clause-leaves
returns-clause-leaves g c = leaves_none c.loop-answer.frames c.next.new.self c.in_default.ensures
