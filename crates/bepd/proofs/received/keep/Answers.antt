use Rattle.std.proofs.Common.{rules, arith}
use Rattle.bepd.proofs.Keeping.{refusal_is, kept_step, count_kept, count_fits}
use Rattle.bepd.proofs.received.keep.Goals as goal

pub loop-info-preserved-in-Continue-branch-2 : goal.loop-info-preserved-in-Continue-branch-2
loop-info-preserved-in-Continue-branch-2 c =
    let loop = c.loop-info in
    let rest = c.pop_front.new.self.items in
    let info = c.in-Some.info in
    let read = c.in-Ok.ensures.answer in
    let first = c.in-Some.ensures.items in
    record {
      records = kept_step loop.records.items c.push.new.self.items info c.in-Ok.record loop.files.items rest _ read.0 read.1 first c.in_ok-push-in-Ok.ensures.items loop.invariant.records;
      count = count_kept loop.skipped _ info loop.files.items rest read.0 first loop.invariant.count;
    }

pub overflow_add-skipped : goal.overflow_add-skipped
overflow_add-skipped c =
    let loop = c.loop-info in
    let refused = refusal_is c.in-Some.info.name c.in-Err.field-0 c.in-Err.ensures.answer (search rules) in
    let fits = count_fits loop.skipped c.args.skipped.now loop.files.items c.args.files c.in-Some.info c.pop_front.new.self.items c.in-Err.field-0 refused c.in-Some.ensures.items loop.invariant.count in
    omega (arith, fits, c.requires.room)
