use Rattle.std.proofs.Common.{◌≡◌, ◌∙◌, ◌++◌, [], length, take, refl, arith, rules}
use Rattle.bepd.specs.declared.ending.Failure.TheVariants.{OutOfMemory}
use Rattle.bepd.specs.Counts.{input_of}
use Rattle.bepd.proofs.Counting.{reads_nothing, reads_more}
use Rattle.bepd.proofs.Reading.{receives_nothing, leaves_start, own_folder, read_piece, read_fault, read_too_many}
use Rattle.bepd.proofs.Reports.{at_failure}
use Rattle.bepd.proofs.input.read_stream.Goals as goal

pub loop-bytes-init : goal.loop-bytes-init
loop-bytes-init g c =
    let received = c.args.received.now in
    let s = g.F.FolderCore.state received.folder in
    record {
      read = (
        [],
        reads_nothing (input_of g.R.Read.remaining c.args.reader.now),
        refl,
        refl,
        receives_nothing c.args.folder.now c.after_hello-frames.result s received.skipped c.after_hello-frames.ensures c.requires,
      );
      within = omega arith;
      buffer = search rules;
      me = own_folder c.args.folder.now s received.skipped c.requires;
      leaves = leaves_start c.after_hello-frames.result c.after_hello-frames.ensures;
    }

pub returns-then-total-gt-MAX_INPUT_BYTES-clause-failed : goal.returns-then-total-gt-MAX_INPUT_BYTES-clause-failed
returns-then-total-gt-MAX_INPUT_BYTES-clause-failed g c =
    let r = c.loop-bytes.invariant.read in
    let got = c.in_ok-count.ensures in
    let remaining = g.R.Read.remaining in
    read_too_many (input_of remaining c.args.reader.now) (input_of remaining c.loop-bytes.reader) (input_of remaining c.read.new.self) r.0 c.loop-bytes.total
    c.in_ok-count.count c.read.new.buffer got.bound.0 got.bytes.0 got.given got.failed r.2 r.3 (omega (arith, c.if-total-gt-MAX_INPUT_BYTES.true)) r.1

pub returns-in_err-fault-clause-failed : goal.returns-in_err-fault-clause-failed
returns-in_err-fault-clause-failed g c =
    let r = c.loop-bytes.invariant.read in
    let got = c.in_ok-count.ensures in
    let remaining = g.R.Read.remaining in
    at_failure _ OutOfMemory OutOfMemory c.from_residual-in_err-fault.result c.from_residual-in_err-fault.ensures.1 refl (
      r.0 ++ take c.in_ok-count.count c.read.new.buffer,
      reads_more (input_of remaining c.args.reader.now) (input_of remaining c.loop-bytes.reader) (input_of remaining c.read.new.self) r.0
          c.in_ok-count.count c.read.new.buffer got.bound.0 got.bytes.0 got.given r.1,
      got.failed ∙ r.2,
    )

pub returns-in-Some-clause-read : goal.returns-in-Some-clause-read
returns-in-Some-clause-read g c =
    let state = g.F.FolderCore.state in
    let remaining = g.R.Read.remaining in
    let received = c.take_piece.new.received in
    let got = c.in_ok-count.ensures in
    let kept : length c.read.new.buffer ≡ length c.loop-bytes.buffer = search rules in
    read_fault c.args.folder.now (input_of remaining c.args.reader.now) (input_of remaining c.loop-bytes.reader) (input_of remaining c.read.new.self)
    c.loop-bytes.total c.in_ok-count.count c.read.new.buffer c.loop-bytes.frames c.take_piece.new.frames (state c.loop-bytes.received.folder) (state received.folder)
    c.loop-bytes.received.skipped received.skipped c.in-Some.fault got.bound.0 (kept ∙ c.loop-bytes.invariant.buffer)
    (omega (arith, c.if-total-gt-MAX_INPUT_BYTES.false)) got.bytes.0 got.given got.failed c.in_ok-fault.ensures.received c.loop-bytes.invariant.leaves
    (rw c.in-Some.is at c.in_ok-fault.ensures.leaves) c.loop-bytes.invariant.read

pub loop-bytes-preserved : goal.loop-bytes-preserved
loop-bytes-preserved g c =
    let state = g.F.FolderCore.state in
    let remaining = g.R.Read.remaining in
    let loop = c.loop-bytes in
    let received = c.take_piece.new.received in
    let got = c.in_ok-count.ensures in
    let kept : length c.read.new.buffer ≡ length loop.buffer = search rules in
    record {
      read = read_piece c.args.folder.now (input_of remaining c.args.reader.now) (input_of remaining loop.reader) (input_of remaining c.read.new.self)
          loop.total c.in_ok-count.count c.read.new.buffer loop.frames c.take_piece.new.frames (state loop.received.folder) (state received.folder)
          loop.received.skipped received.skipped got.bound.0 got.bytes.0 got.given got.failed c.in_ok-fault.ensures.received loop.invariant.read;
      within = omega (arith, c.if-total-gt-MAX_INPUT_BYTES.false);
      buffer = kept ∙ loop.invariant.buffer;
      me = c.in_ok-fault.ensures.me;
      leaves = rw c.in_default.is at c.in_ok-fault.ensures.leaves;
    }
