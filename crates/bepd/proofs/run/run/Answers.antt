use Rattle.std.proofs.Common.{subst}
use Rattle.bepd.specs.Counts.{input_of, output_of}
use Rattle.bepd.specs.Runs.{Lists, streams}
use Rattle.bepd.proofs.Matching.{asked_best, asked_pair, asked_run}
use Rattle.bepd.proofs.Running.{lists_nothing, plays_nothing, tells_nothing}
use Rattle.bepd.proofs.run.run.Goals as goal

pub returns-in-Best-clause-best : goal.returns-in-Best-clause-best
returns-in-Best-clause-best g c = λ program folder line plain.
    let old = streams (input_of g.R.Read.remaining c.args.input.now) (output_of g.W.Write.contents c.args.output.now) (g.E.Write.contents c.args.errors.now) in
    let new = streams (input_of g.R.Read.remaining c.best-ending.new.reader) (output_of g.W.Write.contents c.best-ending.new.writer) (g.E.Write.contents c.end.new.errors) in
    let listed = c.best-ending.ensures.listing in
    let lists : Lists c.in-Best.folder.now c.end.result old new = record {
      ending = c.best-ending.result;
      bytes = listed.0;
      reads = listed.1;
      failed_read = listed.2;
      failed_write = c.best-ending.ensures.writes;
      answers = listed.3;
      known = c.best-ending.ensures.known;
      ends = c.end.ensures.ends;
    } in
    subst (λ f. Lists f c.end.result old new) (asked_best c.args.words.now _ program folder line plain c.in-Best.ensures) lists

pub returns-in-Text-clause-best : goal.returns-in-Text-clause-best
returns-in-Text-clause-best g c = λ program folder line plain. absurd (asked_best c.args.words.now _ program folder line plain c.in-Text.ensures)

pub returns-in-Refused-clause-best : goal.returns-in-Refused-clause-best
returns-in-Refused-clause-best g c = λ program folder line plain. absurd (asked_best c.args.words.now _ program folder line plain c.in-Refused.ensures)

pub returns-clause-best : goal.returns-clause-best
returns-clause-best g c = λ program folder line plain.
    lists_nothing folder c.end-in-OutOfMemory.result (input_of g.R.Read.remaining c.args.input.now) (output_of g.W.Write.contents c.args.output.now)
    (g.E.Write.contents c.args.errors.now) (g.E.Write.contents c.end-in-OutOfMemory.new.errors) c.end-in-OutOfMemory.ensures.ends

pub returns-in-Pair-clause-best : goal.returns-in-Pair-clause-best
returns-in-Pair-clause-best g c = λ program folder line plain. absurd (asked_best c.args.words.now _ program folder line plain c.in-Pair.ensures)

pub returns-in-Best-clause-pair : goal.returns-in-Best-clause-pair
returns-in-Best-clause-pair g c = λ program line. absurd (asked_pair c.args.words.now _ program line c.in-Best.ensures)

pub returns-in-Text-clause-pair : goal.returns-in-Text-clause-pair
returns-in-Text-clause-pair g c = λ program line. absurd (asked_pair c.args.words.now _ program line c.in-Text.ensures)

pub returns-in-Refused-clause-pair : goal.returns-in-Refused-clause-pair
returns-in-Refused-clause-pair g c = λ program line. absurd (asked_pair c.args.words.now _ program line c.in-Refused.ensures)

pub returns-clause-pair : goal.returns-clause-pair
returns-clause-pair g c = λ program line.
    plays_nothing c.end-in-OutOfMemory.result (input_of g.R.Read.remaining c.args.input.now) (output_of g.W.Write.contents c.args.output.now)
    (g.E.Write.contents c.args.errors.now) (g.E.Write.contents c.end-in-OutOfMemory.new.errors) c.end-in-OutOfMemory.ensures.ends

pub returns-in-Run-clause-best : goal.returns-in-Run-clause-best
returns-in-Run-clause-best g c = λ program folder line plain. absurd (asked_best c.args.words.now _ program folder line plain c.in-Run.ensures)

pub returns-in-Run-clause-pair : goal.returns-in-Run-clause-pair
returns-in-Run-clause-pair g c = λ program line. absurd (asked_pair c.args.words.now _ program line c.in-Run.ensures)

pub returns-in-Check-clause-best : goal.returns-in-Check-clause-best
returns-in-Check-clause-best g c = λ program folder line plain. absurd (asked_best c.args.words.now _ program folder line plain c.in-Check.ensures)

pub returns-in-Check-clause-pair : goal.returns-in-Check-clause-pair
returns-in-Check-clause-pair g c = λ program line. absurd (asked_pair c.args.words.now _ program line c.in-Check.ensures)

pub returns-in-Best-clause-node : goal.returns-in-Best-clause-node
returns-in-Best-clause-node g c = λ program path line plain. absurd (asked_run c.args.words.now _ program path line plain c.in-Best.ensures)

pub returns-in-Pair-clause-node : goal.returns-in-Pair-clause-node
returns-in-Pair-clause-node g c = λ program path line plain. absurd (asked_run c.args.words.now _ program path line plain c.in-Pair.ensures)

pub returns-in-Check-clause-node : goal.returns-in-Check-clause-node
returns-in-Check-clause-node g c = λ program path line plain. absurd (asked_run c.args.words.now _ program path line plain c.in-Check.ensures)

pub returns-in-Text-clause-node : goal.returns-in-Text-clause-node
returns-in-Text-clause-node g c = λ program path line plain. absurd (asked_run c.args.words.now _ program path line plain c.in-Text.ensures)

pub returns-in-Refused-clause-node : goal.returns-in-Refused-clause-node
returns-in-Refused-clause-node g c = λ program path line plain. absurd (asked_run c.args.words.now _ program path line plain c.in-Refused.ensures)

pub returns-in-Run-clause-node : goal.returns-in-Run-clause-node
returns-in-Run-clause-node g c = λ program path line plain. (c.run_config-ran.result, g.E.Write.contents c.run_config-ran.new.errors, c.end_run.ensures.ends)

pub returns-clause-node : goal.returns-clause-node
returns-clause-node g c = λ program path line plain.
    tells_nothing c.end-in-OutOfMemory.result (input_of g.R.Read.remaining c.args.input.now) (output_of g.W.Write.contents c.args.output.now)
    (g.E.Write.contents c.args.errors.now) (g.E.Write.contents c.end-in-OutOfMemory.new.errors) c.end-in-OutOfMemory.ensures.ends

pub returns-in-New-clause-best : goal.returns-in-New-clause-best
returns-in-New-clause-best g c = λ program folder line plain. absurd (asked_best c.args.words.now _ program folder line plain c.in-New.ensures)

pub returns-in-New-clause-pair : goal.returns-in-New-clause-pair
returns-in-New-clause-pair g c = λ program line. absurd (asked_pair c.args.words.now _ program line c.in-New.ensures)

pub returns-in-New-clause-node : goal.returns-in-New-clause-node
returns-in-New-clause-node g c = λ program path line plain. absurd (asked_run c.args.words.now _ program path line plain c.in-New.ensures)

pub returns-in-QuietRun-clause-best : goal.returns-in-QuietRun-clause-best
returns-in-QuietRun-clause-best g c = λ program folder line plain. absurd (asked_best c.args.words.now _ program folder line plain c.in-QuietRun.ensures)

pub returns-in-QuietRun-clause-pair : goal.returns-in-QuietRun-clause-pair
returns-in-QuietRun-clause-pair g c = λ program line. absurd (asked_pair c.args.words.now _ program line c.in-QuietRun.ensures)

pub returns-in-QuietRun-clause-node : goal.returns-in-QuietRun-clause-node
returns-in-QuietRun-clause-node g c = λ program path line plain. absurd (asked_run c.args.words.now _ program path line plain c.in-QuietRun.ensures)

pub returns-in-Ask-clause-best : goal.returns-in-Ask-clause-best
returns-in-Ask-clause-best g c = λ program folder line plain. absurd (asked_best c.args.words.now _ program folder line plain c.in-Ask.ensures)

pub returns-in-Ask-clause-pair : goal.returns-in-Ask-clause-pair
returns-in-Ask-clause-pair g c = λ program line. absurd (asked_pair c.args.words.now _ program line c.in-Ask.ensures)

pub returns-in-Ask-clause-node : goal.returns-in-Ask-clause-node
returns-in-Ask-clause-node g c = λ program path line plain. absurd (asked_run c.args.words.now _ program path line plain c.in-Ask.ensures)
