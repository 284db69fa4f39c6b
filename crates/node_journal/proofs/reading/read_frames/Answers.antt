use Rattle.std.proofs.Common.{ℕ, drop, sym, ap, subst, ◌∙◌, arith}
use Rattle.std.proofs.lemmas.List.{drop-drop, length-drop}
use Rattle.node_journal.specs.declared.kept.JournalEnd.TheVariants.{Broken}
use Rattle.node_journal.specs.declared.kept.JournalEnd.{JournalEnd}
use Rattle.node_journal.specs.Format.{header_bytes, header_len}
use Rattle.node_journal.specs.Reading.{Reads, Ends, Breaks, end_of, nothing}
use Rattle.node_journal.specs.Runs.{joined}
use Rattle.node_journal.proofs.Joins.{goes-on, start-joined}
use Rattle.node_journal.proofs.reading.read_frames.Goals as goal

pub loop-run-init : goal.loop-run-init
loop-run-init c =
    let header = header_bytes c.args.header.now in
    let bytes = c.args.bytes.now in
    let new = c.new-run.ensures in
    let run = c.new-run.result in
    record {
      reads = λ k r.
          let there : Reads header header_len (drop header_len bytes) k = subst (λ (n : ℕ). Reads header n (drop n bytes) k) new.at r in
          let here : Reads header run.len (drop header_len bytes) k = subst (λ (n : ℕ). Reads header n (drop header_len bytes) k) (sym new.len) there in
          subst (Reads header header_len (drop header_len bytes)) (sym (start-joined header (drop header_len bytes) run k new.frames new.count here)) there;
      count = omega (arith, new.count);
      from = omega (arith, new.at);
      within = omega (arith, new.at, c.requires);
    }

pub returns-in-Cut-clause-kept : goal.returns-in-Cut-clause-kept
returns-in-Cut-clause-kept c =
    let header = header_bytes c.args.header.now in
    let bytes = c.args.bytes.now in
    let run = c.loop-run.run in
    let rest = drop run.at bytes in
    let end = c.end_of-end.ensures ∙ ap end_of c.split_at.ensures.back in
    let is = c.ended.ensures ∙ ap (λ (e : JournalEnd). joined run (nothing run.at e)) end in
    subst (Reads header header_len (drop header_len bytes)) (sym is)
    (c.loop-run.invariant.reads (nothing run.at (end_of rest)) (Ends run.at rest (sym c.in_ok-frame_at.ensures.value ∙ c.in-Cut.is)))

pub returns-in-NoFrame-clause-kept : goal.returns-in-NoFrame-clause-kept
returns-in-NoFrame-clause-kept c =
    let header = header_bytes c.args.header.now in
    let bytes = c.args.bytes.now in
    let run = c.loop-run.run in
    let rest = drop run.at bytes in
    subst (Reads header header_len (drop header_len bytes)) (sym c.ended-in-NoFrame.ensures)
    (c.loop-run.invariant.reads (nothing run.at Broken) (Breaks run.at rest (sym c.in_ok-frame_at.ensures.value ∙ c.in-NoFrame.is)))

pub loop-run-preserved : goal.loop-run-preserved
loop-run-preserved c =
    let header = header_bytes c.args.header.now in
    let bytes = c.args.bytes.now in
    let old = c.loop-run.run in
    let size = c.in-Framed.size in
    let push = c.in_ok-push-in-Framed.ensures in
    let within = rw c.in-Framed.is at c.in_ok-frame_at.ensures.within in
    record {
      reads = goes-on header (drop header_len bytes) bytes header_len old.at size c.push.new.self.at old c.push.new.self c.in-Framed.frame
          c.loop-run.invariant.reads (sym c.in-Framed.is ∙ c.in_ok-frame_at.ensures.value) push.at (drop-drop size old.at bytes) push.joined;
      count = push.count;
      from = omega (arith, push.at, c.loop-run.invariant.from);
      within = omega (arith, push.at, within, length-drop old.at bytes, c.loop-run.invariant.within);
    }
