use Rattle.std.proofs.Common.{sym, subst}
use Rattle.std.proofs.lemmas.Bool.{true≢false}
use Rattle.std.specs.Prelude.{IsTrue}
use Rattle.folder_calls.proofs.HistoryReplays.{legal-may_follow, legal-more_made, state-more_made}
use Rattle.folder_calls.proofs.check.replays.Goals as goal

pub returns-then-not-branch-clause-replays : goal.returns-then-not-branch-clause-replays
returns-then-not-branch-clause-replays c = (
  λ no. absurd (true≢false (sym no)),
  λ replay.
      let may = legal-may_follow c.args.passes c.args.opening.now c.args.entries.now c.loop-entry.entry-index c.entry-item.result c.loop-entry-test.true c.entry-item.is
      c.loop-entry.folder c.loop-entry.invariant.state replay.1 in
      subst IsTrue c.if-not-branch.true (c.in_ok-follow.ensures.follows.1 may),
)

pub loop-entry-preserved : goal.loop-entry-preserved
loop-entry-preserved c =
    let yes : IsTrue c.in_ok-follow.field-0 = c.if-not-branch.false in record {
      legal = legal-more_made c.args.passes c.args.opening.now c.args.entries.now c.loop-entry.entry-index c.entry-item.result c.loop-entry-test.true c.entry-item.is
          c.loop-entry.folder c.loop-entry.invariant.state c.loop-entry.invariant.legal (c.in_ok-follow.ensures.follows.0 yes);
      state = state-more_made c.args.passes c.args.opening.now c.args.entries.now c.loop-entry.entry-index c.entry-item.result c.loop-entry-test.true c.entry-item.is
          c.loop-entry.folder c.loop-entry.invariant.state c.follow.new.folder (c.in_ok-follow.ensures.made yes);
    }
