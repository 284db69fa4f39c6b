use Rattle.std.proofs.Common.{subst, sym}
use Rattle.sync_pull.specs.Ends.{IsRefused}
use Rattle.sync_pull.proofs.ends.refused.Goals as goal

pub returns-in-LocalMoved-clause-refused : goal.returns-in-LocalMoved-clause-refused
returns-in-LocalMoved-clause-refused g c =
    subst (λ r. IsRefused (g.W.FolderCalls.view c.args.calls.now) r c.give_up.result (g.W.FolderCalls.view c.give_up.new.calls)) (sym c.in-LocalMoved.is) c.give_up.ensures.closes

pub returns-in-Superseded-clause-refused : goal.returns-in-Superseded-clause-refused
returns-in-Superseded-clause-refused g c =
    subst (λ r. IsRefused (g.W.FolderCalls.view c.args.calls.now) r c.give_up-in-Superseded.result (g.W.FolderCalls.view c.give_up-in-Superseded.new.calls)) (sym c.in-Superseded.is) c.give_up-in-Superseded.ensures.closes

pub returns-in-SequenceFull-clause-refused : goal.returns-in-SequenceFull-clause-refused
returns-in-SequenceFull-clause-refused g c =
    subst (λ r. IsRefused (g.W.FolderCalls.view c.args.calls.now) r c.give_up-in-SequenceFull.result (g.W.FolderCalls.view c.give_up-in-SequenceFull.new.calls)) (sym c.in-SequenceFull.is) c.give_up-in-SequenceFull.ensures.closes

pub returns-in-HistoryFull-clause-refused : goal.returns-in-HistoryFull-clause-refused
returns-in-HistoryFull-clause-refused g c =
    subst (λ r. IsRefused (g.W.FolderCalls.view c.args.calls.now) r c.give_up-in-HistoryFull.result (g.W.FolderCalls.view c.give_up-in-HistoryFull.new.calls)) (sym c.in-HistoryFull.is) c.give_up-in-HistoryFull.ensures.closes
