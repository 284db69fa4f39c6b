use Rattle.std.proofs.Common.{ap}
use Rattle.folder_calls.specs.Shared.{CallerView}
use Rattle.folder_calls.proofs.HistoryShared.{answered-longer, answered-entered, answered-kept, shared-legal}
use Rattle.folder_calls.proofs.laws.calls.calls_share_one_history.Goals as goal

pub returns-clause-grows : goal.returns-clause-grows
returns-clause-grows c = λ old new x reply changes. let r = answered-longer old new x reply.value changes.answered in
    (r.0, r.1.0, r.1.1, r.1.2, changes.point, changes.legal)

pub returns-clause-entered : goal.returns-clause-entered
returns-clause-entered c = λ old new x reply changes. answered-entered old new x reply.value changes.answered

pub returns-clause-legal : goal.returns-clause-legal
returns-clause-legal c = λ passes limit s es e legal first last may accepted answer_is. shared-legal passes limit s es e legal (first, last) may accepted answer_is

pub returns-clause-not_accepted : goal.returns-clause-not_accepted
returns-clause-not_accepted c = λ old new x reply changes. answered-kept old new x reply.value changes.answered

pub returns-clause-out_of_memory : goal.returns-clause-out_of_memory
returns-clause-out_of_memory c = λ old new x changes. changes

pub returns-clause-read : goal.returns-clause-read
returns-clause-read c = λ old new q reply changes. (
  changes.sees.longer,
  ap (λ (v : CallerView). v.opening) changes.sees.same,
  ap (λ (v : CallerView). v.limit) changes.sees.same,
  ap (λ (v : CallerView). v.pass) changes.sees.same,
  changes.point,
  changes.legal,
  changes.sees.own,
  changes.answer_is,
)

pub returns-clause-no_read : goal.returns-clause-no_read
returns-clause-no_read c = λ old new q changes. changes
