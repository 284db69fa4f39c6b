use Rattle.std.proofs.Common.{refl, sym, ap, ◌∙◌}
use Rattle.folder_core.specs.Calls.{close_answer}
use Rattle.folder_core.specs.Steps.{is_accepted}
use Rattle.folder_core.specs.declared.change.Change.TheVariants.{Abort}
use Rattle.folder_calls.proofs.RecordedSteps.{ended-enters, ended-history, ended-recorded, ended-pulls, ended-room, made-as, pushed-as, tested-recorded}
use Rattle.folder_calls.proofs.recorded.RecordedFolder.abort.Goals as goal

pub overflow_sub-self : goal.overflow_sub-self
overflow_sub-self g c =
    ended-pulls _ c.args.self.now c.self.view_is _ _ _ c.self.invariant c.args.pass c.requires.pass (Abort c.args.commit)
    tt _ _ (made-as _ (ap Abort (c.commit.invariant ∙ c.commit.view_is)) c.abort-is_closed.ensures)
    (ap (λ b. is_accepted (close_answer b)) c.if-is_closed.true) refl refl

pub append-requires : goal.append-requires
append-requires g c = record {
  room =
      ended-room _ c.args.self.now c.self.view_is _ _ _ c.self.invariant c.args.pass c.requires.pass (Abort c.args.commit)
      tt _ _ (made-as _ (ap Abort (c.commit.invariant ∙ c.commit.view_is)) c.abort-is_closed.ensures)
      (ap (λ b. is_accepted (close_answer b)) c.if-is_closed.true) refl refl;
}

pub invariant_of-self : goal.invariant_of-self
invariant_of-self g c =
    ended-recorded _ c.args.self.now c.self.view_is _ _ _ c.self.invariant c.args.pass c.requires.pass (Abort c.args.commit)
    tt _ _ (made-as _ (ap Abort (c.commit.invariant ∙ c.commit.view_is)) c.abort-is_closed.ensures)
    (ap (λ b. is_accepted (close_answer b)) c.if-is_closed.true) refl refl
    c.append.new.entries.items (pushed-as _ c.append.ensures.items refl (ap Abort c.commit.view_is) (sym (ap close_answer c.if-is_closed.true)))
    _ c.append.ensures.capacity

pub invariant_of-self-else-is_closed : goal.invariant_of-self-else-is_closed
invariant_of-self-else-is_closed g c =
    tested-recorded _ c.args.self.now c.self.view_is _ _ _ c.self.invariant c.args.pass c.requires.pass (Abort c.args.commit)
    tt _ _ (made-as _ (ap Abort (c.commit.invariant ∙ c.commit.view_is)) c.abort-is_closed.ensures)
    (ap (λ b. is_accepted (close_answer b)) c.if-is_closed.false)

pub returns-then-is_closed-clause-appends : goal.returns-then-is_closed-clause-appends
returns-then-is_closed-clause-appends g c =
    ended-enters _ c.args.self.now c.self.view_is _ _ _ c.self.invariant c.args.pass c.requires.pass (Abort c.args.commit)
    tt _ _ (made-as _ (ap Abort (c.commit.invariant ∙ c.commit.view_is)) c.abort-is_closed.ensures)
    (ap (λ b. is_accepted (close_answer b)) c.if-is_closed.true) refl refl
    c.append.new.entries.items (pushed-as _ c.append.ensures.items refl (ap Abort c.commit.view_is) (sym (ap close_answer c.if-is_closed.true)))

pub returns-then-is_closed-clause-history : goal.returns-then-is_closed-clause-history
returns-then-is_closed-clause-history g c =
    ended-history _ c.args.self.now c.self.view_is _ _ _ c.self.invariant c.args.pass c.requires.pass (Abort c.args.commit)
    tt _ _ (made-as _ (ap Abort (c.commit.invariant ∙ c.commit.view_is)) c.abort-is_closed.ensures)
    (ap (λ b. is_accepted (close_answer b)) c.if-is_closed.true) refl refl
    c.append.new.entries.items (pushed-as _ c.append.ensures.items refl (ap Abort c.commit.view_is) (sym (ap close_answer c.if-is_closed.true)))
