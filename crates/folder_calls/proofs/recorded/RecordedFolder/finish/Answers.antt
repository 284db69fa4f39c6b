use Rattle.std.proofs.Common.{refl, ap, subst, ◌∙◌}
use Rattle.sync_record.specs.Assemblies.{IsAssembled}
use Rattle.folder_core.specs.declared.change.Change.TheVariants.{Finish}
use Rattle.folder_calls.proofs.RecordedSteps.{ended-enters, ended-history, ended-recorded, ended-pulls, ended-room, made-as, pushed-as, tested-recorded}
use Rattle.folder_calls.proofs.recorded.RecordedFolder.finish.Goals as goal

pub overflow_sub-self : goal.overflow_sub-self
overflow_sub-self g c =
    ended-pulls _ c.args.self.now c.self.view_is _ _ _ c.self.invariant c.args.pass c.requires.pass (Finish c.args.commit c.args.assembled)
    (c.requires.assembled, subst IsAssembled c.assembled.view_is c.assembled.invariant) _ _ (made-as _ (ap (λ t. Finish t c.args.assembled) (c.commit.invariant ∙ c.commit.view_is)) c.in_ok-sequence.ensures)
    refl refl refl

pub append-requires : goal.append-requires
append-requires g c = record {
  room =
      ended-room _ c.args.self.now c.self.view_is _ _ _ c.self.invariant c.args.pass c.requires.pass (Finish c.args.commit c.args.assembled)
      (c.requires.assembled, subst IsAssembled c.assembled.view_is c.assembled.invariant) _ _ (made-as _ (ap (λ t. Finish t c.args.assembled) (c.commit.invariant ∙ c.commit.view_is)) c.in_ok-sequence.ensures)
      refl refl refl;
}

pub invariant_of-self-2 : goal.invariant_of-self-2
invariant_of-self-2 g c =
    ended-recorded _ c.args.self.now c.self.view_is _ _ _ c.self.invariant c.args.pass c.requires.pass (Finish c.args.commit c.args.assembled)
    (c.requires.assembled, subst IsAssembled c.assembled.view_is c.assembled.invariant) _ _ (made-as _ (ap (λ t. Finish t c.args.assembled) (c.commit.invariant ∙ c.commit.view_is)) c.in_ok-sequence.ensures)
    refl refl refl
    c.append.new.entries.items (pushed-as _ c.append.ensures.items refl (ap (λ t. Finish t c.args.assembled) c.commit.view_is) refl)
    _ c.append.ensures.capacity

pub invariant_of-self : goal.invariant_of-self
invariant_of-self g c =
    tested-recorded _ c.args.self.now c.self.view_is _ _ _ c.self.invariant c.args.pass c.requires.pass (Finish c.args.commit c.args.assembled)
    (c.requires.assembled, subst IsAssembled c.assembled.view_is c.assembled.invariant) _ _ (made-as _ (ap (λ t. Finish t c.args.assembled) (c.commit.invariant ∙ c.commit.view_is)) c.in_err-sequence.ensures)
    refl

pub returns-clause-appends : goal.returns-clause-appends
returns-clause-appends g c =
    ended-enters _ c.args.self.now c.self.view_is _ _ _ c.self.invariant c.args.pass c.requires.pass (Finish c.args.commit c.args.assembled)
    (c.requires.assembled, subst IsAssembled c.assembled.view_is c.assembled.invariant) _ _ (made-as _ (ap (λ t. Finish t c.args.assembled) (c.commit.invariant ∙ c.commit.view_is)) c.in_ok-sequence.ensures)
    refl refl refl
    c.append.new.entries.items (pushed-as _ c.append.ensures.items refl (ap (λ t. Finish t c.args.assembled) c.commit.view_is) refl)

pub returns-clause-history : goal.returns-clause-history
returns-clause-history g c =
    ended-history _ c.args.self.now c.self.view_is _ _ _ c.self.invariant c.args.pass c.requires.pass (Finish c.args.commit c.args.assembled)
    (c.requires.assembled, subst IsAssembled c.assembled.view_is c.assembled.invariant) _ _ (made-as _ (ap (λ t. Finish t c.args.assembled) (c.commit.invariant ∙ c.commit.view_is)) c.in_ok-sequence.ensures)
    refl refl refl
    c.append.new.entries.items (pushed-as _ c.append.ensures.items refl (ap (λ t. Finish t c.args.assembled) c.commit.view_is) refl)
