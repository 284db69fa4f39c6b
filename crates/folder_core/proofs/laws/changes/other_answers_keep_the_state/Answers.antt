use Rattle.std.proofs.Common.{◌≡◌, ℕ, false, true, refl, sym, ap, ◌⊎◌, inl, inr}
use Rattle.std.proofs.lemmas.Bool.{true≢false}
use Rattle.folder_core.specs.declared.answer.Answer.{Answer}
use Rattle.folder_core.specs.declared.answer.Answer.TheVariants.{Busy, Unchanged, CounterFull, SequenceFull, HistoryFull, NotNeeded, Unsupported, Stray, LocalMoved, Superseded, Applied, Closed, Moved, Recorded, Done, Begun, Entered}
use Rattle.folder_core.specs.declared.pull_info.PullInfo.{PullInfo}
use Rattle.folder_core.specs.Steps.{is_accepted}
use Rattle.folder_core.proofs.ChangeKept.{step-keeps}
use Rattle.folder_core.proofs.laws.changes.other_answers_keep_the_state.Goals as goal

abbrev Made : Answer → Type 0
Made a =
    (a ≡ Applied) ⊎ ((a ≡ Closed) ⊎ (((k : ℕ) × (a ≡ Recorded k)) ⊎ (((k : ℕ) × (a ≡ Done k)) ⊎ (((t : PullInfo) × (a ≡ Begun t)) ⊎ ((t : PullInfo) × (a ≡ Entered t))))))

unmade : {P : Type 0} → false ≡ true → P
unmade e = absurd (true≢false (sym e))

made : (a : Answer) → is_accepted a ≡ true → Made a
made Applied e = inl refl
made Closed e = inr (inl refl)
made (Recorded k) e = inr (inr (inl (k, refl)))
made (Done k) e = inr (inr (inr (inl (k, refl))))
made (Begun t) e = inr (inr (inr (inr (inl (t, refl)))))
made (Entered t) e = inr (inr (inr (inr (inr (t, refl)))))
made Busy e = unmade e
made Unchanged e = unmade e
made CounterFull e = unmade e
made SequenceFull e = unmade e
made HistoryFull e = unmade e
made NotNeeded e = unmade e
made Unsupported e = unmade e
made Stray e = unmade e
made LocalMoved e = unmade e
made Superseded e = unmade e
made (Moved v) e = unmade e

accepted : (a : Answer) → Made a → is_accepted a ≡ true
accepted a (inl e) = ap is_accepted e
accepted a (inr (inl e)) = ap is_accepted e
accepted a (inr (inr (inl e))) = ap is_accepted e.1
accepted a (inr (inr (inr (inl e)))) = ap is_accepted e.1
accepted a (inr (inr (inr (inr (inl e))))) = ap is_accepted e.1
accepted a (inr (inr (inr (inr (inr e))))) = ap is_accepted e.1

pub returns-clause-kept : goal.returns-clause-kept
returns-clause-kept c = step-keeps

pub returns-clause-accepted : goal.returns-clause-accepted
returns-clause-accepted c = λ a. (made a, accepted a)
