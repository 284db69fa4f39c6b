-- How a pull ends.
use Rattle.std.proofs.Common.{◌≡◌, Bool, true, false, List, [], ◌∷◌, inl, inr, refl, sym, ap, subst, ◌∙◌}
use Rattle.std.specs.Prelude.{Err, MatchBool}
use Rattle.folder_core.specs.Steps.{is_accepted}
use Rattle.folder_core.specs.declared.answer.Answer.{Answer}
use Rattle.folder_core.specs.declared.answer.Answer.TheVariants as answer
use Rattle.folder_core.specs.declared.change.Change.{Change}
use Rattle.folder_core.specs.declared.change.Change.TheVariants.{Abort, EnterCommit, Finish, GiveUp}
use Rattle.folder_core.specs.declared.pull_info.PullInfo.{PullInfo}
use Rattle.folder_calls.specs.Adds.{Asked}
use Rattle.folder_calls.specs.Calls.{GivesBack, enter_value}
use Rattle.folder_calls.specs.Shared.{CallerView, Declines, Gets, Makes, Sees}
use Rattle.folder_calls.specs.declared.pull.EnterRefusal.{EnterRefusal}
use Rattle.folder_calls.specs.declared.pull.EnterRefusal.TheVariants as enter
use Rattle.sync_pull.specs.Chains.{AsksAndSees}
use Rattle.sync_pull.specs.Ends.{Closes, Ends, EndsBy, EndsCommit, IsRefused, enters, finishes, refused_by, stopped}
use Rattle.sync_pull.specs.declared.answer.PullAnswer.{PullAnswer}
use Rattle.sync_pull.specs.declared.answer.PullAnswer.TheVariants.{Done, NotNeeded, Busy, Unsupported, LocalMoved, Superseded, Refused, Failed}
use Rattle.sync_pull.specs.declared.answer.Stop.{Stop}
use Rattle.sync_pull.specs.declared.answer.Stop.TheVariants as stop
use Rattle.sync_pull.specs.declared.answer.PullRefusal.TheVariants.{SequenceFull, HistoryFull, OutOfMemory, Stray}
use Rattle.sync_pull.proofs.ChainLemmas.{sees-itself, sees-together}

pub sees-first : (a b c : CallerView) (asked : List Asked) → Sees a b → AsksAndSees b asked c → AsksAndSees a asked c
sees-first a b c [] x h = sees-together a b c x h
sees-first a b c (m ∷ ms) x h = (h.0, h.1, sees-together a b h.0 x h.2, h.3, h.4)

pub ends-after : (a b c : CallerView) (t : PullInfo) (p : PullAnswer) → Sees a b → Ends b t p c → Ends a t p c
ends-after a b c t p x e = (e.0, e.1, sees-first a b c e.0 x e.2)

one : (a b : CallerView) (m : Asked) → Gets a m.0 m.1 b → AsksAndSees a (m ∷ []) b
one a b m g = (a, b, sees-itself a, g, sees-itself b)

two : (a b c : CallerView) (m o : Asked) → Gets a m.0 m.1 b → Gets b o.0 o.1 c → AsksAndSees a (m ∷ o ∷ []) c
two a b c m o g h = (a, b, sees-itself a, g, (b, c, sees-itself b, h, sees-itself c))

-- a pull that is given up at once
pub gives-ends : (old new : CallerView) (t : PullInfo) (given p : PullAnswer) → EndsBy t given ((GiveUp t, answer.Closed) ∷ []) → Closes old (GiveUp t) given p new → Ends old t p new
gives-ends old new t given p by (inl e) =
    subst (λ r. Ends old t r new) (sym e.0) ((GiveUp t, answer.Closed) ∷ [], by, one old new (GiveUp t, answer.Closed) e.1)
gives-ends old new t given p by (inr e) =
    subst (λ r. Ends old t r new) (sym e.0) ((GiveUp t, answer.Stray) ∷ [], inr (inl refl), one old new (GiveUp t, answer.Stray) e.1)

-- a pull that is given up after its commit was refused
closes-ends : (old mid new : CallerView) (t x : PullInfo) (a : Answer) → is_accepted a ≡ false → Gets old (EnterCommit t) a mid → x ≡ t → (given p : PullAnswer)
    → EndsBy t given (refused_by t a) → Closes mid (GiveUp x) given p new → Ends old t p new
closes-ends old mid new t x a denied g back given p by (inl e) =
    let closed : Gets mid (GiveUp t) answer.Closed new = subst (λ y. Gets mid (GiveUp y) answer.Closed new) back e.1 in
    subst (λ r. Ends old t r new) (sym e.0) (refused_by t a, by, two old mid new (EnterCommit t, a) (GiveUp t, answer.Closed) g closed)
closes-ends old mid new t x a denied g back given p by (inr e) =
    let stray : Gets mid (GiveUp t) answer.Stray new = subst (λ y. Gets mid (GiveUp y) answer.Stray new) back e.1 in
    subst (λ r. Ends old t r new) (sym e.0)
    ((EnterCommit t, a) ∷ (GiveUp t, answer.Stray) ∷ [], inr (inr (inl (a, denied, refl))), two old mid new (EnterCommit t, a) (GiveUp t, answer.Stray) g stray)

pub refused-ends : (old mid new : CallerView) (t : PullInfo) (r : EnterRefusal) → Gets old (EnterCommit t) (enter_value (Err r)) mid → GivesBack t r
    → (p : PullAnswer) → IsRefused mid r p new → Ends old t p new
refused-ends old mid new t enter.Stray g back p e =
    subst (λ r. Ends old t r new) (sym e.0)
    (subst (λ v. Ends old t (Refused Stray) v) (sym e.1) ((EnterCommit t, answer.Stray) ∷ [], inl refl, one old mid (EnterCommit t, answer.Stray) g))
refused-ends old mid new t (enter.LocalMoved x) g back p e = closes-ends old mid new t x answer.LocalMoved refl g back LocalMoved p refl e
refused-ends old mid new t (enter.Superseded x) g back p e = closes-ends old mid new t x answer.Superseded refl g back Superseded p refl e
refused-ends old mid new t (enter.SequenceFull x) g back p e = closes-ends old mid new t x answer.SequenceFull refl g back (Refused SequenceFull) p refl e
refused-ends old mid new t (enter.HistoryFull x) g back p e = closes-ends old mid new t x answer.HistoryFull refl g back (Refused HistoryFull) p refl e

-- memory was out where the commit was to be entered
pub memory-ends : (old mid new : CallerView) (t x : PullInfo) → mid ≡ old → x ≡ t → (p : PullAnswer) → Closes mid (GiveUp x) (Refused OutOfMemory) p new → Ends old t p new
memory-ends old mid new t x kept back p e =
    gives-ends old new t (Refused OutOfMemory) p (inl refl)
    (subst (λ v. Closes v (GiveUp t) (Refused OutOfMemory) p new) kept (subst (λ y. Closes mid (GiveUp y) (Refused OutOfMemory) p new) back e))

-- the commit was entered
pub entered-ends : (old mid new : CallerView) (t c : PullInfo) → Gets old (EnterCommit t) (answer.Entered c) mid → c ≡ t → (p : PullAnswer) → EndsCommit mid c p new → Ends old t p new
entered-ends old mid new t c entered is p e = by p (subst (λ x. EndsCommit mid x p new) is e)
  where
    first : Gets old (EnterCommit t) (answer.Entered t) mid
    first = subst (λ x. Gets old (EnterCommit t) (answer.Entered x) mid) is entered

    aborted : Gets mid (Abort t) answer.Closed new → AsksAndSees old (enters t ∷ (Abort t, answer.Closed) ∷ []) new
    aborted h = two old mid new (enters t) (Abort t, answer.Closed) first h

    by : (p : PullAnswer) → EndsCommit mid t p new → Ends old t p new
    by (Done k) h = (enters t ∷ finishes t (answer.Done k) ∷ [], refl, two old mid new (enters t) (finishes t (answer.Done k)) first h)
    by NotNeeded h = absurd h
    by Busy h = absurd h
    by Unsupported h = absurd h
    by LocalMoved h = absurd h
    by Superseded h = absurd h
    by (Refused SequenceFull) h = absurd h
    by (Refused HistoryFull) h = absurd h
    by (Refused OutOfMemory) h = (enters t ∷ (Abort t, answer.Closed) ∷ [], inr refl, aborted h)
    by (Refused Stray) (inl h) = (enters t ∷ finishes t answer.Stray ∷ [], inr (inr (inr (inr refl))), two old mid new (enters t) (finishes t answer.Stray) first h)
    by (Refused Stray) (inr h) = (enters t ∷ (Abort t, answer.Stray) ∷ [], inr (inr (inr (inl refl))), two old mid new (enters t) (Abort t, answer.Stray) first h)
    by (Failed f) h = (enters t ∷ (Abort t, answer.Closed) ∷ [], inr refl, aborted h)

-- and this is the first that was asked
pub entered-first : (old mid new : CallerView) (t c : PullInfo) → Gets old (EnterCommit t) (answer.Entered c) mid → c ≡ t → (p : PullAnswer) → EndsCommit mid c p new
    → (rest : List Asked) × AsksAndSees old (enters t ∷ rest) new
entered-first old mid new t c entered is p e = by p (subst (λ x. EndsCommit mid x p new) is e)
  where
    then-asks : (c : Change) (a : Answer) → Gets mid c a new → (rest : List Asked) × AsksAndSees old (enters t ∷ rest) new
    then-asks c a h = ((c, a) ∷ [], two old mid new (enters t) (c, a) (subst (λ x. Gets old (EnterCommit t) (answer.Entered x) mid) is entered) h)

    by : (p : PullAnswer) → EndsCommit mid t p new → (rest : List Asked) × AsksAndSees old (enters t ∷ rest) new
    by (Done k) h = then-asks (Finish t t.target) (answer.Done k) h
    by NotNeeded h = absurd h
    by Busy h = absurd h
    by Unsupported h = absurd h
    by LocalMoved h = absurd h
    by Superseded h = absurd h
    by (Refused SequenceFull) h = absurd h
    by (Refused HistoryFull) h = absurd h
    by (Refused OutOfMemory) h = then-asks (Abort t) answer.Closed h
    by (Refused Stray) (inl h) = then-asks (Finish t t.target) answer.Stray h
    by (Refused Stray) (inr h) = then-asks (Abort t) answer.Stray h
    by (Failed f) h = then-asks (Abort t) answer.Closed h

pub stop-gives : (t : PullInfo) (s : Stop) → EndsBy t (stopped s) ((GiveUp t, answer.Closed) ∷ [])
stop-gives t stop.OutOfMemory = inl refl
stop-gives t (stop.Failed f) = inl refl

-- a caller's folder was opened as before
pub opening-same : (old new : CallerView) (c : Change) (a : Answer) → Gets old c a new → new.opening ≡ old.opening
opening-same old new c a g = by (is_accepted a) g.answered
  where
    by : (b : Bool) → MatchBool b (Makes old new c a) (Declines old new c a) → new.opening ≡ old.opening
    by true m = ap (λ (v : CallerView). v.opening) m.appended ∙ ap (λ (v : CallerView). v.opening) m.sees.same
    by false d = ap (λ (v : CallerView). v.opening) d.sees.same
