-- What the calls of a shared folder answer: one history grows, and each change is in it once.
use Rattle.std.proofs.Common.{◌≡◌, ℕ, ◌+◌, ◌≤◌, Bool, true, false, List, [], ◌∷◌, ◌++◌, length, refl, sym, ap, subst, ◌∙◌, arith, append_assoc}
use Rattle.std.specs.Prelude.{cond, Some, MatchBool}
use Rattle.std.specs.FinMap.{len}
use Rattle.std.proofs.lemmas.Bool.{true≢false}
use Rattle.std.proofs.lemmas.List.{length-append}
use mathlib.Core.List.{IsPrefix}
use Rattle.folder_core.specs.States.{FolderState, IsFolder}
use Rattle.folder_core.specs.declared.answer.Answer.{Answer}
use Rattle.folder_core.specs.declared.answer.Answer.TheVariants.{HistoryFull}
use Rattle.folder_core.specs.declared.change.Change.{Change}
use Rattle.folder_core.specs.Steps.{MayChange, is_accepted, step}
use Rattle.folder_core.specs.Reads.{Query, Reply, Reads}
use Rattle.folder_calls.specs.declared.entry.Entry.{Entry}
use Rattle.folder_calls.specs.Histories.{IsLegal, state_after, is_over, shared_answer, own_entries}
use Rattle.folder_calls.specs.Shared.{CallerView, Sees, Makes, Declines, IsLegalView, ReadsAt, ChangesAt, own_entry, seeing}
use Rattle.folder_calls.proofs.HistoryEntries.{allowed-after, own-push, legal-push, shared-room, state-push}

-- the view is of the same caller and the same folder
abbrev pub OfOneCaller : CallerView → CallerView → Type 0
OfOneCaller old new = (new.opening ≡ old.opening) × (new.limit ≡ old.limit) × (new.pass ≡ old.pass)

sees-one : (old new : CallerView) → Sees old new → OfOneCaller old new
sees-one old new s = (ap (λ (v : CallerView). v.opening) s.same, ap (λ (v : CallerView). v.limit) s.same, ap (λ (v : CallerView). v.pass) s.same)

module _ (old new : CallerView) (c : Change) (a : Answer) where
  abbrev e : Entry
  e = own_entry old c a

  abbrev Answered : Type 0
  Answered = MatchBool (is_accepted a) (Makes old new c a) (Declines old new c a)

  makes : Answered → is_accepted a ≡ true → Makes old new c a
  makes answer_is accepted = subst (λ b. MatchBool b (Makes old new c a) (Declines old new c a)) accepted answer_is

  declines : Answered → is_accepted a ≡ false → Declines old new c a
  declines answer_is tested = subst (λ b. MatchBool b (Makes old new c a) (Declines old new c a)) tested answer_is

  made : Makes old new c a → is_accepted a ≡ true → Answered
  made m accepted = subst (λ b. MatchBool b (Makes old new c a) (Declines old new c a)) (sym accepted) m

  declined : Declines old new c a → is_accepted a ≡ false → Answered
  declined d tested = subst (λ b. MatchBool b (Makes old new c a) (Declines old new c a)) (sym tested) d

  module _ (m : Makes old new c a) where
    made-seen : new.seen ≡ m.point.seen ++ e ∷ []
    made-seen = ap (λ (v : CallerView). v.seen) m.appended

    made-longer : IsPrefix old.seen new.seen
    made-longer =
        let l = m.sees.longer in
        (l.0 ++ e ∷ [], sym (append_assoc old.seen l.0 (e ∷ [])) ∙ ap (λ xs. xs ++ e ∷ []) l.1 ∙ sym made-seen)

    made-one : OfOneCaller old new
    made-one =
        let s = sees-one old m.point m.sees in
        (ap (λ (v : CallerView). v.opening) m.appended ∙ s.0, ap (λ (v : CallerView). v.limit) m.appended ∙ s.1, ap (λ (v : CallerView). v.pass) m.appended ∙ s.2)

    made-once : own_entries old.pass new.seen ≡ own_entries old.pass old.seen ++ e ∷ []
    made-once = ap (own_entries old.pass) made-seen ∙ own-push old.pass m.point.seen e refl ∙ ap (λ xs. xs ++ e ∷ []) m.sees.own

  pub answered-longer : Answered → IsPrefix old.seen new.seen × OfOneCaller old new
  answered-longer answer_is =
      elim (is_accepted a) as (λ b. MatchBool b (Makes old new c a) (Declines old new c a) → IsPrefix old.seen new.seen × OfOneCaller old new) [
        | true ↦ λ m. (made-longer m, made-one m)
        | false ↦ λ d. (d.sees.longer, sees-one old new d.sees)
      ] answer_is

  -- an accepted change is the last entry, after a front that the caller then saw
  abbrev pub Entered : Type 0
  Entered =
      (own_entries old.pass new.seen ≡ own_entries old.pass old.seen ++ e ∷ [])
      × (front : List Entry) × (new.seen ≡ front ++ e ∷ []) × IsPrefix old.seen front × (a ≡ shared_answer old.limit old.opening front c)

  pub answered-entered : Answered → is_accepted a ≡ true → Entered
  answered-entered answer_is accepted = let m = makes answer_is accepted in (made-once m, m.point.seen, made-seen m, m.sees.longer, m.answer_is)

  pub answered-kept : Answered → is_accepted a ≡ false → (own_entries old.pass new.seen ≡ own_entries old.pass old.seen) × (a ≡ shared_answer old.limit old.opening new.seen c)
  answered-kept answer_is tested = let d = declines answer_is tested in (d.sees.own, d.answer_is)

-- an accepted shared answer is the step's
pub accepted-answer : (limit : ℕ) (s : FolderState) (es : List Entry) (c : Change) → is_accepted (shared_answer limit s es c) ≡ true → shared_answer limit s es c ≡ (step (state_after s es) c).0
accepted-answer limit s es c accepted = by (is_over limit (length es) (step (state_after s es) c)) accepted
  where
    answer : Bool → Answer
    answer b = (cond b (HistoryFull, state_after s es) (step (state_after s es) c)).0

    by : (b : Bool) → is_accepted (answer b) ≡ true → answer b ≡ (step (state_after s es) c).0
    by true e = absurd (true≢false (sym e))
    by false e = refl

-- an accepted change that its caller may make keeps a legal history legal
pub shared-legal : (passes limit : ℕ) (s : FolderState) (es : List Entry) (e : Entry) → IsLegal passes s es → (1 ≤ e.pass) × (e.pass ≤ passes) → MayChange s.me e.change
    → is_accepted e.answer ≡ true → e.answer ≡ shared_answer limit s es e.change → IsLegal passes s (es ++ e ∷ [])
shared-legal passes limit s es e legal given may accepted answer_is =
    legal-push passes s es e legal (record {
      given = given;
      allowed = allowed-after s es e.change may;
      answered = sym (answer_is ∙ accepted-answer limit s es e.change (ap is_accepted (sym answer_is) ∙ accepted));
      accepted = accepted;
    })

-- ---- what may be answered

length-push : (es : List Entry) (e : Entry) → length (es ++ e ∷ []) ≡ length es + 1
length-push es e = length-append es (e ∷ [])

-- a caller's accepted change keeps what it has seen a history that a folder had
pub view-push : (v : CallerView) (c : Change) → IsLegalView v → MayChange v.opening.me c → is_accepted (shared_answer v.limit v.opening v.seen c) ≡ true
    → IsLegalView (seeing v (v.seen ++ own_entry v c (shared_answer v.limit v.opening v.seen c) ∷ []))
view-push v c view may accepted = record {
  opening = view.opening;
  no_pull = view.no_pull;
  passes = view.passes;
  given = view.given;
  legal = shared-legal view.passes v.limit v.opening v.seen e view.legal view.given may accepted refl;
  room =
      let r = shared-room v.limit v.opening v.seen c accepted in
      let l = length-push v.seen e in
      let s = ap (λ (s : FolderState). len s.pulls) (state-push v.opening v.seen e) in
      omega arith;
}
  where
    e : Entry
    e = own_entry v c (shared_answer v.limit v.opening v.seen c)

-- what the caller of a folder that was just opened has seen
pub view-opened : (s : FolderState) (limit pass : ℕ) → IsFolder s → len s.pulls ≡ 0 → 1 ≤ pass → IsLegalView (record { opening = s; limit = limit; pass = pass; seen = [] })
view-opened s limit pass folder none given = record { opening = folder; no_pull = none; passes = pass; given = (given, omega arith); legal = tt; room = omega arith }

-- wherever the history went on without the caller, its calls may be answered
module _ (old : CallerView) (es : List Entry) (longer : IsPrefix old.seen es) (own : own_entries old.pass es ≡ own_entries old.pass old.seen) (view : IsLegalView (seeing old es)) where
  saw : Sees old (seeing old es)
  saw = record { longer = longer; own = own; same = refl }

  pub made-there : (c : Change) (a : Answer) → MayChange old.opening.me c → a ≡ shared_answer old.limit old.opening es c → is_accepted a ≡ true
      → ChangesAt old c (Some (record { at = length es + 1; value = a })) (seeing old (es ++ own_entry old c a ∷ []))
  made-there c a may is accepted = record {
    point = sym (length-push es (own_entry old c a));
    legal = subst (λ b. IsLegalView (seeing old (es ++ own_entry old c b ∷ []))) (sym is) (view-push (seeing old es) c view may (ap is_accepted (sym is) ∙ accepted));
    answered = made old (seeing old (es ++ own_entry old c a ∷ [])) c a (record { point = seeing old es; sees = saw; answer_is = is; appended = refl }) accepted;
  }

  pub declined-there : (c : Change) (a : Answer) → a ≡ shared_answer old.limit old.opening es c → is_accepted a ≡ false
      → ChangesAt old c (Some (record { at = length es; value = a })) (seeing old es)
  declined-there c a is tested = record {
    point = refl;
    legal = view;
    answered = declined old (seeing old es) c a (record { sees = saw; answer_is = is }) tested;
  }

  pub read-there : (q : Query) (r : Reply q) → Reads (state_after old.opening es) q r → ReadsAt old q (Some (record { at = length es; value = r })) (seeing old es)
  read-there q r reads = record { point = refl; legal = view; sees = saw; answer_is = reads }
