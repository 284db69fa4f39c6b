-- What the words say that are written of pulls and plans.
use Rattle.std.proofs.Common.{◌≡◌, ℕ, ◌≤◌, ◌<◌, ◌-◌, Bool, true, false, List, ◌++◌, ◌∷◌, [], refl, sym, ap, subst, ◌∙◌, ◌⊎◌, inl, inr, arith}
use Rattle.std.specs.Prelude.{Option, Some, None, IsTrue, ◌&&◌, bytes_eq, length, nat_le, option_map, MatchBool}
use Rattle.std.proofs.lemmas.Bool.{and_parts, false_from_ne_true, le-leb, leb-true, true≢false}
use Rattle.std.proofs.lemmas.Slice.Eq.{bytes_eq-Decides}
use Rattle.sync_record.specs.Assemblies.{IsAssembled}
use Rattle.sync_record.specs.Records.{FileRecord, Name}
use Rattle.folder_core.specs.Reads.{Query, Reads, Reply}
use Rattle.folder_core.specs.States.{FolderState, local, local_version}
use Rattle.folder_core.specs.Steps.{is_accepted}
use Rattle.folder_core.specs.declared.answer.Answer.{Answer}
use Rattle.folder_core.specs.declared.answer.Answer.TheVariants.{Begun, Entered}
use Rattle.folder_core.specs.declared.change.Change.{Change}
use Rattle.folder_core.specs.declared.change.Change.TheVariants.{Finish, GiveUp, Abort}
use Rattle.folder_core.specs.declared.pull_info.PullInfo.{PullInfo}
use Rattle.folder_calls.specs.declared.at.At.{At}
use Rattle.folder_calls.specs.declared.entry.Entry.{Entry}
use Rattle.folder_calls.specs.declared.lone_state.LoneState.{LoneState}
use Rattle.folder_calls.specs.declared.planned.Plan.{Plan}
use Rattle.folder_calls.specs.Histories.{EndsPull, ends_pull_of, is_begin_of, is_end_of, is_enter_of, state_after}
use Rattle.folder_calls.specs.RecordedFolders.{Appends, end}
use Rattle.folder_calls.specs.LoneStates.{ChangesAfterPlan, IsOwnChange, IsOwnRead, IsPlanMade, PlanGoesOn, ReadsAfterPlan}

-- ---- entries of pulls

pub begins-to : (n : Name) (a : Answer) → is_begin_of n a ≡ true → (t : PullInfo) × (a ≡ Begun t) × (t.name ≡ n)
begins-to n (Begun t) e = (t, refl, (bytes_eq-Decides t.name n).0 e)
begins-to n _ e = absurd (true≢false (sym e))

pub begins-from : (n : Name) (a : Answer) → ((t : PullInfo) × (a ≡ Begun t) × (t.name ≡ n)) → is_begin_of n a ≡ true
begins-from n a x = ap (is_begin_of n) x.1 ∙ (bytes_eq-Decides x.0.name n).1 x.2

pub enters-to : (n : Name) (a : Answer) → is_enter_of n a ≡ true → (t : PullInfo) × (a ≡ Entered t) × (t.name ≡ n)
enters-to n (Entered t) e = (t, refl, (bytes_eq-Decides t.name n).0 e)
enters-to n _ e = absurd (true≢false (sym e))

pub enters-from : (n : Name) (a : Answer) → ((t : PullInfo) × (a ≡ Entered t) × (t.name ≡ n)) → is_enter_of n a ≡ true
enters-from n a x = ap (is_enter_of n) x.1 ∙ (bytes_eq-Decides x.0.name n).1 x.2

abbrev IsEnd : PullInfo → Change → Type 0
IsEnd t c = ((r : FileRecord) × (c ≡ Finish t r)) ⊎ ((c ≡ GiveUp t) ⊎ (c ≡ Abort t))

end-to : (n : Name) (c : Change) → ends_pull_of n c ≡ true → (t : PullInfo) × (t.name ≡ n) × IsEnd t c
end-to n (Finish t r) e = (t, (bytes_eq-Decides t.name n).0 e, inl (r, refl))
end-to n (GiveUp t) e = (t, (bytes_eq-Decides t.name n).0 e, inr (inl refl))
end-to n (Abort t) e = (t, (bytes_eq-Decides t.name n).0 e, inr (inr refl))
end-to n _ e = absurd (true≢false (sym e))

end-from : (n : Name) (c : Change) (t : PullInfo) → t.name ≡ n → IsEnd t c → ends_pull_of n c ≡ true
end-from n c t name (inl x) = ap (ends_pull_of n) x.1 ∙ (bytes_eq-Decides t.name n).1 name
end-from n c t name (inr (inl x)) = ap (ends_pull_of n) x ∙ (bytes_eq-Decides t.name n).1 name
end-from n c t name (inr (inr x)) = ap (ends_pull_of n) x ∙ (bytes_eq-Decides t.name n).1 name

pub ends-to : (n : Name) (e : Entry) → is_end_of n e ≡ true → (is_accepted e.answer ≡ true) × ((t : PullInfo) × (t.name ≡ n) × IsEnd t e.change)
ends-to n e p = let both = and_parts (is_accepted e.answer) (ends_pull_of n e.change) p in (both.0, end-to n e.change both.1)

pub ends-from : (n : Name) (e : Entry) → (is_accepted e.answer ≡ true) × ((t : PullInfo) × (t.name ≡ n) × IsEnd t e.change) → is_end_of n e ≡ true
ends-from n e x = ap (λ b. b && ends_pull_of n e.change) x.0 ∙ end-from n e.change x.1.0 x.1.1 x.1.2

pub pull-over : (opening : FolderState) (front : List Entry) (commit : PullInfo) (assembled : FileRecord) → EndsPull opening front commit assembled
    → (before between : List Entry) × (begun : Entry) × (ticket : PullInfo) × (front ≡ before ++ begun ∷ between) × (begun.answer ≡ Begun ticket)
    × (ticket.number ≡ commit.number) × (ticket.name ≡ commit.name) × (ticket.target ≡ commit.target)
    × (local_version (state_after opening before) commit.name ≡ local_version (state_after opening front) commit.name) × (assembled ≡ commit.target) × IsAssembled assembled
pull-over opening front commit assembled e = (
  e.before,
  e.between,
  e.begun,
  e.ticket,
  e.divided,
  e.began,
  e.same.0,
  e.same.1,
  e.same.2,
  ap (local_version (state_after opening e.before)) (sym e.same.1) ∙ sym (ap (option_map (λ r. r.version)) e.over) ∙ sym e.unmoved,
  e.target,
  e.blocks,
)

-- ---- what is planned

module _ (p : Plan) (old new : LoneState) where
  abbrev Nearer : Type 0
  Nearer = new ≡ record old { plan = Some (record p { call = p.call - 1 }) }

  not-now : 1 < p.call → nat_le p.call 1 ≡ false
  not-now more = false_from_ne_true (nat_le p.call 1) (λ t. let le = leb-true p.call 1 t in omega arith)

  pub plan-later : 1 < p.call → PlanGoesOn (Some p) old new → Nearer
  plan-later more = subst (λ b. MatchBool b (IsPlanMade old p new) Nearer) (not-now more)

  pub plan-later_from : 1 < p.call → Nearer → PlanGoesOn (Some p) old new
  plan-later_from more = subst (λ b. MatchBool b (IsPlanMade old p new) Nearer) (sym (not-now more))

  pub plan-now : p.call ≤ 1 → PlanGoesOn (Some p) old new → IsPlanMade old p new
  plan-now less = subst (λ b. MatchBool b (IsPlanMade old p new) Nearer) (le-leb p.call 1 less)

  pub plan-now_from : p.call ≤ 1 → IsPlanMade old p new → PlanGoesOn (Some p) old new
  plan-now_from less = subst (λ b. MatchBool b (IsPlanMade old p new) Nearer) (sym (le-leb p.call 1 less))

module _ (old new : LoneState) (none : old.plan ≡ None) where
  same-point : (point : LoneState) → PlanGoesOn old.plan old point → point ≡ old
  same-point point = subst (λ p. PlanGoesOn p old point) none

  stays : PlanGoesOn old.plan old old
  stays = subst (λ p. PlanGoesOn p old old) (sym none) refl

  pub change-own : (c : Change) (reply : Option (At Answer)) → ChangesAfterPlan old c reply new → IsOwnChange old c reply new
  change-own c reply x = subst (λ s. IsOwnChange s c reply new) (same-point x.point x.goes_on) x.asked

  pub change-own_from : (c : Change) (reply : Option (At Answer)) → IsOwnChange old c reply new → ChangesAfterPlan old c reply new
  change-own_from c reply x = record { point = old; goes_on = stays; asked = x }

  pub read-own : (q : Query) (reply : Option (At (Reply q))) → ReadsAfterPlan old q reply new → IsOwnRead old q reply new
  read-own q reply x = subst (λ s. IsOwnRead s q reply new) (same-point x.point x.goes_on) x.looked_up

  pub read-own_from : (q : Query) (reply : Option (At (Reply q))) → IsOwnRead old q reply new → ReadsAfterPlan old q reply new
  read-own_from q reply x = record { point = old; goes_on = stays; looked_up = x }
