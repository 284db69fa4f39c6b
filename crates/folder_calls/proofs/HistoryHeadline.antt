-- What the calls of a folder with a history promise whoever makes them.
use Rattle.std.proofs.Common.{◌≡◌, ◌⊎◌, ℕ, ◌+◌, Bool, true, false, List, [], ◌∷◌, ◌++◌, length, refl, sym, ap, subst, ◌∙◌, inl, inr}
use Rattle.std.specs.Prelude.{cond, Option, Some, None, IsTrue, option_map}
use Rattle.std.specs.FinMap.{get, entries}
use Rattle.std.proofs.lemmas.Option.{none-some}
use mathlib.Core.List.{IsPrefix}
use Rattle.sync_version.specs.Versions.{Dominates}
use Rattle.sync_record.specs.Devices.{Identity}
use Rattle.sync_record.specs.Records.{FileRecord, Name}
use Rattle.sync_record.specs.Validity.{is_valid}
use Rattle.folder_core.specs.Announced.{Announced, KeyedRecord, best, key}
use Rattle.folder_core.specs.Reads.{Best, BestEntry, with_devices}
use Rattle.folder_core.specs.States.{FolderState}
use Rattle.folder_core.specs.Steps.{is_accepted, step}
use Rattle.folder_core.specs.declared.answer.Answer.{Answer}
use Rattle.folder_core.specs.declared.answer.Answer.TheVariants.{Done, HistoryFull, Recorded}
use Rattle.folder_core.specs.declared.change.Change.{Change}
use Rattle.folder_core.specs.declared.change.Change.TheVariants.{Finish}
use Rattle.folder_core.specs.declared.pull_info.PullInfo.{PullInfo}
use Rattle.folder_core.proofs.BestRule.{best-undominated}
use Rattle.folder_core.proofs.ChangeSequences.{step-taken}
use Rattle.folder_calls.specs.declared.at.At.{At}
use Rattle.folder_calls.specs.declared.entry.Entry.{Entry}
use Rattle.folder_calls.specs.Histories.{EndsPull, IsLegal, is_over, shared_answer, state_after}
use Rattle.folder_calls.specs.Shared.{IsLegalView, Meets, ReadsAt, ChangesAt, CallerView, own_entry}
use Rattle.folder_calls.proofs.HistoryCommits.{commits-legal}
use Rattle.folder_calls.proofs.HistoryEntries.{state-push}
use Rattle.folder_calls.proofs.HistoryShared.{answered-entered, answered-longer}

pub headline-best : (old new : CallerView) (n : Name) (reply : At (Option BestEntry)) (found : BestEntry) (d : Identity) (r : FileRecord)
    → ReadsAt old (Best n) (Some reply) new → reply.value ≡ Some found
    → get (state_after old.opening new.seen).announced (key n d) ≡ Some r → IsTrue (is_valid r) → ¬ (Dominates r.version found.0.version)
headline-best old new n reply found d r reads is announced valid = by (best (entries a) n) refl (sym reads.answer_is ∙ is)
  where
    a : Announced
    a = (state_after old.opening new.seen).announced

    by : (b : Option KeyedRecord) → best (entries a) n ≡ b → option_map (with_devices (entries a)) b ≡ Some found → ¬ (Dominates r.version found.0.version)
    by None is e = absurd (none-some found e)
    by (Some b) is e = let same : with_devices (entries a) b ≡ found = cc in
        subst (λ (f : BestEntry). ¬ (Dominates r.version f.0.version)) same (best-undominated a n b d r is announced valid)

-- the answer, where it is asked whether the history is full
abbrev answer_if : Bool → FolderState → Answer × FolderState → Answer
answer_if over s made = (cond over (HistoryFull, s) made).0

accepted-if : (over : Bool) (s : FolderState) (made : Answer × FolderState) → is_accepted (answer_if over s made) ≡ true → answer_if over s made ≡ made.0
accepted-if true s made t = absurd (cc)
accepted-if false s made t = refl

-- an accepted change is answered as the folder answers by itself
accepted-step : (limit : ℕ) (s : FolderState) (es : List Entry) (c : Change) → is_accepted (shared_answer limit s es c) ≡ true
    → shared_answer limit s es c ≡ (step (state_after s es) c).0
accepted-step limit s es c t = accepted-if (is_over limit (length es) (step (state_after s es) c)) (state_after s es) (step (state_after s es) c) t

taken-accepted : (a : Answer) (k : ℕ) → (a ≡ Recorded k) ⊎ (a ≡ Done k) → is_accepted a ≡ true
taken-accepted a k (inl e) = ap is_accepted e
taken-accepted a k (inr e) = ap is_accepted e

taken-same : (a b : Answer) (k : ℕ) → a ≡ b → (a ≡ Recorded k) ⊎ (a ≡ Done k) → (b ≡ Recorded k) ⊎ (b ≡ Done k)
taken-same a b k is takes = subst (λ x. (x ≡ Recorded k) ⊎ (x ≡ Done k)) is takes

pub headline-sequence : (old new : CallerView) (c : Change) (reply : At Answer) (k : ℕ) → ChangesAt old c (Some reply) new → (reply.value ≡ Recorded k) ⊎ (reply.value ≡ Done k)
    → (front : List Entry) × IsPrefix old.seen front × (new.seen ≡ front ++ own_entry old c reply.value ∷ [])
    × (k ≡ (state_after old.opening front).last + 1) × ((state_after old.opening new.seen).last ≡ k)
headline-sequence old new c reply k changes takes =
    let accepted = taken-accepted reply.value k takes in
    let e = answered-entered old new c reply.value changes.answered accepted in
    let front = e.1 in
    let is = e.4 ∙ accepted-step old.limit old.opening front c (ap is_accepted (sym e.4) ∙ accepted) in
    let taken = step-taken (state_after old.opening front) c k (taken-same reply.value _ k is takes) in
    (front, e.3, e.2, taken.0, ap (λ es. (state_after old.opening es).last) e.2 ∙ ap (λ (s : FolderState). s.last) (state-push old.opening front (own_entry old c reply.value)) ∙ taken.1)

pub headline-finish : (old new : CallerView) (commit : PullInfo) (assembled : FileRecord) (reply : At Answer) (k : ℕ) → ChangesAt old (Finish commit assembled) (Some reply) new → reply.value ≡ Done k
    → (front : List Entry) × IsPrefix old.seen front × (new.seen ≡ front ++ own_entry old (Finish commit assembled) reply.value ∷ [])
    × EndsPull old.opening front commit assembled
headline-finish old new commit assembled reply k changes done =
    let e = answered-entered old new (Finish commit assembled) reply.value changes.answered (ap is_accepted done) in
    let front = e.1 in
    let same : new.opening ≡ old.opening = (answered-longer old new (Finish commit assembled) reply.value changes.answered).1.0 in
    let legal : IsLegalView new = changes.legal in (
      front,
      e.3,
      e.2,
      subst (λ s. EndsPull s front commit assembled) same
          (commits-legal legal.passes new.opening front [] (own_entry old (Finish commit assembled) reply.value) commit assembled legal.opening legal.no_pull
          (subst (IsLegal legal.passes new.opening) e.2 legal.legal) refl),
    )

pub headline-meets : (one other one' other' : CallerView) → Meets one other one' other' → (one'.seen ≡ other'.seen) × IsPrefix one.seen one'.seen × IsPrefix other.seen one'.seen
headline-meets one other one' other' m = (m.same, m.one_sees.longer, subst (IsPrefix other.seen) (sym m.same) m.other_sees.longer)
