-- What a caller knows of a folder that nobody else changes.
use Rattle.std.proofs.Common.{◌≡◌, ℕ, true, List, [], ◌∷◌, ◌++◌, refl, sym, ap, subst, ◌∙◌, append_assoc, append-nil, arith}
use Rattle.std.specs.Prelude.{MatchBool, ◌==◌, cond, filter}
use Rattle.std.specs.List.{AllByRecursion}
use Rattle.std.proofs.lemmas.Bool.Decides.{eqb_tells}
use Rattle.std.proofs.lemmas.List.{append_cancel_left, append_cancel_right}
use Rattle.std.proofs.lemmas.List.Elements.{filter-append}
use mathlib.Core.List.{IsPrefix}
use Rattle.folder_core.specs.Steps.{is_accepted, step}
use Rattle.folder_core.specs.declared.answer.Answer.{Answer}
use Rattle.folder_core.specs.declared.change.Change.{Change}
use Rattle.folder_calls.specs.Adds.{Adds, Asked, Asks}
use Rattle.folder_calls.specs.Histories.{own_entries, state_after}
use Rattle.folder_calls.specs.Shared.{CallerView, Declines, Gets, Makes, Sees, now, own_entry, seeing}
use Rattle.folder_calls.specs.declared.entry.Entry.{Entry}
use Rattle.sync_scan.specs.Scans.{GoesOn}
use Rattle.proof_layers.specs.Alone.{IsAlone}

-- ---- a caller sees more and more

pub goes-sees : (a b : CallerView) → Sees a b → GoesOn a b
goes-sees a b s = record { longer = s.longer; same = s.same }

pub goes-adds : (a b : CallerView) (made : List Asked) → Adds a made b → GoesOn a b
goes-adds a b made s = record { longer = s.longer; same = s.same }

pub goes-itself : (a : CallerView) → GoesOn a a
goes-itself a = record { longer = ([], append-nil a.seen); same = refl }

pub goes-on : (a b c : CallerView) → GoesOn a b → GoesOn b c → GoesOn a c
goes-on a b c f g = record {
  longer = (f.longer.0 ++ g.longer.0, sym (append_assoc a.seen f.longer.0 g.longer.0) ∙ ap (λ es. es ++ g.longer.0) f.longer.1 ∙ g.longer.1);
  same = g.same ∙ ap (λ (v : CallerView). seeing v c.seen) f.same;
}

pub sees-itself : (a : CallerView) → Sees a a
sees-itself a = record { longer = ([], append-nil a.seen); own = refl; same = refl }

pub sees-on : (a b c : CallerView) → Sees a b → Sees b c → Sees a c
sees-on a b c f g = record {
  longer = (goes-on a b c (goes-sees a b f) (goes-sees b c g)).longer;
  own = subst (λ p. own_entries p c.seen ≡ own_entries p b.seen) (ap (λ (v : CallerView). v.pass) f.same) g.own ∙ f.own;
  same = g.same ∙ ap (λ (v : CallerView). seeing v c.seen) f.same;
}

same-pass : (a b : CallerView) → GoesOn a b → b.pass ≡ a.pass
same-pass a b g = ap (λ (v : CallerView). v.pass) g.same

-- ---- nobody else

all-front : {X : Type 0} (P : X → Type 0) (xs ys : List X) → AllByRecursion P (xs ++ ys) → AllByRecursion P xs
all-front P [] ys h = tt
all-front P (x ∷ xs) ys h = (h.0, all-front P xs ys h.1)

all-back : {X : Type 0} (P : X → Type 0) (xs ys : List X) → AllByRecursion P (xs ++ ys) → AllByRecursion P ys
all-back P [] ys h = h
all-back P (x ∷ xs) ys h = all-back P xs ys h.1

-- what came is what came first and what came then
parted : (a b c : CallerView) (f : GoesOn a b) (g : GoesOn b c) (alone : IsAlone a c) → alone.since ≡ f.longer.0 ++ g.longer.0
parted a b c f g alone =
    append_cancel_left a.seen alone.since (f.longer.0 ++ g.longer.0)
    (alone.longer ∙ sym (sym (append_assoc a.seen f.longer.0 g.longer.0) ∙ ap (λ es. es ++ g.longer.0) f.longer.1 ∙ g.longer.1))

pub alone-front : (a b c : CallerView) → GoesOn a b → GoesOn b c → IsAlone a c → IsAlone a b
alone-front a b c f g alone = record {
  since = f.longer.0;
  longer = f.longer.1;
  own = all-front (λ (e : Entry). e.pass ≡ a.pass) f.longer.0 g.longer.0 (subst (AllByRecursion (λ (e : Entry). e.pass ≡ a.pass)) (parted a b c f g alone) alone.own);
}

pub alone-back : (a b c : CallerView) → GoesOn a b → GoesOn b c → IsAlone a c → IsAlone b c
alone-back a b c f g alone = record {
  since = g.longer.0;
  longer = g.longer.1;
  own = subst (λ p. AllByRecursion (λ (e : Entry). e.pass ≡ p) g.longer.0) (sym (same-pass a b f))
      (all-back (λ (e : Entry). e.pass ≡ a.pass) f.longer.0 g.longer.0 (subst (AllByRecursion (λ (e : Entry). e.pass ≡ a.pass)) (parted a b c f g alone) alone.own));
}

none-own : (p : ℕ) (es : List Entry) → AllByRecursion (λ e. e.pass ≡ p) es → own_entries p es ≡ [] → es ≡ []
none-own p [] all none = refl
none-own p (e ∷ es) all none = absurd (full (sym (ap (λ b. cond b (e ∷ own_entries p es) (own_entries p es)) own) ∙ none))
  where
    own : (e.pass == p) ≡ true
    own = grind (arith, eqb_tells e.pass p, all.0)

    full : e ∷ own_entries p es ≡ [] → ⊥
    full x = cc

-- where nobody else changed the folder, a caller that asked for nothing has seen nothing new
pub still : (a b : CallerView) → Sees a b → IsAlone a b → b ≡ a
still a b sees alone =
    let both : own_entries a.pass a.seen ++ own_entries a.pass alone.since ≡ own_entries a.pass a.seen ++ [] =
    sym (filter-append (λ (e : Entry). e.pass == a.pass) a.seen alone.since) ∙ ap (own_entries a.pass) alone.longer ∙ sees.own ∙ sym (append-nil (own_entries a.pass a.seen)) in
    let none = none-own a.pass alone.since alone.own (append_cancel_left (own_entries a.pass a.seen) (own_entries a.pass alone.since) [] both) in
    let same : b.seen ≡ a.seen = sym alone.longer ∙ ap (λ es. a.seen ++ es) none ∙ append-nil a.seen in
    sees.same ∙ ap (seeing a) same

pub still-now : (a b : CallerView) → Sees a b → IsAlone a b → now b ≡ now a
still-now a b sees alone = ap now (still a b sees alone)

-- what the answers of a folder with a history say
pub record AnswerLaws : Type 0 where
  pub accepted : (old new : CallerView) (c : Change) (a : Answer) → Gets old c a new → is_accepted a ≡ true
      → (front : List Entry) × IsPrefix old.seen front × (new.seen ≡ front ++ own_entry old c a ∷ [])
      × ((step (state_after old.opening front) c).0 ≡ a) × ((step (state_after old.opening front) c).1 ≡ now new)
  pub adds : (asked : List Asked) (old new : CallerView) → Asks old asked new → Adds old (filter (λ m. is_accepted m.1) asked) new

pub goes-gets : AnswerLaws → (a b : CallerView) (c : Change) (x : Answer) → Gets a c x b → GoesOn a b
goes-gets laws a b c x gets = goes-adds a b (filter (λ m. is_accepted m.1) ((c, x) ∷ [])) (laws.adds ((c, x) ∷ []) a b (b, gets, refl))

pub goes-asks : AnswerLaws → (a b : CallerView) (asked : List Asked) → Asks a asked b → GoesOn a b
goes-asks laws a b asked asks = goes-adds a b (filter (λ m. is_accepted m.1) asked) (laws.adds asked a b asks)

-- an accepted change is made at what the caller had seen, where nobody else changed the folder
pub record IsStep (a b : CallerView) (c : Change) (x : Answer) : Type 0 where
  pub answer : (step (now a) c).0 ≡ x
  pub state : (step (now a) c).1 ≡ now b
  pub seen : b.seen ≡ a.seen ++ own_entry a c x ∷ []

pub made-alone : AnswerLaws → (a b : CallerView) (c : Change) (x : Answer) → Gets a c x b → is_accepted x ≡ true → IsAlone a b → IsStep a b c x
made-alone laws a b c x gets accepted alone =
    let made : Makes a b c x = subst (λ t. MatchBool t (Makes a b c x) (Declines a b c x)) accepted gets.answered in
    let last = own_entry a c x ∷ [] in
    let on : GoesOn made.point b = record { longer = (last, sym (ap (λ (v : CallerView). v.seen) made.appended)); same = made.appended ∙ ap (seeing made.point) (sym (ap (λ (v : CallerView). v.seen) made.appended)) } in
    let first = goes-sees a made.point made.sees in
    let same : made.point ≡ a = still a made.point made.sees (alone-front a made.point b first on alone) in
    let at = laws.accepted a b c x gets accepted in
    let seen : b.seen ≡ a.seen ++ last = ap (λ (v : CallerView). v.seen) made.appended ∙ ap (λ (v : CallerView). v.seen ++ last) same in
    let front : at.0 ≡ a.seen = append_cancel_right at.0 a.seen last (sym at.2 ∙ seen) in
    record {
      answer = subst (λ es. (step (state_after a.opening es) c).0 ≡ x) front at.3;
      state = subst (λ es. (step (state_after a.opening es) c).1 ≡ now b) front at.4;
      seen = seen;
    }
