-- What the answers of a folder with a history say of the folder, and what calls one after another add.
use Rattle.std.proofs.Common.{◌≡◌, ℕ, Bool, true, false, List, [], ◌∷◌, ◌++◌, refl, sym, ap, subst, ◌∙◌, ◌⊎◌, inl, inr, append_assoc, append-nil}
use Rattle.std.specs.Prelude.{MatchBool, cond, filter, length, map, Some, None}
use Rattle.std.specs.FinMap.{empty_of_len, get, get-empty}
use Rattle.std.proofs.lemmas.List.{map-append}
use mathlib.Core.List.{IsPrefix}
use Rattle.sync_record.specs.Devices.{bytes_cmp}
use Rattle.sync_record.specs.Records.{Name}
use Rattle.folder_core.specs.States.{FolderState, HaveOwnNumbers, Pull}
use Rattle.folder_core.specs.Steps.{is_accepted, step}
use Rattle.folder_core.specs.declared.answer.Answer.{Answer}
use Rattle.folder_core.specs.declared.answer.Answer.TheVariants.{Begun, Entered, HistoryFull}
use Rattle.folder_core.specs.declared.change.Change.{Change}
use Rattle.folder_core.specs.declared.change.Change.TheVariants.{BeginPull, EnterCommit}
use Rattle.folder_core.specs.declared.pull_info.PullInfo.{PullInfo}
use Rattle.folder_core.proofs.AnswersSay.{begun-says, entered-says, own-numbers}
use Rattle.folder_calls.specs.declared.at.At.{At}
use Rattle.folder_calls.specs.declared.entry.Entry.{Entry}
use Rattle.folder_calls.specs.Histories.{after, is_over, own_entries, shared_answer, state_after}
use Rattle.folder_calls.specs.Adds.{Adds, Asked, Asks}
use Rattle.folder_calls.specs.Shared.{Declines, Gets, IsLegalView, Makes, Sees, ChangesAt, CallerView, now, own_entry, seeing}
use Rattle.folder_calls.proofs.HistoryEntries.{state-push}
use Rattle.folder_calls.proofs.HistoryShared.{accepted-answer, answered-entered, answered-kept, answered-longer}

-- an accepted answer is the step's at a point that the caller then knows
stepped : (old new : CallerView) (c : Change) (a : Answer) → MatchBool (is_accepted a) (Makes old new c a) (Declines old new c a) → is_accepted a ≡ true
    → (front : List Entry) × ((step (state_after old.opening front) c).0 ≡ a)
stepped old new c a answered accepted =
    let e = answered-entered old new c a answered accepted in
    (e.1, sym (e.4 ∙ accepted-answer old.limit old.opening e.1 c (ap is_accepted (sym e.4) ∙ accepted)))

pub begun-name : (old new : CallerView) (n : Name) (t : PullInfo) → Gets old (BeginPull n) (Begun t) new → t.name ≡ n
begun-name old new n t gets = let at = stepped old new (BeginPull n) (Begun t) gets.answered refl in (begun-says (state_after old.opening at.0) n t at.1).0

pub entered-ticket : (old new : CallerView) (t c : PullInfo) → Gets old (EnterCommit t) (Entered c) new → c ≡ t
entered-ticket old new t c gets = let at = stepped old new (EnterCommit t) (Entered c) gets.answered refl in (entered-says (state_after old.opening at.0) t c at.1).0

-- ---- what one answer says

module _ (old new : CallerView) (c : Change) (a : Answer) (gets : Gets old c a new) where
  opened : new.opening ≡ old.opening
  opened = (answered-longer old new c a gets.answered).1.0

  pub accepted-says : is_accepted a ≡ true → (front : List Entry) × IsPrefix old.seen front × (new.seen ≡ front ++ own_entry old c a ∷ [])
      × ((step (state_after old.opening front) c).0 ≡ a) × ((step (state_after old.opening front) c).1 ≡ now new)
  accepted-says accepted =
      let e = answered-entered old new c a gets.answered accepted in (
        e.1,
        e.3,
        e.2,
        sym (e.4 ∙ accepted-answer old.limit old.opening e.1 c (ap is_accepted (sym e.4) ∙ accepted)),
        sym (ap (λ s. state_after s new.seen) opened ∙ ap (state_after old.opening) e.2 ∙ state-push old.opening e.1 (own_entry old c a)),
      )

  pub other-says : is_accepted a ≡ false → (a ≡ HistoryFull) ⊎ ((step (now new) c).0 ≡ a)
  other-says refused = by (is_over old.limit len_of (step (state_after old.opening new.seen) c)) (answered-kept old new c a gets.answered refused).1
    where
      len_of : ℕ
      len_of = length new.seen

      by : (b : Bool) → a ≡ (cond b (HistoryFull, state_after old.opening new.seen) (step (state_after old.opening new.seen) c)).0 → (a ≡ HistoryFull) ⊎ ((step (now new) c).0 ≡ a)
      by true e = inl e
      by false e = inr (ap (λ s. (step (state_after s new.seen) c).0) opened ∙ sym e)

-- ---- what calls one after another add

abbrev entry_by : ℕ → Asked → Entry
entry_by p m = record { pass = p; change = m.0; answer = m.1 }

prefix-on : (xs ys zs : List Entry) → IsPrefix xs ys → IsPrefix ys zs → IsPrefix xs zs
prefix-on xs ys zs l m = (l.0 ++ m.0, sym (append_assoc xs l.0 m.0) ∙ ap (λ es. es ++ m.0) l.1 ∙ m.1)

pub adds-on : (a b c : CallerView) (xs ys : List Asked) → Adds a xs b → Adds b ys c → Adds a (xs ++ ys) c
adds-on a b c xs ys first second = record {
  longer = prefix-on a.seen b.seen c.seen first.longer second.longer;
  own = subst (λ p. own_entries p c.seen ≡ own_entries p b.seen ++ map (entry_by p) ys) (ap (λ (v : CallerView). v.pass) first.same) second.own
      ∙ ap (λ es. es ++ map (entry_by a.pass) ys) first.own
      ∙ append_assoc (own_entries a.pass a.seen) (map (entry_by a.pass) xs) (map (entry_by a.pass) ys)
      ∙ ap (λ es. own_entries a.pass a.seen ++ es) (sym (map-append (entry_by a.pass) xs ys));
  same = second.same ∙ ap (λ (v : CallerView). seeing v c.seen) first.same;
}

pub sees-adds : (old new : CallerView) → Sees old new → Adds old [] new
sees-adds old new s = record { longer = s.longer; own = s.own ∙ sym (append-nil (own_entries old.pass old.seen)); same = s.same }

pub adds-sees : (old new : CallerView) → Adds old [] new → Sees old new
adds-sees old new a = record { longer = a.longer; own = a.own ∙ append-nil (own_entries old.pass old.seen); same = a.same }

module _ (old new : CallerView) (c : Change) (a : Answer) (gets : Gets old c a new) where
  caller : (new.opening ≡ old.opening) × (new.limit ≡ old.limit) × (new.pass ≡ old.pass)
  caller = (answered-longer old new c a gets.answered).1

  same : new ≡ seeing old new.seen
  same i = record { opening = caller.0 i; limit = caller.1 i; pass = caller.2 i; seen = new.seen }

  adds-made : is_accepted a ≡ true → Adds old ((c, a) ∷ []) new
  adds-made accepted = record { longer = (answered-longer old new c a gets.answered).0; own = (answered-entered old new c a gets.answered accepted).0; same = same }

  adds-none : is_accepted a ≡ false → Adds old [] new
  adds-none refused = record {
    longer = (answered-longer old new c a gets.answered).0;
    own = (answered-kept old new c a gets.answered refused).0 ∙ sym (append-nil (own_entries old.pass old.seen));
    same = same;
  }

abbrev accepted_of : List Asked → List Asked
accepted_of asked = filter (λ m. is_accepted m.1) asked

pub asked-adds : (asked : List Asked) (old new : CallerView) → Asks old asked new → Adds old (accepted_of asked) new
asked-adds [] old new e = subst (λ v. Adds old [] v) (sym e) (sees-adds old old (record { longer = ([], append-nil old.seen); own = refl; same = refl }))
asked-adds (m ∷ ms) old new x =
    let rest = asked-adds ms x.0 new x.2 in
    elim (is_accepted m.1) as (λ b. is_accepted m.1 ≡ b → Adds old (cond b (m ∷ accepted_of ms) (accepted_of ms)) new) [
      | true ↦ λ t. adds-on old x.0 new (m ∷ []) (accepted_of ms) (adds-made old x.0 m.0 m.1 x.1 t) rest
      | false ↦ λ t. adds-on old x.0 new [] (accepted_of ms) (adds-none old x.0 m.0 m.1 x.1 t) rest
    ] refl

pub asked-on : (xs ys : List Asked) (one two three : CallerView) → Asks one xs two → Asks two ys three → Asks one (xs ++ ys) three
asked-on [] ys one two three e rest = subst (λ v. Asks v ys three) e rest
asked-on (m ∷ ms) ys one two three x rest = (x.0, x.1, asked-on ms ys x.0 two three x.2 rest)

pub change-gets : (old new : CallerView) (c : Change) (reply : At Answer) → ChangesAt old c (Some reply) new → Gets old c reply.value new
change-gets old new c reply changes = record { point = refl; legal = changes.legal; answered = changes.answered }

-- ---- numbers of pulls

numbers-on : (es : List Entry) (s : FolderState) → HaveOwnNumbers s → HaveOwnNumbers (state_after s es)
numbers-on [] s own = own
numbers-on (e ∷ es) s own = numbers-on es (after s e) (own-numbers s e.change own)

pub legal-numbers : (v : CallerView) → IsLegalView v → HaveOwnNumbers (now v)
legal-numbers v legal = numbers-on v.seen v.opening (λ m n p q g h e. absurd (none m p g))
  where
    none : (m : Name) (p : Pull) → get v.opening.pulls m ≡ Some p → ⊥
    none m p g = let f : None ≡ Some p = sym (ap (λ x. get x m) (empty_of_len v.opening.pulls legal.no_pull) ∙ get-empty bytes_cmp m) ∙ g in cc
