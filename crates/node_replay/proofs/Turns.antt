-- Plans that are settled one after another.
use Rattle.std.proofs.Common.{◌≡◌, ◌+◌, ◌<◌, ◌≤◌, ℕ, suc, Bool, true, false, List, [], ◌∷◌, ◌++◌, drop, drop-cons, get_or, length, take, append_assoc, refl, sym, ap, subst, ◌∙◌, arith}
use Rattle.std.specs.Prelude.{◌&&◌, fold, if◌then◌else◌, map, All, IsTrue}
use Rattle.std.specs.FinMap.{empty}
use Rattle.std.proofs.lemmas.Bool.{and_parts}
use Rattle.std.proofs.lemmas.List.{map-append, take-append-drop}
use Rattle.std.proofs.lemmas.List.Elements.{All-get_or}
use Rattle.std.proofs.lemmas.List.Sums.{fold-append}
use Rattle.sync_record.specs.Records.{FileRecord}
use Rattle.sync_record.specs.Validity.{is_valid}
use Rattle.folder_core.specs.States.{FolderState, IsFolder, max_sequence}
use Rattle.folder_core.specs.Steps.{committed_record, with_local}
use Rattle.node_replay.specs.declared.plan.PullPlan.{PullPlan}
use Rattle.node_replay.specs.Settled.{AreTold, IsFull, IsSettled, IsTold, advanced, is_open, settled}
use Rattle.node_replay.specs.Told.{is_pullable}
use Rattle.node_replay.proofs.Advancing.{advanced-none, with_local-folder}
use Rattle.node_replay.proofs.All.{more}

-- these plans were settled, and these records are finished
pub record IsUnderWay {D : Type 0} (tells : D → FileRecord → Bool → D → Type 0) (s : FolderState) (d : D) (plans : List PullPlan) (finished : List FileRecord) (e : D) : Type 0 where
  pub answers : List (PullPlan × Bool)
  pub all : map (λ a. a.0) answers ≡ plans
  pub told : AreTold tells s d answers e
  pub is : advanced s finished ≡ fold settled s answers
  pub folder : IsFolder (advanced s finished)

-- a list around one of its elements
around : {A : Type 0} (xs : List A) (i : ℕ) (x : A) → i < length xs → x ≡ get_or xs i x → take i xs ++ x ∷ drop (suc i) xs ≡ xs
around xs i x lt at = (λ j. take i xs ++ at j ∷ drop (suc i) xs) ∙ ap (λ l. take i xs ++ l) (sym (drop-cons xs i x lt)) ∙ take-append-drop i xs

module _ {D : Type 0} (tells : D → FileRecord → Bool → D → Type 0) where
  pub told-push : (s : FolderState) (d : D) (answers : List (PullPlan × Bool)) (e : D) (a : PullPlan × Bool) (f : D)
      → AreTold tells s d answers e → IsTold tells (is_open (fold settled s answers) a.0) a e f → AreTold tells s d (answers ++ a ∷ []) f
  told-push s d [] e a f same told = (f, subst (λ x. IsTold tells (is_open s a.0) a x f) same told, refl)
  told-push s d (b ∷ bs) e a f all told = (all.0, all.1, told-push (settled s b) all.0 bs e a f all.2 told)

  pub begun : (s : FolderState) (d : D) → IsFolder s → IsUnderWay tells s d [] [] d
  begun s d folder = record {
    answers = [];
    all = refl;
    told = refl;
    is = advanced-none s;
    folder = subst IsFolder (sym (advanced-none s)) folder;
  }

  -- the folder stays one
  by_choice : (u : FolderState) → IsFolder u → u.pulls ≡ empty → (r : FileRecord) → is_valid r ≡ true → (b : Bool)
      → (let t : FolderState = if b then with_local u r else u in t.last ≤ max_sequence → IsFolder t)
  by_choice u folder closed r valid true room = with_local-folder u folder closed r valid (omega (arith, room))
  by_choice u folder closed r valid false room = folder

  pub settled-folder : (u : FolderState) → IsFolder u → u.pulls ≡ empty → (p : PullPlan) (stands : Bool) → is_pullable p.target ≡ true → (settled u (p, stands)).last ≤ max_sequence → IsFolder (settled u (p, stands))
  settled-folder u folder closed p stands pullable room =
      by_choice u folder closed (committed_record p.base p.target) (and_parts _ _ pullable).0 (stands && is_open u p) room

  pub turned : (s : FolderState) (d : D) (plans : List PullPlan) (finished after : List FileRecord) (e : D) (p : PullPlan) (stands : Bool) (f : D)
      → IsUnderWay tells s d plans finished e → s.pulls ≡ empty → is_pullable p.target ≡ true
      → IsTold tells (is_open (advanced s finished) p) (p, stands) e f
      → advanced s after ≡ settled (advanced s finished) (p, stands)
      → (advanced s after).last ≤ max_sequence
      → IsUnderWay tells s d (plans ++ p ∷ []) after f
  turned s d plans finished after e p stands f under closed pullable told is room = record {
    answers = under.answers ++ (p, stands) ∷ [];
    all = map-append (λ (a : PullPlan × Bool). a.0) under.answers ((p, stands) ∷ []) ∙ ap (λ ps. ps ++ p ∷ []) under.all;
    told = told-push s d under.answers e (p, stands) f under.told (subst (λ u. IsTold tells (is_open u p) (p, stands) e f) under.is told);
    is = is ∙ ap (λ u. settled u (p, stands)) under.is ∙ sym (fold-append settled s under.answers ((p, stands) ∷ []));
    folder = subst IsFolder (sym is) (settled-folder (advanced s finished) under.folder closed p stands pullable (subst (λ (t : FolderState). t.last ≤ max_sequence) is room));
  }

  -- a plan for which no sequence is left
  pub full : (s : FolderState) (d : D) (front rest : List PullPlan) (finished : List FileRecord) (e : D) (p : PullPlan) (f : D)
      → IsUnderWay tells s d front finished e → (advanced s finished).last ≡ max_sequence
      → is_open (advanced s finished) p ≡ true → tells e p.target true f
      → IsFull tells s d (front ++ p ∷ rest) f
  full s d front rest finished e p f under last opened told =
      let here : IsTold tells (is_open (advanced s finished) p) (p, true) e f = subst (λ b. IsTold tells b (p, true) e f) (sym opened) told in
      let after : FolderState = with_local (advanced s finished) (committed_record p.base p.target) in
      let now : fold settled s (under.answers ++ (p, true) ∷ []) ≡ after =
      fold-append settled s under.answers ((p, true) ∷ [])
      ∙ ap (λ u. settled u (p, true)) (sym under.is)
      ∙ ap (λ (b : Bool). if b then after else advanced s finished) opened in
      let more : (fold settled s (under.answers ++ (p, true) ∷ [])).last ≡ (advanced s finished).last + 1 = ap (λ (t : FolderState). t.last) now in
      record {
        answers = under.answers ++ (p, true) ∷ [];
        rest = rest;
        beginning = ap (λ l. l ++ rest) (map-append (λ (a : PullPlan × Bool). a.0) under.answers ((p, true) ∷ []) ∙ ap (λ ps. ps ++ p ∷ []) under.all) ∙ append_assoc front (p ∷ []) rest;
        told = told-push s d under.answers e (p, true) f under.told (subst (λ u. IsTold tells (is_open u p) (p, true) e f) under.is here);
        full = omega (arith, more, last);
      }

  -- all plans were settled
  pub ended : (s : FolderState) (d : D) (plans : List PullPlan) (finished : List FileRecord) (e : D) (t : FolderState)
      → IsUnderWay tells s d plans finished e → t ≡ advanced s finished → IsSettled tells s d plans t e
  ended s d plans finished e t under is = record { answers = under.answers; all = under.all; told = under.told; is = is ∙ under.is }

  -- without plans nothing is finished
  pub nothing : (s : FolderState) (d : D) (plans : List PullPlan) (finished : List FileRecord) (e : D) → IsUnderWay tells s d plans finished e → plans ≡ [] → finished ≡ []
  nothing s d plans finished e under none = empty_of finished (by under.answers (under.all ∙ none) under.is)
    where
      by : (answers : List (PullPlan × Bool)) → map (λ a. a.0) answers ≡ [] → advanced s finished ≡ fold settled s answers → length finished ≡ 0
      by [] gone is = let n : s.last + length finished ≡ s.last = ap (λ (t : FolderState). t.last) is in omega (arith, n)
      by (a ∷ more_answers) gone is = absurd (let x : a.0 ∷ map (λ (b : PullPlan × Bool). b.0) more_answers ≡ [] = gone in cc)

      empty_of : (rs : List FileRecord) → length rs ≡ 0 → rs ≡ []
      empty_of [] e = refl
      empty_of (r ∷ rs) e = absurd (omega (arith, e))

  -- the same of the plans of a list, up to a place
  module _ (s : FolderState) (d : D) (plans : List PullPlan) (i : ℕ) (p : PullPlan) (lt : i < length plans) (at : p ≡ get_or plans i p) (finished : List FileRecord) (e : D)
      (under : IsUnderWay tells s d (take i plans) finished e) (f : D) where
    pub turned-at : s.pulls ≡ empty → All (λ q. IsTrue (is_pullable q.target)) plans → (stands : Bool) (after : List FileRecord)
        → IsTold tells (is_open (advanced s finished) p) (p, stands) e f
        → advanced s after ≡ settled (advanced s finished) (p, stands)
        → (advanced s after).last ≤ max_sequence
        → IsUnderWay tells s d (take (i + 1) plans) after f
    turned-at closed pullable stands after told is room =
        subst (λ (ps : List PullPlan). IsUnderWay tells s d ps after f) (sym (more plans i p lt at))
        (turned s d (take i plans) finished after e p stands f under closed
        (subst (λ (q : PullPlan). is_pullable q.target ≡ true) (sym at) (All-get_or (λ q. IsTrue (is_pullable q.target)) plans i p lt pullable)) told is room)

    pub full-at : (advanced s finished).last ≡ max_sequence → is_open (advanced s finished) p ≡ true → tells e p.target true f → IsFull tells s d plans f
    full-at last opened told =
        subst (λ (ps : List PullPlan). IsFull tells s d ps f) (around plans i p lt at) (full s d (take i plans) (drop (suc i) plans) finished e p f under last opened told)
