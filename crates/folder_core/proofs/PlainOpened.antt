-- The plain folder's list of open pulls, as the map of the states, when a pull is found, added, committed or closed.
use Rattle.std.proofs.Common.{◌≡◌, ℕ, suc, ◌+◌, Bool, true, false, List, [], ◌∷◌, refl, sym, ap, subst, ◌∙◌, arith}
use Rattle.std.specs.Prelude.{All, IfSome, bytes_eq, cond, ◌<◌, length, is_some, not, ◌&&◌, ◌==◌, MatchOption, Option, Some, None, if◌then◌else◌, map, option_and_then, option_map, slice_get}
use Rattle.std.specs.Bool.{passes}
use Rattle.std.specs.Cmp.Lexicographic.{texts_ties}
use Rattle.std.specs.FinMap as fin
use Rattle.std.specs.FinMap.{from_sorted, get, get-from_sorted, is_sorted}
use Rattle.std.specs.FinMap.Entries.{is_sorted-where_key, where_key}
use Rattle.std.specs.List.{remove}
use Rattle.std.specs.Ordering.{eq_by_cmp}
use Rattle.std.proofs.lemmas.Bool.{and_parts}
use Rattle.std.proofs.lemmas.List.Sums.{sum_by-cons, length-filter}
use Rattle.sync_record.specs.Devices.{Identity, bytes_cmp}
use Rattle.sync_record.specs.Records.{Name}
use Rattle.sync_record.specs.Same.{same_record}
use Rattle.folder_core.specs.declared.announcement.Announcement.{Announcement as Entry}
use Rattle.folder_core.specs.declared.plain.pull.OpenPull.{OpenPull}
use Rattle.folder_core.specs.declared.pull_stage.PullStage.{PullStage}
use Rattle.folder_core.specs.Plain.{IsPlain, IsReady, PullsRise, commits, folder_of, opened, pulled, pulls_of, stage_of}
use Rattle.folder_core.specs.PlainPulls.{is_for, position_of, pull_for}
use Rattle.folder_core.specs.States.{FolderState, IsFolder, Pull, same_stage}
use Rattle.folder_core.specs.declared.answer.Answer.{Answer}
use Rattle.folder_core.specs.declared.answer.Answer.TheVariants.{Closed, Stray}
use Rattle.folder_core.specs.declared.pull_info.PullInfo.{PullInfo}
use Rattle.folder_core.specs.Steps.{close_pull, pull_of}
use Rattle.folder_core.specs.Calls.{close_answer}
use Rattle.folder_core.proofs.ListTests.{inside, same_bytes}
use Rattle.folder_core.proofs.Orders.{bytes_total, exact_names, entries-remove, entries_listed, is_true, listed}
use Rattle.folder_core.proofs.PlainOpen.{find-there, remove-there}
use Rattle.folder_core.proofs.PullOpen.{fits}

-- ---- what is found

pub get-pull : (n : Name) (ps : List OpenPull) → PullsRise ps → get (pulls_of ps) n ≡ option_and_then (λ p. cond (bytes_eq n p.target.name) (Some (opened p)) None) (slice_get ps (position_of n ps))
get-pull n ps rise =
    get-from_sorted bytes_cmp (map pulled ps) n (passes _ rise)
    ∙ find-there bytes_total exact_names pulled n ps (passes _ rise)
    ∙ by_bytes (slice_get ps (position_of n ps))
  where
    by_bytes : (o : Option OpenPull) → option_and_then (λ p. cond (eq_by_cmp bytes_cmp n p.target.name) (Some (opened p)) None) o ≡ option_and_then (λ p. cond (bytes_eq n p.target.name) (Some (opened p)) None) o
    by_bytes None = refl
    by_bytes (Some p) = ap (λ b. cond b (Some (opened p)) None) (sym (texts_ties n p.target.name))

module _ (t : PullInfo) (stage : PullStage) where
  reorder : (p : OpenPull) (a b c d : Bool) → option_and_then (λ (q : Pull). cond ((b && d) && c) (Some q) None) (cond a (Some (opened p)) None) ≡ option_map opened (cond (((a && b) && c) && d) (Some p) None)
  reorder p false b c d = refl
  reorder p true false c d = refl
  reorder p true true false true = refl
  reorder p true true false false = refl
  reorder p true true true true = refl
  reorder p true true true false = refl

  found_by : (p : OpenPull) (a : Bool) → option_and_then (λ q. if fits t stage q then Some q else None) (cond a (Some (opened p)) None) ≡ option_and_then (λ q. cond (fits t stage (opened p)) (Some q) None) (cond a (Some (opened p)) None)
  found_by p true = refl
  found_by p false = refl

  found_from : (o : Option OpenPull) → option_and_then (λ q. if fits t stage q then Some q else None) (option_and_then (λ p. cond (bytes_eq t.name p.target.name) (Some (opened p)) None) o) ≡ option_map opened (option_and_then (λ p. if is_for t stage p then Some p else None) o)
  found_from None = refl
  found_from (Some p) =
      found_by p (bytes_eq t.name p.target.name)
      ∙ reorder p (bytes_eq t.name p.target.name) (p.number == t.number) (same_stage (stage_of p.ready) stage) (same_record p.target t.target)

  -- the open pull that a ticket is for
  pub pull_of-plain : (me : Identity) (es : List Entry) (last : ℕ) (ps : List OpenPull) → PullsRise ps → pull_of (folder_of me es last (pulls_of ps)) t stage ≡ option_map opened (pull_for t stage ps)
  pull_of-plain me es last ps rise =
      ap (option_and_then (λ q. if fits t stage q then Some q else None)) (get-pull t.name ps rise)
      ∙ found_from (slice_get ps (position_of t.name ps))

  -- whether there is one, from the place that was found
  pub open-is : (me : Identity) (es : List Entry) (last : ℕ) (ps xs : List OpenPull) → PullsRise ps → xs ≡ ps → (place : Option ℕ) → IfSome place (λ i. i < length xs)
      → option_and_then (slice_get xs) place ≡ pull_for t stage xs → is_some place ≡ is_some (pull_of (folder_of me es last (pulls_of ps)) t stage)
  open-is me es last ps xs rise same place within found =
      sym (there place within) ∙ ap is_some found
      ∙ sym (ap is_some (pull_of-plain me es last ps rise) ∙ is_some-opened (pull_for t stage ps) ∙ ap (λ ys. is_some (pull_for t stage ys)) (sym same))
    where
      some_within : (xs : List OpenPull) (i : ℕ) → i < length xs → is_some (slice_get xs i) ≡ true
      some_within [] i within = absurd (omega arith)
      some_within (x ∷ xs) ℕ.zero within = refl
      some_within (x ∷ xs) (suc i) within = some_within xs i (omega arith)

      there : (place : Option ℕ) → IfSome place (λ i. i < length xs) → is_some (option_and_then (slice_get xs) place) ≡ is_some place
      there None within = refl
      there (Some i) within = some_within xs i within

      is_some-opened : (o : Option OpenPull) → is_some (option_map opened o) ≡ is_some o
      is_some-opened None = refl
      is_some-opened (Some p) = refl

  fits_from : (p q : OpenPull) (b : Bool) → is_for t stage q ≡ b → cond b (Some q) None ≡ Some p → (q ≡ p) × (is_for t stage p ≡ true)
  fits_from p q true e is = (inside q p is, ap (is_for t stage) (sym (inside q p is)) ∙ e)
  fits_from p q false e is = absurd (let h : None ≡ Some p = is in cc)

  at_from : (p : OpenPull) (o : Option OpenPull) → option_and_then (λ q. if is_for t stage q then Some q else None) o ≡ Some p → (o ≡ Some p) × (is_for t stage p ≡ true)
  at_from p None is = absurd (let h : None ≡ Some p = is in cc)
  at_from p (Some q) is = let r = fits_from p q (is_for t stage q) refl is in (ap Some r.0, r.1)

  pub pull_for-at : (ps : List OpenPull) (p : OpenPull) → pull_for t stage ps ≡ Some p → slice_get ps (position_of t.name ps) ≡ Some p
  pull_for-at ps p is = (at_from p (slice_get ps (position_of t.name ps)) is).0

  pub pull_for-name : (ps : List OpenPull) (p : OpenPull) → pull_for t stage ps ≡ Some p → p.target.name ≡ t.name
  pull_for-name ps p is =
      let fit = (at_from p (slice_get ps (position_of t.name ps)) is).1 in
      sym (same_bytes t.name p.target.name (and_parts _ _ (and_parts _ _ (and_parts _ _ fit).0).0).0)

  pub pull_for-stage : (ps : List OpenPull) (p : OpenPull) → pull_for t stage ps ≡ Some p → same_stage (stage_of p.ready) stage ≡ true
  pull_for-stage ps p is =
      let fit = (at_from p (slice_get ps (position_of t.name ps)) is).1 in
      (and_parts _ _ (and_parts _ _ fit).0).1

-- ---- without one

module _ (n : Name) (ps : List OpenPull) (rise : PullsRise ps) (p : OpenPull) (at : slice_get ps (position_of n ps) ≡ Some p) (here : p.target.name ≡ n) where
  left : map pulled (remove ps (position_of n ps)) ≡ where_key bytes_cmp (λ m. not (eq_by_cmp bytes_cmp n m)) (map pulled ps)
  left = remove-there bytes_total exact_names pulled n p ps (passes _ rise) at here

  pub removed-rise : PullsRise (remove ps (position_of n ps))
  removed-rise = ap (is_sorted bytes_cmp) left ∙ is_true _ (is_sorted-where_key bytes_cmp (λ m. not (eq_by_cmp bytes_cmp n m)) (map pulled ps) (passes _ rise))

  pub removed-pulls : pulls_of (remove ps (position_of n ps)) ≡ fin.remove (pulls_of ps) n
  removed-pulls =
      ap from_sorted left
      ∙ sym (listed bytes_total exact_names (fin.remove (pulls_of ps) n)
      ∙ ap from_sorted (entries-remove bytes_total exact_names (pulls_of ps) n
      ∙ ap (where_key bytes_cmp (λ m. not (eq_by_cmp bytes_cmp n m))) (entries_listed bytes_cmp (map pulled ps) rise)))

abbrev pub one : OpenPull → ℕ
one p = cond (is_some p.ready) 1 0

pub commits-cons : (p : OpenPull) (ps : List OpenPull) → commits (p ∷ ps) ≡ one p + commits ps
commits-cons p ps =
    length-filter (λ (q : OpenPull). is_some q.ready) (p ∷ ps)
    ∙ sum_by-cons one p ps
    ∙ ap (λ n. one p + n) (sym (length-filter (λ (q : OpenPull). is_some q.ready) ps))

pub removed-commits : (ps : List OpenPull) (i : ℕ) (p : OpenPull) → slice_get ps i ≡ Some p → commits (remove ps i) + one p ≡ commits ps
removed-commits [] i p at = absurd (let e : None ≡ Some p = at in cc)
removed-commits (q ∷ ps) ℕ.zero p at = let a = commits-cons q ps in let b = ap one (inside q p at) in omega arith
removed-commits (q ∷ ps) (suc i) p at =
    let a = commits-cons q ps in
    let b = commits-cons q (remove ps i) in
    let c = removed-commits ps i p at in
    omega arith

pub removed-ready : (ps : List OpenPull) (i : ℕ) → All IsReady ps → All IsReady (remove ps i)
removed-ready [] ℕ.zero each = each
removed-ready [] (suc i) each = each
removed-ready (q ∷ ps) ℕ.zero each = λ k d below. each (suc k) d (omega arith)
removed-ready (q ∷ ps) (suc i) each = both (removed-ready ps i (λ j e l. each (suc j) e (omega arith)))
  where
    both : All IsReady (remove ps i) → All IsReady (q ∷ remove ps i)
    both rest ℕ.zero d below = each 0 d (omega arith)
    both rest (suc k) d below = rest k d (omega arith)

-- ---- a pull is closed

module _ (me : Identity) (es : List Entry) (capacity last : ℕ) (ps new : List OpenPull) (old : IsPlain me es capacity last ps) (t : PullInfo) (stage : PullStage) where
  abbrev state : FolderState
  state = folder_of me es last (pulls_of ps)

  abbrev Taken : Option OpenPull → Type 0
  Taken r = MatchOption r ((pull_for t stage ps ≡ None) × (new ≡ ps)) (λ p. (pull_for t stage ps ≡ Some p) × (new ≡ remove ps (position_of t.name ps)))

  pub close-step : (r : Option OpenPull) → Taken r → close_pull state t (pull_of state t stage) ≡ (close_answer (is_some r), folder_of me es last (pulls_of new))
  close-step None h =
      ap (close_pull state t) (pull_of-plain t stage me es last ps old.pulls_rise ∙ ap (option_map opened) h.0)
      ∙ ap (λ xs. (Stray, folder_of me es last (pulls_of xs))) (sym h.1)
  close-step (Some p) h =
      ap (close_pull state t) (pull_of-plain t stage me es last ps old.pulls_rise ∙ ap (option_map opened) h.0)
      ∙ ap (λ m. (Closed, folder_of me es last m)) (sym (ap pulls_of h.1 ∙ removed-pulls t.name ps old.pulls_rise p (pull_for-at t stage ps p h.0) (pull_for-name t stage ps p h.0)))

  pub close-plain : (r : Option OpenPull) → Taken r → IsFolder (close_pull state t (pull_of state t stage)).1 → IsPlain me es capacity last new
  close-plain None h folder = subst (IsPlain me es capacity last) (sym h.1) old
  close-plain (Some p) h folder = subst (IsPlain me es capacity last) (sym h.1) (record {
    rises = old.rises;
    pulls_rise = removed-rise t.name ps old.pulls_rise p (pull_for-at t stage ps p h.0) (pull_for-name t stage ps p h.0);
    folder = subst (λ xs. IsFolder (folder_of me es last (pulls_of xs))) h.1 (subst IsFolder (ap (λ (d : Answer × FolderState). d.1) (close-step (Some p) h)) folder);
    ready = removed-ready ps (position_of t.name ps) old.ready;
    room = let h = removed-commits ps (position_of t.name ps) p (pull_for-at t stage ps p h.0) in let k = old.room in omega arith;
  })
