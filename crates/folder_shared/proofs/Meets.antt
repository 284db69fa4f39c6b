-- Two passes that meet: they are put together, compared, and cut apart again.
use Rattle.std.specs.Prelude.{max}
use Rattle.std.proofs.Common.{◌≡◌, ◌⊎◌, ℕ, ◌≤◌, leb, Bool, true, false, cond, List, [], ◌∷◌, ◌++◌, length, take, sym, refl, ap, ◌∙◌, subst, inl, inr, arith}
use Rattle.std.proofs.Math.Logic.{∥∥₁_elim, ∥∥₁_map}
use Rattle.std.proofs.Math.Nat.{max-eq_left, max-eq_right}
use Rattle.std.proofs.lemmas.Bool.Decides.{nat_tests}
use Rattle.std.proofs.lemmas.List.{length-take-le}
use mathlib.Core.List.{IsPrefix}
use lib.ListN.{get_elem?}
use Rattle.crossbeam_channel.specs.Claims.{IsSeatAt}
use Rattle.crossbeam_channel.specs.Ends.{sends_on}
use Rattle.folder_calls.specs.declared.entry.Entry.{Entry}
use Rattle.folder_calls.specs.declared.history.History.{History}
use Rattle.folder_calls.specs.Histories.{own_entries}
use Rattle.folder_calls.specs.Shared.{IsLegalView, Meets, seeing}
use Rattle.folder_calls.proofs.HistoryMeetings.{meet-legal}
use Rattle.folder_shared.specs.declared.known.PassHistory.{PassHistory}
use Rattle.folder_shared.specs.declared.known.Known.{Known}
use Rattle.folder_shared.specs.declared.known.TokenState.TheVariants.{Idle}
use Rattle.folder_shared.specs.declared.shared.Pass.{Pass}
use Rattle.folder_shared.specs.declared.shared.LockedFolder.{LockedFolder}
use Rattle.folder_shared.specs.Rule.{pass_history, first_history, Agree, IsFit, joined, left_of, longer, first_of_two, right_of, second_of_two}
use Rattle.folder_shared.specs.Passes.{IsPassOf, history_of, knows, limit_of, opening_of, seen_of, view_of}
use Rattle.folder_shared.proofs.Histories.{length_starts, longer_starts, own_between, starts_trans, take_same, take_starts}

-- a token with the history of one pass, which has seen the first k entries of it
record Half (z : Known) (n k : ℕ) (before seen : List Entry) : Type 0 where
  pub idle : z.state ≡ Idle
  pub histories : z.histories ≡ pass_history n (first_history z.histories) ∷ []
  pub counted : k ≤ length (first_history z.histories)
  pub own_all : own_entries n (take k (first_history z.histories)) ≡ own_entries n (first_history z.histories)
  pub is : take k (first_history z.histories) ≡ seen
  pub longer : IsPrefix before seen
  pub own : own_entries n seen ≡ own_entries n before

half : (z : Known) (log : List Entry) (n k : ℕ) (before whole seen : List Entry) → z.state ≡ Idle → z.histories ≡ pass_history n whole ∷ [] → IsPrefix whole log → IsPrefix seen whole → IsPrefix before seen
    → take k whole ≡ seen → k ≤ length whole → own_entries n log ≡ own_entries n before → Half z n k before seen
half z log n k before whole seen idle histories a b d is low own =
    let c : first_history z.histories ≡ whole = ap first_history histories in
    let e : own_entries n log ≡ own_entries n whole = own_between n log whole before a (starts_trans whole seen before b d) own in
    let f : own_entries n log ≡ own_entries n seen = own_between n log seen before (starts_trans log whole seen a b) d own in record {
      idle = idle;
      histories = histories ∙ ap (λ (l : List Entry). pass_history n l ∷ []) (sym c);
      counted = rw c low;
      own_all = rw c (ap (own_entries n) is ∙ sym f ∙ e);
      is = ap (take k) c ∙ is;
      longer = d;
      own = sym f ∙ own;
    }

-- of two beginnings of one list, taken to j and k, the longer is what is taken to the greater
longer_take : (l : List Entry) (j k : ℕ) → j ≤ length l → k ≤ length l → longer (take j l) (take k l) ≡ take (cond (leb j k) k j) l
longer_take l j k a b = let e : length (take j l) ≡ j = length-take-le j l a in let f : length (take k l) ≡ k = length-take-le k l b in
    ap (λ (p : ℕ × ℕ). cond (leb p.0 p.1) (take k l) (take j l)) (λ i. (e i, f i)) ∙ cases (leb j k)
  where
    cases : (t : Bool) → cond t (take k l) (take j l) ≡ take (cond t k j) l
    cases true = refl
    cases false = refl

low_cond : (t : Bool) (j k n : ℕ) → j ≤ n → k ≤ n → cond t k j ≤ n
low_cond true j k n a b = b
low_cond false j k n a b = a

max_is : (j k : ℕ) → max j k ≡ cond (leb j k) k j
max_is j k = cases (leb j k) refl
  where
    cases : (t : Bool) → leb j k ≡ t → max j k ≡ cond t k j
    cases true is = max-eq_right (grind (arith, nat_tests))
    cases false is = max-eq_left (grind (arith, nat_tests))

-- the longer of two is one of them
longer_one : (a b : List Entry) → (longer a b ≡ a) ⊎ (longer a b ≡ b)
longer_one a b = cases (leb (length a) (length b))
  where
    cases : (t : Bool) → (cond t b a ≡ a) ⊎ (cond t b a ≡ b)
    cases true = inr refl
    cases false = inl refl

-- what two tokens are after they met: each of one pass, which has seen the first k entries of the longer history
record Halves (one other : Known) (m n k : ℕ) (before before' : List Entry) : Type 0 where
  pub left : Half one m k before (longer before before')
  pub right : Half other n k before' (longer before before')

halves : (v one other : Known) (items : List History) (m n j k : ℕ) (log log' : List Entry) → one ≡ left_of v → other ≡ right_of v → v.histories ≡ pass_history m log ∷ pass_history n log' ∷ [] → Agree v items
    → j ≤ length log → k ≤ length log' → own_entries m (take j log) ≡ own_entries m log → own_entries n (take k log') ≡ own_entries n log' → Halves one other m n (cond (leb j k) k j) (take j log) (take k log')
halves v one other items m n j k log log' is is' histories agree low low' own own' =
    let h = agree.0.entries in
    let f : IsFit agree.0 (pass_history m log) = agree.2 0 (pass_history m log) (ap (λ (cs : List PassHistory). get_elem? cs 0) histories) in
    let g : IsFit agree.0 (pass_history n log') = agree.2 1 (pass_history n log') (ap (λ (cs : List PassHistory). get_elem? cs 1) histories) in
    let all : List Entry = longer log log' in
    let s = longer_starts h log log' f.0 g.0 in
    let a : take j all ≡ take j log = take_same j all log s.1 low in
    let b : take k all ≡ take k log' = take_same k all log' s.2 low' in
    let la : j ≤ length all = let n = length_starts all log s.1 in omega arith in
    let lb : k ≤ length all = let n = length_starts all log' s.2 in omega arith in
    let whole : longer (take j log) (take k log') ≡ take (cond (leb j k) k j) all = (λ i. longer (sym a i) (sym b i)) ∙ longer_take all j k la lb in
    let p = longer_starts all (take j log) (take k log') (subst (λ l. IsPrefix l all) a (take_starts j all)) (subst (λ l. IsPrefix l all) b (take_starts k all)) in
    record {
      left = half one h m (cond (leb j k) k j) (take j log) all (longer (take j log) (take k log')) (ap (λ (u : Known). u.state) is) (ap (λ (u : Known). u.histories) is ∙ ap first_of_two histories) s.0 p.0 p.1
          (sym whole) (low_cond (leb j k) j k (length all) la lb) (f.1 ∙ sym own);
      right = half other h n (cond (leb j k) k j) (take k log') all (longer (take j log) (take k log')) (ap (λ (u : Known). u.state) is') (ap (λ (u : Known). u.histories) is' ∙ ap second_of_two histories) s.0 p.0 p.2
          (sym whole) (low_cond (leb j k) j k (length all) la lb) (g.1 ∙ sym own');
    }

-- the steps of a meeting: w and w' are the two views, j is both, l what it is after they were compared, and one and other what it
-- is cut into
pub record Course (v v' w w' j l one other : Known) (items : List History) : Type 0 where
  pub first : w ≡ v
  pub second : w' ≡ v'
  pub joins : j ≡ joined w w'
  pub learns : l ≡ j
  pub agree : Agree j items
  pub cuts : one ≡ left_of l
  pub rest : other ≡ right_of l

course_halves : (v v' w w' j l one other : Known) (items : List History) (m n a b k : ℕ) → Course v v' w w' j l one other items → v.histories ≡ pass_history m (first_history v.histories) ∷ [] → v'.histories ≡ pass_history n (first_history v'.histories) ∷ []
    → a ≤ length (first_history v.histories) → b ≤ length (first_history v'.histories) → own_entries m (take a (first_history v.histories)) ≡ own_entries m (first_history v.histories) → own_entries n (take b (first_history v'.histories)) ≡ own_entries n (first_history v'.histories) → k ≡ cond (leb a b) b a
    → Halves one other m n k (take a (first_history v.histories)) (take b (first_history v'.histories))
course_halves v v' w w' j l one other items m n a b k c histories histories' low low' own own' is =
    subst (λ (h : ℕ). Halves one other m n h (take a (first_history v.histories)) (take b (first_history v'.histories))) (sym is)
    (halves l one other items m n a b (first_history v.histories) (first_history v'.histories) c.cuts c.rest
    (ap (λ (u : Known). u.histories) (c.learns ∙ c.joins ∙ (λ i. joined (c.first i) (c.second i))) ∙ (λ i. histories i ++ histories' i))
    (subst (λ (u : Known). Agree u items) (sym c.learns) c.agree) low low' own own')

course_memos : (v v' w w' j l one other : Known) (items : List History) → Course v v' w w' j l one other items → (one.memo ≡ v.memo) × (other.memo ≡ v.memo)
course_memos v v' w w' j l one other items c = let e : l.memo ≡ v.memo = ap (λ (u : Known). u.memo) (c.learns ∙ c.joins ∙ (λ i. joined (c.first i) (c.second i))) in
    (ap (λ (u : Known). u.memo) c.cuts ∙ e, ap (λ (u : Known). u.memo) c.rest ∙ e)

module _ {C : Type 0} (s : LockedFolder C) (one other one' other' : Pass C) (w w' j l : Known) (items : List History) (of : IsPassOf s one) (of' : IsPassOf s other)
    (course : Course (knows one) (knows other) w w' j l (knows one') (knows other') items)
    (number : one'.number ≡ one.number) (number' : other'.number ≡ other.number)
    (seen : one'.seen ≡ max one.seen other.seen) (seen' : other'.seen ≡ one'.seen)
  where
    both : Halves (knows one') (knows other') one.number other.number one'.seen (seen_of one) (seen_of other)
    both = course_halves _ _ _ _ _ _ _ _ _ _ _ one.seen other.seen _ course of.histories of'.histories of.counted of'.counted of.own of'.own (seen ∙ max_is one.seen other.seen)

    seen-one : seen_of one' ≡ longer (seen_of one) (seen_of other)
    seen-one = both.left.is

    seen-other : seen_of other' ≡ longer (seen_of one) (seen_of other)
    seen-other = ap (λ n. take n (history_of other')) seen' ∙ both.right.is

    view-one : view_of s one' ≡ seeing (view_of s one) (seen_of one')
    view-one = ap (λ n. record { opening = opening_of s; limit = limit_of s; pass = n; seen = seen_of one' }) number

    view-other : view_of s other' ≡ seeing (view_of s other) (seen_of other')
    view-other = ap (λ n. record { opening = opening_of s; limit = limit_of s; pass = n; seen = seen_of other' }) number'

    pub met : Meets (view_of s one) (view_of s other) (view_of s one') (view_of s other')
    met = record {
      one_sees = record {
        longer = subst (IsPrefix (seen_of one)) (sym seen-one) both.left.longer;
        own = ap (own_entries one.number) seen-one ∙ both.left.own;
        same = view-one;
      };
      other_sees = record {
        longer = subst (IsPrefix (seen_of other)) (sym seen-other) both.right.longer;
        own = ap (own_entries other.number) seen-other ∙ both.right.own;
        same = view-other;
      };
      same = seen-one ∙ sym seen-other;
      known = cases (longer_one (seen_of one) (seen_of other));
    }
      where
        cases : (longer (seen_of one) (seen_of other) ≡ seen_of one) ⊎ (longer (seen_of one) (seen_of other) ≡ seen_of other) → (seen_of one' ≡ seen_of one) ⊎ (seen_of one' ≡ seen_of other)
        cases (inl e) = inl (seen-one ∙ e)
        cases (inr e) = inr (seen-one ∙ e)

    legal : ∥ (IsLegalView (view_of s one') × IsLegalView (view_of s other')) ∥₁
    legal = ∥∥₁_elim of.legal squash₁ (λ mine. ∥∥₁_map of'.legal (λ theirs. meet-legal _ _ _ _ met refl refl mine theirs))

    pub met-one : IsSeatAt (sends_on s.sender) one'.token → IsPassOf s one'
    met-one seat = let h = both.left in let m = (course_memos _ _ _ _ _ _ _ _ _ course).0 in record {
      seat = seat;
      idle = h.idle;
      same = (ap (λ (x : History). x.opening) m ∙ of.same.0, ap (λ (x : History). x.limit) m ∙ of.same.1);
      histories = h.histories ∙ ap (λ n. pass_history n (history_of one') ∷ []) (sym number);
      counted = h.counted;
      own = subst (λ n. own_entries n (seen_of one') ≡ own_entries n (history_of one')) (sym number) h.own_all;
      legal = ∥∥₁_map legal (λ both. both.0);
    }

    pub met-other : IsSeatAt (sends_on s.sender) other'.token → IsPassOf s other'
    met-other seat = let h = both.right in let m = (course_memos _ _ _ _ _ _ _ _ _ course).1 in record {
      seat = seat;
      idle = h.idle;
      same = (ap (λ (x : History). x.opening) m ∙ of.same.0, ap (λ (x : History). x.limit) m ∙ of.same.1);
      histories = h.histories ∙ ap (λ n. pass_history n (history_of other') ∷ []) (sym number');
      counted = subst (λ k. k ≤ length (history_of other')) (sym seen') h.counted;
      own = subst (λ n. own_entries n (seen_of other') ≡ own_entries n (history_of other')) (sym number')
          (subst (λ k. own_entries other.number (take k (history_of other')) ≡ own_entries other.number (history_of other')) (sym seen') h.own_all);
      legal = ∥∥₁_map legal (λ both. both.1);
    }
