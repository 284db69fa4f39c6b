-- The end of a folder.
use Rattle.std.proofs.Common.{◌≡◌, ◌≢◌, ◌⊎◌, ℕ, zero, suc, ◌+◌, ◌<◌, ◌≤◌, ◌==◌, eqb, ◌||◌, Bool, true, false, cond, List, [], ◌∷◌, ◌++◌, length, map, sym, refl, ap, ◌∙◌, subst, inl, inr, ⊎_elim, append-nil, append_assoc, arith, length-append}
use Rattle.std.proofs.lemmas.Bool.Decides.{nat_tests}
use Rattle.std.proofs.lemmas.List.{length-map}
use Rattle.std.proofs.lemmas.Map.Steps.{length-le_from_distinct_below}
use Rattle.std.specs.List.{IsDistinct, AllByRecursion, list_any}
use Rattle.std.specs.Prelude.{Contains, slice_index_or}
use Rattle.std.specs.FinMap.{len}
use mathlib.Core.Option.{some, some-injective}
use lib.ListN.{get_elem?}
use Rattle.atomic_table.proofs.Lists.{at_longer, at_last}
use Rattle.folder_core.specs.States.{FolderState}
use Rattle.folder_calls.specs.declared.entry.Entry.{Entry}
use mathlib.Core.List.{IsPrefix}
use Rattle.folder_calls.specs.Histories.{own_entries, IsLegal, state_after}
use Rattle.folder_calls.specs.RecordedFolders.{IsHistory, end}
use Rattle.folder_calls.specs.Shared.{Closes, Sees, CallerView, seeing}
use Rattle.folder_calls.proofs.HistoryEntries.{legal-front}
use Rattle.folder_calls.proofs.HistoryFronts.{own-divided}
use Rattle.folder_calls.specs.declared.history.History.{History}
use Rattle.folder_shared.specs.declared.known.PassHistory.{PassHistory}
use Rattle.folder_shared.specs.declared.known.Known.{Known}
use Rattle.folder_shared.specs.declared.shared.Pass.{Pass}
use Rattle.folder_shared.specs.Rule.{pass_history, IsFit, AreFit, AreApart, Taken}
use Rattle.folder_shared.specs.declared.shared.LockedFolder.{LockedFolder}
use Rattle.folder_shared.specs.Passes.{IsPassOf, history_of, limit_of, opening_of, seen_of, view_of}
use Rattle.folder_shared.proofs.Lists.{at_none, at_one, at_append}
use Rattle.folder_shared.proofs.Histories.{starts_trans, take_starts}

-- numbers

apart_tail : (c : PassHistory) (cs : List PassHistory) → AreApart (c ∷ cs) → AreApart cs
apart_tail c cs a i j x y e f same = let h = a (suc i) (suc j) x y e f same in omega arith

each_by : (F : ℕ → Type 0) (cs : List PassHistory) → ((i : ℕ) (c : PassHistory) → get_elem? cs i ≡ some c → F c.pass) → AllByRecursion F (map (λ (c : PassHistory). c.pass) cs)
each_by F [] h = tt
each_by F (c ∷ cs) h = (h 0 c refl, each_by F cs (λ i d e. h (suc i) d e))

differ : (a b : ℕ) → a ≢ b → eqb a b ≡ false
differ a b n = cases (eqb a b) refl
  where
    cases : (t : Bool) → eqb a b ≡ t → t ≡ false
    cases true is = absurd (n (grind (arith, nat_tests)))
    cases false is = refl

distinct : (cs : List PassHistory) → AreApart cs → IsDistinct eqb (map (λ (c : PassHistory). c.pass) cs)
unfolding IsDistinct
distinct [] a = tt
distinct (c ∷ cs) a = (each_by (λ (q : ℕ). eqb c.pass q ≡ false) cs (λ i d e. differ c.pass d.pass (λ same. let h = a 0 (suc i) c d refl e same in absurd (omega arith))), distinct cs (apart_tail c cs a))

-- a number is that of a pass with a history here, or of none
held : (n : ℕ) (cs : List PassHistory) → ((k : ℕ) × (c : PassHistory) × (get_elem? cs k ≡ some c) × (c.pass ≡ n)) ⊎ ((i : ℕ) (c : PassHistory) → get_elem? cs i ≡ some c → n ≢ c.pass)
held n [] = inr (λ i c e. absurd (at_none i c e))
held n (d ∷ cs) = cases (eqb n d.pass) refl (held n cs)
  where
    cases : (t : Bool) → eqb n d.pass ≡ t → ((k : ℕ) × (c : PassHistory) × (get_elem? cs k ≡ some c) × (c.pass ≡ n)) ⊎ ((i : ℕ) (c : PassHistory) → get_elem? cs i ≡ some c → n ≢ c.pass)
        → ((k : ℕ) × (c : PassHistory) × (get_elem? (d ∷ cs) k ≡ some c) × (c.pass ≡ n)) ⊎ ((i : ℕ) (c : PassHistory) → get_elem? (d ∷ cs) i ≡ some c → n ≢ c.pass)
    cases true is h = inl (0, d, refl, grind (arith, nat_tests))
    cases false is (inl h) = inl (suc h.0, h.1, h.2, h.3)
    cases false is (inr h) = inr others
      where
        others : (i : ℕ) (c : PassHistory) → get_elem? (d ∷ cs) i ≡ some c → n ≢ c.pass
        others zero c e same = let p = ap (λ (x : PassHistory). x.pass) (some-injective d c e) in absurd (grind (arith, nat_tests))
        others (suc i) c e same = h i c e same

member_below : (m : ℕ) (xs : List ℕ) (q : ℕ) → AllByRecursion (λ (y : ℕ). y < m) xs → list_any (eqb q) xs ≡ true → q < m
member_below m [] q a e = absurd (cc)
member_below m (x ∷ xs) q a e = below_cases m x xs q (eqb q x) refl a.0 (λ f. member_below m xs q a.1 f) e
  where
    below_cases : (m x : ℕ) (xs : List ℕ) (q : ℕ) (t : Bool) → eqb q x ≡ t → x < m → (list_any (eqb q) xs ≡ true → q < m) → (t || list_any (eqb q) xs) ≡ true → q < m
    below_cases m x xs q true is low rest f = grind (arith, nat_tests)
    below_cases m x xs q false is low rest f = rest f

none_too : (n given : ℕ) (cs : List PassHistory) → AreApart cs → ((i : ℕ) (c : PassHistory) → get_elem? cs i ≡ some c → (0 < c.pass) × (c.pass ≤ given)) → 0 < n → ((i : ℕ) (c : PassHistory) → get_elem? cs i ≡ some c → n ≢ c.pass)
    → IsDistinct eqb (0 ∷ n ∷ map (λ (c : PassHistory). c.pass) cs)
unfolding IsDistinct
none_too n given cs a range low x = (
  (differ 0 n (λ e. omega arith), each_by (λ (q : ℕ). eqb 0 q ≡ false) cs (λ i c e. differ 0 c.pass (λ same. let r = (range i c e).0 in omega arith))),
  (each_by (λ (q : ℕ). eqb n q ≡ false) cs (λ i c e. differ n c.pass (x i c e)), distinct cs a),
)

too_many : (n given : ℕ) (cs : List PassHistory) → AreApart cs → ((i : ℕ) (c : PassHistory) → get_elem? cs i ≡ some c → (0 < c.pass) × (c.pass ≤ given)) → length cs ≡ given → 0 < n → n ≤ given
    → ((i : ℕ) (c : PassHistory) → get_elem? cs i ≡ some c → n ≢ c.pass) → ⊥
too_many n given cs a range size low high x =
    let b = length-le_from_distinct_below (0 ∷ n ∷ map (λ (c : PassHistory). c.pass) cs) (given + 1) (none_too n given cs a range low x)
    (λ q e. member_below (given + 1) (0 ∷ n ∷ map (λ (c : PassHistory). c.pass) cs) q (omega arith, (omega arith, each_by (λ (y : ℕ). y < given + 1) cs (λ i c k. let r = (range i c k).1 in omega arith))) e) in
    let l = length-map cs (λ (c : PassHistory). c.pass) in omega arith

-- as many histories as numbers: each number is the pass of one
covered : (n given : ℕ) (cs : List PassHistory) → AreApart cs → ((i : ℕ) (c : PassHistory) → get_elem? cs i ≡ some c → (0 < c.pass) × (c.pass ≤ given)) → length cs ≡ given → 0 < n → n ≤ given
    → (k : ℕ) × (c : PassHistory) × (get_elem? cs k ≡ some c) × (c.pass ≡ n)
covered n given cs a range size low high = ⊎_elim (λ (x : (k : ℕ) × (c : PassHistory) × (get_elem? cs k ≡ some c) × (c.pass ≡ n)). x)
    (λ (x : (i : ℕ) (c : PassHistory) → get_elem? cs i ≡ some c → n ≢ c.pass). absurd (too_many n given cs a range size low high x)) (held n cs)

-- the last entry

last_or : (l : List Entry) → (l ≡ []) ⊎ ((f : List Entry) × (e : Entry) × (l ≡ f ++ e ∷ []))
last_or [] = inl refl
last_or (x ∷ l) = cons (last_or l)
  where
    cons : (l ≡ []) ⊎ ((f : List Entry) × (e : Entry) × (l ≡ f ++ e ∷ [])) → (x ∷ l ≡ []) ⊎ ((f : List Entry) × (e : Entry) × (x ∷ l ≡ f ++ e ∷ []))
    cons (inl e) = inr ([], x, ap (λ r. x ∷ r) e)
    cons (inr h) = inr (x ∷ h.0, h.1, ap (λ r. x ∷ r) h.2)

last_same : (a b : List Entry) (x y : Entry) → a ++ x ∷ [] ≡ b ++ y ∷ [] → x ≡ y
last_same [] [] x y e = cc
last_same [] (b ∷ bs) x y e = let l = ap length e in let m = length-append bs (y ∷ []) in absurd (omega arith)
last_same (a ∷ more) [] x y e = let l = ap length e in let m = length-append more (x ∷ []) in absurd (omega arith)
last_same (a ∷ more) (b ∷ bs) x y e = let t : more ++ x ∷ [] ≡ bs ++ y ∷ [] = cc in last_same more bs x y t

own_here : (k : ℕ) (e : Entry) → e.pass ≡ k → own_entries k (e ∷ []) ≡ e ∷ []
own_here k e same = cases (e.pass == k) refl
  where
    cases : (t : Bool) → (e.pass == k) ≡ t → cond t (e ∷ []) [] ≡ e ∷ []
    cases true is = refl
    cases false is = absurd (grind (arith, nat_tests))

-- who made the last entry has seen all
last_seen : (log seen front : List Entry) (e : Entry) (k : ℕ) → IsPrefix seen log → own_entries k log ≡ own_entries k seen → log ≡ front ++ e ∷ [] → e.pass ≡ k → log ≡ seen
last_seen log seen front e k s same is own = cases (last_or s.0)
  where
    cases : (s.0 ≡ []) ⊎ ((f : List Entry) × (d : Entry) × (s.0 ≡ f ++ d ∷ [])) → log ≡ seen
    cases (inl none) = sym s.1 ∙ ap (λ r. seen ++ r) none ∙ append-nil seen
    cases (inr h) =
        let whole : log ≡ (seen ++ h.0) ++ h.1 ∷ [] = sym s.1 ∙ ap (λ r. seen ++ r) h.2 ∙ sym (append_assoc seen h.0 (h.1 ∷ [])) in
        let d : h.1 ≡ e = last_same (seen ++ h.0) front h.1 e (sym whole ∙ is) in
        let one : own_entries k (h.1 ∷ []) ≡ h.1 ∷ [] = own_here k h.1 (ap (λ (x : Entry). x.pass) d ∙ own) in
        let m : own_entries k log ≡ (own_entries k seen ++ own_entries k h.0) ++ h.1 ∷ [] = ap (own_entries k) whole ∙ own-divided k (seen ++ h.0) (h.1 ∷ []) ∙ (λ i. own-divided k seen h.0 i ++ one i) in
        let l = ap length m ∙ length-append (own_entries k seen ++ own_entries k h.0) (h.1 ∷ []) in
        let n = length-append (own_entries k seen) (own_entries k h.0) in
        let q = ap length same in absurd (omega arith)

starts_nil : (s : List Entry) → IsPrefix s [] → [] ≡ s
starts_nil [] h = refl
starts_nil (x ∷ s) h = let e = h.1 in absurd (cc)

-- the histories of passes, the last first

module _ {C : Type 0} where
  abbrev pub pass_history_of : Pass C → PassHistory
  pass_history_of p = pass_history p.number (history_of p)

  abbrev pub claims_back : List (Pass C) → List PassHistory
  claims_back [] = []
  claims_back (p ∷ ps) = claims_back ps ++ pass_history_of p ∷ []

  place : (ps : List (Pass C)) (i : ℕ) (p : Pass C) → get_elem? ps i ≡ some p → (k : ℕ) × (get_elem? (claims_back ps) k ≡ some (pass_history_of p))
  place [] i p e = absurd (at_none i p e)
  place (q ∷ ps) zero p e = (length (claims_back ps), ap (λ (r : Pass C). get_elem? (claims_back ps ++ pass_history_of r ∷ []) (length (claims_back ps))) (some-injective q p e) ∙ at_last (claims_back ps) (pass_history_of p) (length (claims_back ps)) refl)
  place (q ∷ ps) (suc i) p e = let h = place ps i p e in (h.0, at_longer (claims_back ps) (pass_history_of q ∷ []) h.0 (pass_history_of p) h.1)

  owner : (ps : List (Pass C)) (k : ℕ) (c : PassHistory) → get_elem? (claims_back ps) k ≡ some c → (i : ℕ) × (p : Pass C) × (get_elem? ps i ≡ some p) × (pass_history_of p ≡ c)
  owner [] k c e = absurd (at_none k c e)
  owner (q ∷ ps) k c e = ⊎_elim (λ (h : get_elem? (claims_back ps) k ≡ some c). let o = owner ps k c h in (suc o.0, o.1, o.2, o.3))
      (λ (h : (j : ℕ) × (k ≡ length (claims_back ps) + j) × (get_elem? (pass_history_of q ∷ []) j ≡ some c)). (0, q, refl, (at_one (pass_history_of q) h.0 c h.2).1)) (at_append (claims_back ps) (pass_history_of q ∷ []) k c e)

  length-claims_back : (ps : List (Pass C)) → length (claims_back ps) ≡ length ps
  length-claims_back [] = refl
  length-claims_back (p ∷ ps) = let h = length-claims_back ps in let l = length-append (claims_back ps) (pass_history_of p ∷ []) in omega arith

  one_whole : (opening : FolderState) (log : List Entry) (given : ℕ) (ps : List (Pass C)) → IsLegal given opening log → AreApart (claims_back ps) → ((i : ℕ) (c : PassHistory) → get_elem? (claims_back ps) i ≡ some c → (0 < c.pass) × (c.pass ≤ given))
      → ((i : ℕ) (p : Pass C) → get_elem? ps i ≡ some p → IsPrefix (seen_of p) log × (own_entries p.number log ≡ own_entries p.number (seen_of p))) → length ps ≡ given
      → (log ≡ []) ⊎ ((f : List Entry) × (e : Entry) × (log ≡ f ++ e ∷ [])) → 0 < length ps → (i : ℕ) × (p : Pass C) × (get_elem? ps i ≡ some p) × (log ≡ seen_of p)
  one_whole opening log given [] g apart range begins size last some_pass = absurd (omega arith)
  one_whole opening log given (q ∷ ps) g apart range begins size (inl none) some_pass = (0, q, refl, none ∙ starts_nil (seen_of q) (subst (λ (l : List Entry). IsPrefix (seen_of q) l) none (begins 0 q refl).0))
  one_whole opening log given (q ∷ ps) g apart range begins size (inr h) some_pass =
      let r = (legal-front given opening h.0 h.1 (subst (IsLegal given opening) h.2 g)).1.given in
      let k = covered h.1.pass given (claims_back (q ∷ ps)) apart range (length-claims_back (q ∷ ps) ∙ size) (let l = r.0 in omega arith) r.1 in
      let o = owner (q ∷ ps) k.0 k.1 k.2 in
      let b = begins o.0 o.1 o.2 in
      (o.0, o.1, o.2, last_seen log (seen_of o.1) h.0 h.1 o.1.number b.0 b.1 h.2 (sym (ap (λ (c : PassHistory). c.pass) o.3 ∙ k.3)))

  -- who is among the mapped, is mapped from one of them
  among : {V : Type 0} (f : Pass C → V) (v : V) (ps : List (Pass C)) (k : ℕ) → k < length (map f ps) → slice_index_or (map f ps) k v ≡ v → (i : ℕ) × (p : Pass C) × (get_elem? ps i ≡ some p) × (f p ≡ v)
  among f v [] k low is = absurd (omega arith)
  among f v (q ∷ ps) zero low is = (0, q, refl, is)
  among f v (q ∷ ps) (suc k) low is = let r = among f v ps k (omega arith) is in (suc r.0, r.1, r.2, r.3)

  mapped : {V : Type 0} (f : Pass C → V) (ps : List (Pass C)) (i : ℕ) (p : Pass C) → get_elem? ps i ≡ some p → Contains (map f ps) (f p)
  mapped f [] i p e = absurd (at_none i p e)
  mapped f (q ∷ ps) zero p e = (0, omega arith, ap f (some-injective q p e))
  mapped f (q ∷ ps) (suc i) p e = let r = mapped f ps i p e in (suc r.0, (let l = r.1 in omega arith), r.2)

  pub closes : (s : LockedFolder C) (x : History) (v w : Known) (ps : List (Pass C)) → Taken v x w → v.histories ≡ claims_back ps → (x.opening ≡ opening_of s) × (x.limit ≡ limit_of s) → IsHistory x → 0 < length ps
      → ((i : ℕ) (p : Pass C) → get_elem? ps i ≡ some p → IsPassOf s p) → (state : FolderState) → state ≡ end x → (given : ℕ) → given ≡ x.passes → Closes (opening_of s) (limit_of s) given (map (view_of s) ps) state
  closes s x v w ps t histories same history some_pass of state state_is given passes =
      let fit : AreFit x (claims_back ps) = subst (AreFit x) histories t.fit in
      let begins : (i : ℕ) (p : Pass C) → get_elem? ps i ≡ some p → IsPrefix (seen_of p) x.entries × (own_entries p.number x.entries ≡ own_entries p.number (seen_of p)) =
      λ i p e. let h = place ps i p e in let f : IsFit x (pass_history_of p) = fit h.0 (pass_history_of p) h.1 in (starts_trans x.entries (history_of p) (seen_of p) f.0 (take_starts p.seen (history_of p)), f.1 ∙ sym (of i p e).own) in
      let range : (i : ℕ) (c : PassHistory) → get_elem? (claims_back ps) i ≡ some c → (0 < c.pass) × (c.pass ≤ given) = λ i c e. let f = fit i c e in (f.2, (let b = f.3 in omega arith)) in
      let legal : IsLegal given (opening_of s) x.entries = subst (λ n. IsLegal n (opening_of s) x.entries) (sym passes) (subst (λ o. IsLegal x.passes o x.entries) same.0 history.legal) in
      let there : state ≡ state_after (opening_of s) x.entries = state_is ∙ ap (λ o. state_after o x.entries) same.0 in
      let room : length x.entries + len state.pulls ≤ limit_of s = (let r = history.room in let l = same.1 in let e = ap (λ (f : FolderState). len f.pulls) state_is in omega arith) in record {
        history = x.entries;
        legal = legal;
        room = room;
        state_is = there;
        each = λ u one. let o = among (view_of s) u ps one.0 one.1 one.2 in
            subst (λ (u : CallerView). (u.opening ≡ opening_of s) × (u.limit ≡ limit_of s) × Sees u (seeing u x.entries)) o.3
            (let b = begins o.0 o.1 o.2 in (refl, refl, record { longer = b.0; own = b.1; same = refl }));
        whole = λ many. let w = one_whole (opening_of s) x.entries given ps legal (subst AreApart histories t.apart) range begins (sym (length-map ps (view_of s)) ∙ many) (last_or x.entries) some_pass in
            (view_of s w.1, mapped (view_of s) ps w.0 w.1 w.2, sym w.3);
      }

  -- a pass that is handed in was given out
  pub closes-given : (x : History) (v w : Known) (ps : List (Pass C)) → Taken v x w → v.histories ≡ claims_back ps → (given : ℕ) → given ≡ x.passes → (i : ℕ) (p : Pass C) → get_elem? ps i ≡ some p → p.number ≤ given
  closes-given x v w ps t histories given passes i p e =
      let h = place ps i p e in
      let f : IsFit x (pass_history_of p) = subst (AreFit x) histories t.fit h.0 (pass_history_of p) h.1 in (let b = f.3 in omega arith)

  pub at_back : (all l s tail : List (Pass C)) (p : Pass C) → all ≡ l ++ tail → l ≡ s ++ p ∷ [] → get_elem? all (length s) ≡ some p
  at_back all l s tail p is longer = ap (λ (m : List (Pass C)). get_elem? m (length s)) (is ∙ ap (λ (m : List (Pass C)). m ++ tail) longer) ∙ at_longer (s ++ p ∷ []) tail (length s) p (at_last s p (length s) refl)

  pub back_more : (all l s tail : List (Pass C)) (p : Pass C) → all ≡ l ++ tail → l ≡ s ++ p ∷ [] → all ≡ s ++ (p ∷ tail)
  back_more all l s tail p is longer = is ∙ ap (λ (m : List (Pass C)). m ++ tail) longer ∙ append_assoc s (p ∷ []) tail

  pub back_all : (all l tail : List (Pass C)) → all ≡ l ++ tail → length l ≡ 0 → tail ≡ all
  back_all all [] tail is none = sym is
  back_all all (x ∷ l) tail is none = absurd (omega arith)
