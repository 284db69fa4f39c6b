-- A put keeps the rule of the lock.
use Rattle.std.proofs.Common.{◌≡◌, ◌≢◌, ◌⊎◌, ℕ, ◌+◌, ◌<◌, ◌==◌, Bool, true, false, cond, List, [], ◌∷◌, ◌++◌, set, sym, refl, ap, ◌∙◌, subst, inl, inr, append-nil, arith}
use Rattle.std.proofs.lemmas.Bool.Decides.{nat_tests}
use mathlib.Core.Option.{some}
use lib.ListN.{get_elem?}
use Rattle.crossbeam_channel.specs.Fifo.{Pushes}
use Rattle.folder_calls.specs.declared.entry.Entry.{Entry}
use mathlib.Core.List.{IsPrefix}
use Rattle.folder_calls.specs.Histories.{own_entries}
use Rattle.folder_calls.specs.declared.history.History.{History}
use Rattle.folder_shared.specs.declared.known.PassHistory.{PassHistory}
use Rattle.folder_shared.specs.declared.known.TokenState.TheVariants.{Idle, Holding}
use Rattle.folder_shared.specs.declared.known.Known.{Known}
use Rattle.folder_shared.specs.Rule.{pass_history, known, IsFit, SitAt, IsSame, Fits, Runs, RuleHolds, seen_all, PutBack, MayPut, Numbered, MayNumber}
use Rattle.folder_shared.proofs.Lists.{at_one, of_map, all_set}
use Rattle.folder_shared.proofs.Histories.{starts_refl, starts_trans}
use Rattle.folder_calls.proofs.HistoryEntries.{own-skip}
use Rattle.folder_shared.proofs.Moves.{same_trans, same_sym, same_of, not_new}

-- the state put back has the history in hand, or one entry more of a pass p that sits at this port
abbrev Grows : History → History → (ℕ → ℕ × ℕ) → ℕ → Type 0
Grows now x seat port = (x.entries ≡ now.entries) ⊎ ((e : Entry) × (x.entries ≡ now.entries ++ e ∷ []) × ((seat e.pass).0 ≡ port))

grown_starts : (now x : History) (seat : ℕ → ℕ × ℕ) (port : ℕ) → Grows now x seat port → IsPrefix now.entries x.entries
grown_starts now x seat port (inl e) = ([], append-nil now.entries ∙ sym e)
grown_starts now x seat port (inr g) = (g.0 ∷ [], sym g.1)

grown_own : (now x : History) (seat : ℕ → ℕ × ℕ) (port k : ℕ) → Grows now x seat port → (seat k).0 ≢ port → own_entries k x.entries ≡ own_entries k now.entries
grown_own now x seat port k (inl e) apart = ap (own_entries k) e
grown_own now x seat port k (inr g) apart = ap (own_entries k) g.1 ∙ own-skip k now.entries g.0 (λ same. apart (ap (λ n. (seat n).0) (sym same) ∙ g.2))

grown_fit : (now x : History) (seat : ℕ → ℕ × ℕ) (port : ℕ) (c : PassHistory) → Grows now x seat port → x.passes ≡ now.passes → (seat c.pass).0 ≢ port → IsFit now c → IsFit x c
grown_fit now x seat port c g p apart f =
    (starts_trans x.entries now.entries c.seen (grown_starts now x seat port g) f.0, grown_own now x seat port c.pass g apart ∙ f.1, f.2, (let h = f.3 in omega arith))

seen_fit : (m now : History) (c : PassHistory) → now.passes ≡ m.passes → IsFit now c → IsFit m (pass_history c.pass m.entries)
seen_fit m now c p f = (starts_refl m.entries, refl, f.2, (let h = f.3 in omega arith))

put_runs : (port : ℕ) (v : Known) (x : History) (items : List History) (views : List Known) → v.state ≡ Holding → (r : Runs items views) → get_elem? views port ≡ some v
    → IsSame x v.memo → x.passes ≡ v.memo.passes → Grows r.now x r.seat port → Runs (items ++ x ∷ []) (set views port (known Idle x (seen_all x.entries v.histories)))
put_runs port v x items views is r at same passes grows =
    let f = r.all port v at in
    let h = f.holds is in
    let w = known Idle x (seen_all x.entries v.histories) in
    let with_now : IsSame r.now x = same_sym x r.now (same_trans x v.memo r.now same (same_of v.memo r.now h.2)) in
    let given : r.now.passes ≡ x.passes = sym (passes ∙ ap (λ (m : History). m.passes) h.2) in
    record {
      now = x;
      holder = port;
      seat = r.seat;
      place = inl (ap (λ l. l ++ x ∷ []) h.0);
      all = all_set (Fits x (items ++ x ∷ []) port r.seat) views port w
          (record {
            old = (λ e. cc);
            same = (λ _. (refl, refl));
            grown = (λ _. omega arith);
            holds = (λ e. absurd (cc));
            sits = (λ i c e. let o = of_map (λ d. pass_history d.pass x.entries) v.histories i c e in ap (λ (d : PassHistory). r.seat d.pass) (sym o.2) ∙ f.sits i o.0 o.1);
            fit = (λ i c e. let o = of_map (λ d. pass_history d.pass x.entries) v.histories i c e in subst (IsFit x) o.2 (seen_fit x r.now o.0 given (f.fit i o.0 o.1)));
          })
          (λ j u apart e. let fu = r.all j u e in record {
            old = fu.old;
            same = (λ n. same_trans u.memo r.now x (fu.same n) with_now);
            grown = (λ n. let low = fu.grown n in omega arith);
            holds = (λ b. absurd (apart ((fu.holds b).1 ∙ sym h.1)));
            sits = fu.sits;
            fit = (λ i c k. grown_fit r.now x r.seat port c grows (sym given) (λ s. apart (sym (ap (λ (y : ℕ × ℕ). y.0) (fu.sits i c k)) ∙ s)) (fu.fit i c k));
          });
    }

grows_of : (port : ℕ) (v : Known) (x now : History) (seat : ℕ → ℕ × ℕ) → v.memo ≡ now → SitAt seat port v.histories
    → ((x.entries ≡ v.memo.entries)
    ⊎ ((e : Entry) × (x.entries ≡ v.memo.entries ++ e ∷ []) × (i : ℕ) × (c : PassHistory) × (get_elem? v.histories i ≡ some c) × (e.pass ≡ c.pass)))
    → Grows now x seat port
grows_of port v x now seat is sits (inl e) = inl (e ∙ ap (λ (m : History). m.entries) is)
grows_of port v x now seat is sits (inr g) = inr (g.0, g.1 ∙ ap (λ (m : History). m.entries ++ g.0 ∷ []) is, ap (λ n. (seat n).0) g.5 ∙ ap (λ (y : ℕ × ℕ). y.0) (sits g.2 g.3 g.4))

pub puts : (n port : ℕ) (v : Known) (x : History) → v.state ≡ Holding → MayPut v x → Pushes RuleHolds n port v x (PutBack v x)
puts n port v x is may items views room (inl e) at = absurd (let s = not_new views port v e.1 at in cc)
puts n port v x is may items views room (inr r) at =
    let f = r.all port v at in
    (known Idle x (seen_all x.entries v.histories), inr (put_runs port v x items views is r at may.0 may.1 (grows_of port v x r.now r.seat (f.holds is).2 f.sits may.2)), refl)

-- the new number sits at this port
abbrev seats_one : (ℕ → ℕ × ℕ) → ℕ → ℕ → ℕ → ℕ × ℕ
seats_one seat port pass k = cond (k == pass) (port, 0) (seat k)

sits_here : (seat : ℕ → ℕ × ℕ) (port pass : ℕ) → seats_one seat port pass pass ≡ (port, 0)
sits_here seat port pass = cases (pass == pass) refl
  where
    cases : (t : Bool) → (pass == pass) ≡ t → cond t (port, 0) (seat pass) ≡ (port, 0)
    cases true is = refl
    cases false is = absurd (grind (arith, nat_tests))

sits_else : (seat : ℕ → ℕ × ℕ) (port pass k : ℕ) → k < pass → seats_one seat port pass k ≡ seat k
sits_else seat port pass k below = cases (k == pass) refl
  where
    cases : (t : Bool) → (k == pass) ≡ t → cond t (port, 0) (seat k) ≡ seat k
    cases true is = absurd (grind (arith, nat_tests))
    cases false is = refl

number_runs : (port : ℕ) (v : Known) (x : History) (items : List History) (views : List Known) → v.state ≡ Holding → (r : Runs items views) → get_elem? views port ≡ some v
    → MayNumber v x → Runs (items ++ x ∷ []) (set views port (known Idle x (pass_history x.passes x.entries ∷ [])))
number_runs port v x items views is r at may =
    let f = r.all port v at in
    let h = f.holds is in
    let seat = seats_one r.seat port x.passes in
    let w = known Idle x (pass_history x.passes x.entries ∷ []) in
    let with_now : IsSame r.now x = same_sym x r.now (same_trans x v.memo r.now may.1 (same_of v.memo r.now h.2)) in
    let given : x.passes ≡ r.now.passes + 1 = may.2 ∙ ap (λ (m : History). m.passes + 1) h.2 in
    let same_log : x.entries ≡ r.now.entries = may.3 ∙ ap (λ (m : History). m.entries) h.2 in
    record {
      now = x;
      holder = port;
      seat = seat;
      place = inl (ap (λ l. l ++ x ∷ []) h.0);
      all = all_set (Fits x (items ++ x ∷ []) port seat) views port w
          (record {
            old = (λ e. cc);
            same = (λ _. (refl, refl));
            grown = (λ _. omega arith);
            holds = (λ e. absurd (cc));
            sits = (λ i c e. let o = at_one (pass_history x.passes x.entries) i c e in ap (λ (d : PassHistory). seat d.pass) (sym o.1) ∙ sits_here r.seat port x.passes ∙ ap (λ (k : ℕ). (port, k)) (sym o.0));
            fit = (λ i c e. let o = at_one (pass_history x.passes x.entries) i c e in subst (IsFit x) o.1 (starts_refl x.entries, refl, (omega arith), (omega arith)));
          })
          (λ j u apart e. let fu = r.all j u e in record {
            old = fu.old;
            same = (λ n. same_trans u.memo r.now x (fu.same n) with_now);
            grown = (λ n. let low = fu.grown n in omega arith);
            holds = (λ b. absurd (apart ((fu.holds b).1 ∙ sym h.1)));
            sits = (λ i c k. let b = (fu.fit i c k).3 in sits_else r.seat port x.passes c.pass (omega arith) ∙ fu.sits i c k);
            fit = (λ i c k. let g = fu.fit i c k in (subst (λ (l : List Entry). IsPrefix c.seen l) (sym same_log) g.0, ap (own_entries c.pass) same_log ∙ g.1, g.2, (let b = g.3 in omega arith)));
          });
    }

pub numbers : (n port : ℕ) (v : Known) (x : History) → v.state ≡ Holding → MayNumber v x → Pushes RuleHolds n port v x (Numbered v x)
numbers n port v x is may items views room (inl e) at = absurd (let s = not_new views port v e.1 at in cc)
numbers n port v x is may items views room (inr r) at = (known Idle x (pass_history x.passes x.entries ∷ []), inr (number_runs port v x items views is r at may), refl)
