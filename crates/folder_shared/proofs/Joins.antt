-- Joining two tokens keeps the rule of the lock.
use Rattle.std.proofs.Common.{◌≡◌, ◌≢◌, ℕ, ◌+◌, ◌==◌, Bool, true, false, cond, List, ◌++◌, length, set, sym, refl, ap, ◌∙◌, inl, inr, ⊎_elim, arith}
use Rattle.std.proofs.lemmas.Bool.Decides.{nat_tests}
use mathlib.Core.Option.{some}
use lib.ListN.{get_elem?}
use Rattle.crossbeam_channel.specs.Fifo.{Merges}
use Rattle.atomic_table.proofs.Lists.{at_set}
use Rattle.folder_calls.specs.declared.history.History.{History}
use Rattle.folder_shared.specs.declared.known.PassHistory.{PassHistory}
use Rattle.folder_shared.specs.declared.known.TokenState.TheVariants.{Idle}
use Rattle.folder_shared.specs.declared.known.Known.{Known}
use Rattle.folder_shared.specs.Rule.{spent, AreFit, SitAt, Fits, Runs, RuleHolds, joined}
use Rattle.folder_shared.proofs.Lists.{at_append, all_set}
use Rattle.folder_shared.proofs.Moves.{not_new, no_claims, no_seats, idle_new, idle_holding}

-- what sat at the port `from` sits at the port `to`, after n others
abbrev seats_moved : (ℕ → ℕ × ℕ) → ℕ → ℕ → ℕ → ℕ → ℕ × ℕ
seats_moved seat from to n k = cond ((seat k).0 == from) (to, n + (seat k).1) (seat k)

moved : (seat : ℕ → ℕ × ℕ) (from to n k i : ℕ) → seat k ≡ (from, i) → seats_moved seat from to n k ≡ (to, n + i)
moved seat from to n k i is = cases ((seat k).0 == from) refl
  where
    cases : (t : Bool) → ((seat k).0 == from) ≡ t → cond t (to, n + (seat k).1) (seat k) ≡ (to, n + i)
    cases true e = ap (λ (y : ℕ × ℕ). (to, n + y.1)) is
    cases false e = absurd (let s = ap (λ (y : ℕ × ℕ). y.0) is in grind (arith, nat_tests))

unmoved : (seat : ℕ → ℕ × ℕ) (from to n k j i : ℕ) → seat k ≡ (j, i) → j ≢ from → seats_moved seat from to n k ≡ (j, i)
unmoved seat from to n k j i is apart = cases ((seat k).0 == from) refl
  where
    cases : (t : Bool) → ((seat k).0 == from) ≡ t → cond t (to, n + (seat k).1) (seat k) ≡ (j, i)
    cases true e = absurd (apart (let s = ap (λ (y : ℕ × ℕ). y.0) is in grind (arith, nat_tests)))
    cases false e = is

both_sit : (seat : ℕ → ℕ × ℕ) (port other : ℕ) (a b : List PassHistory) → port ≢ other → SitAt seat port a → SitAt seat other b → SitAt (seats_moved seat other port (length a)) port (a ++ b)
both_sit seat port other a b apart sa sb i c e = ⊎_elim (λ (x : get_elem? a i ≡ some c). unmoved seat other port (length a) c.pass port i (sa i c x) apart)
    (λ (x : (k : ℕ) × (i ≡ length a + k) × (get_elem? b k ≡ some c)). moved seat other port (length a) c.pass x.0 (sb x.0 c x.2) ∙ ap (λ (k : ℕ). (port, k)) (sym x.1)) (at_append a b i c e)

both_fit : (m : History) (a b : List PassHistory) → AreFit m a → AreFit m b → AreFit m (a ++ b)
both_fit m a b fa fb i c e = ⊎_elim (λ (x : get_elem? a i ≡ some c). fa i c x) (λ (x : (k : ℕ) × (i ≡ length a + k) × (get_elem? b k ≡ some c)). fb x.0 c x.2) (at_append a b i c e)

join_runs : (port : ℕ) (v : Known) (other : ℕ) (w : Known) (items : List History) (views : List Known) → v.state ≡ Idle → (r : Runs items views) → get_elem? views port ≡ some v → ¬ (other ≡ port) → get_elem? views other ≡ some w
    → Runs items (set (set views port (joined v w)) other spent)
join_runs port v other w items views is r at apart at' =
    let f = r.all port v at in
    let g = r.all other w at' in
    let seat = seats_moved r.seat other port (length v.histories) in
    let n : port ≢ other = (λ e. apart (sym e)) in
    let Old : ℕ → Known → Type 0 = λ j u. j ≢ other → Fits r.now items r.holder seat j u in
    let old : (j : ℕ) (u : Known) → get_elem? (set views port (joined v w)) j ≡ some u → Old j u =
    all_set Old views port (joined v w)
    (λ _. record { old = idle_new; same = (λ _. f.same (λ e. cc)); grown = (λ _. f.grown (λ e. cc)); holds = (λ e. absurd (idle_holding e)); sits = both_sit r.seat port other v.histories w.histories n f.sits g.sits; fit = both_fit r.now v.histories w.histories f.fit g.fit })
    (λ j u _ e far. let fu = r.all j u e in record { old = fu.old; same = fu.same; grown = fu.grown; holds = fu.holds; sits = (λ i c k. unmoved r.seat other port (length v.histories) c.pass j i (fu.sits i c k) far); fit = fu.fit }) in
    record {
      now = r.now;
      holder = r.holder;
      seat = seat;
      place = r.place;
      all = all_set (Fits r.now items r.holder seat) (set views port (joined v w)) other spent
          (record { old = (λ e. cc); same = (λ e. absurd (e refl)); grown = (λ e. absurd (e refl)); holds = (λ e. absurd (cc)); sits = no_seats seat other; fit = no_claims r.now })
          (λ j u far e. old j u e far);
    }

pub joins : (port : ℕ) (v : Known) (other : ℕ) (w : Known) → v.state ≡ Idle → w.state ≡ Idle → Merges RuleHolds port v other w (joined v w) spent
joins port v other w is is' items views (inl e) at apart at' = absurd (idle_new (sym is ∙ not_new views port v e.1 at))
joins port v other w is is' items views (inr r) at apart at' =
    let was : get_elem? views other ≡ some w = ⊎_elim (λ (x : (other ≡ port) × (joined v w ≡ w)). absurd (apart x.0)) (λ (x : (other ≢ port) × (get_elem? views other ≡ some w)). x.1) (at_set views port other (joined v w) w at') in
    inr (join_runs port v other w items views is r at apart was)
