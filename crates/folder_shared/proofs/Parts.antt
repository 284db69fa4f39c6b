-- Cutting a token apart that two were put into keeps the rule of the lock.
use Rattle.std.proofs.Common.{◌≡◌, ◌≢◌, ℕ, ◌==◌, Bool, true, false, cond, List, [], ◌∷◌, ◌++◌, length, set, sym, refl, ap, ◌∙◌, subst, inl, inr, arith}
use Rattle.std.proofs.lemmas.Bool.Decides.{nat_tests}
use mathlib.Core.Option.{some}
use lib.ListN.{get_elem?}
use Rattle.crossbeam_channel.specs.Fifo.{Forks}
use Rattle.folder_calls.specs.declared.history.History.{History}
use Rattle.folder_shared.specs.declared.known.PassHistory.{PassHistory}
use Rattle.folder_shared.specs.declared.known.TokenState.TheVariants.{Idle}
use Rattle.folder_shared.specs.declared.known.Known.{Known}
use Rattle.folder_shared.specs.Rule.{pass_history, IsFit, AreFit, SitAt, Fits, Runs, RuleHolds, longer, first_of_two, second_of_two, left_of, right_of}
use Rattle.folder_shared.proofs.Lists.{at_one, all_set, all_end}
use Rattle.folder_shared.proofs.Histories.{longer_starts, own_between}
use Rattle.folder_shared.proofs.Moves.{not_new, no_claims, no_seats, idle_new, idle_holding}

-- what sat at a port, but for its first history, sits at another
abbrev seats_cut : (ℕ → ℕ × ℕ) → ℕ → ℕ → ℕ → ℕ × ℕ
seats_cut seat port to k = cond ((seat k).0 == port) (cond ((seat k).1 == 0) (seat k) (to, 0)) (seat k)

cut_first : (seat : ℕ → ℕ × ℕ) (port to k : ℕ) → seat k ≡ (port, 0) → seats_cut seat port to k ≡ (port, 0)
cut_first seat port to k is = cases ((seat k).0 == port) ((seat k).1 == 0) refl refl
  where
    cases : (t s : Bool) → ((seat k).0 == port) ≡ t → ((seat k).1 == 0) ≡ s → cond t (cond s (seat k) (to, 0)) (seat k) ≡ (port, 0)
    cases true true e d = is
    cases true false e d = absurd (let h = ap (λ (y : ℕ × ℕ). y.1) is in grind (arith, nat_tests))
    cases false s e d = is

cut_second : (seat : ℕ → ℕ × ℕ) (port to k : ℕ) → seat k ≡ (port, 1) → seats_cut seat port to k ≡ (to, 0)
cut_second seat port to k is = cases ((seat k).0 == port) ((seat k).1 == 0) refl refl
  where
    cases : (t s : Bool) → ((seat k).0 == port) ≡ t → ((seat k).1 == 0) ≡ s → cond t (cond s (seat k) (to, 0)) (seat k) ≡ (to, 0)
    cases true true e d = absurd (let h = ap (λ (y : ℕ × ℕ). y.1) is in grind (arith, nat_tests))
    cases true false e d = refl
    cases false s e d = absurd (let h = ap (λ (y : ℕ × ℕ). y.0) is in grind (arith, nat_tests))

cut_else : (seat : ℕ → ℕ × ℕ) (port to k j i : ℕ) → seat k ≡ (j, i) → j ≢ port → seats_cut seat port to k ≡ (j, i)
cut_else seat port to k j i is apart = cases ((seat k).0 == port) refl
  where
    cases : (t : Bool) → ((seat k).0 == port) ≡ t → cond t (cond ((seat k).1 == 0) (seat k) (to, 0)) (seat k) ≡ (j, i)
    cases true e = absurd (apart (let h = ap (λ (y : ℕ × ℕ). y.0) is in grind (arith, nat_tests)))
    cases false e = is

first_sits : (seat : ℕ → ℕ × ℕ) (port to : ℕ) (cs : List PassHistory) → SitAt seat port cs → SitAt (seats_cut seat port to) port (first_of_two cs)
first_sits seat port to [] s i c e = no_seats (seats_cut seat port to) port i c e
first_sits seat port to (a ∷ []) s i c e = let o = at_one a i c e in ap (λ (d : PassHistory). seats_cut seat port to d.pass) (sym o.1) ∙ cut_first seat port to a.pass (s 0 a refl) ∙ ap (λ (k : ℕ). (port, k)) (sym o.0)
first_sits seat port to (a ∷ b ∷ cs) s i c e = let o = at_one (pass_history a.pass (longer a.seen b.seen)) i c e in
    ap (λ (d : PassHistory). seats_cut seat port to d.pass) (sym o.1) ∙ cut_first seat port to a.pass (s 0 a refl) ∙ ap (λ (k : ℕ). (port, k)) (sym o.0)

second_sits : (seat : ℕ → ℕ × ℕ) (port to : ℕ) (cs : List PassHistory) → SitAt seat port cs → SitAt (seats_cut seat port to) to (second_of_two cs)
second_sits seat port to [] s i c e = no_seats (seats_cut seat port to) to i c e
second_sits seat port to (a ∷ []) s i c e = no_seats (seats_cut seat port to) to i c e
second_sits seat port to (a ∷ b ∷ cs) s i c e = let o = at_one (pass_history b.pass (longer a.seen b.seen)) i c e in
    ap (λ (d : PassHistory). seats_cut seat port to d.pass) (sym o.1) ∙ cut_second seat port to b.pass (s 1 b refl) ∙ ap (λ (k : ℕ). (to, k)) (sym o.0)

longer_fit : (m : History) (a b : PassHistory) → IsFit m a → IsFit m b → IsFit m (pass_history a.pass (longer a.seen b.seen)) × IsFit m (pass_history b.pass (longer a.seen b.seen))
longer_fit m a b f g = let s = longer_starts m.entries a.seen b.seen f.0 g.0 in
    ((s.0, own_between a.pass m.entries (longer a.seen b.seen) a.seen s.0 s.1 f.1, f.2, f.3), (s.0, own_between b.pass m.entries (longer a.seen b.seen) b.seen s.0 s.2 g.1, g.2, g.3))

first_fit : (m : History) (cs : List PassHistory) → AreFit m cs → AreFit m (first_of_two cs)
first_fit m [] f i c e = no_claims m i c e
first_fit m (a ∷ []) f i c e = f i c e
first_fit m (a ∷ b ∷ cs) f i c e = subst (IsFit m) (at_one (pass_history a.pass (longer a.seen b.seen)) i c e).1 (longer_fit m a b (f 0 a refl) (f 1 b refl)).0

second_fit : (m : History) (cs : List PassHistory) → AreFit m cs → AreFit m (second_of_two cs)
second_fit m [] f i c e = no_claims m i c e
second_fit m (a ∷ []) f i c e = no_claims m i c e
second_fit m (a ∷ b ∷ cs) f i c e = subst (IsFit m) (at_one (pass_history b.pass (longer a.seen b.seen)) i c e).1 (longer_fit m a b (f 0 a refl) (f 1 b refl)).1

part_runs : (port : ℕ) (v : Known) (items : List History) (views : List Known) → v.state ≡ Idle → (r : Runs items views) → get_elem? views port ≡ some v → Runs items (set views port (left_of v) ++ right_of v ∷ [])
part_runs port v items views is r at =
    let f = r.all port v at in
    let to = length (set views port (left_of v)) in
    let seat = seats_cut r.seat port to in
    record {
      now = r.now;
      holder = r.holder;
      seat = seat;
      place = r.place;
      all = all_end (Fits r.now items r.holder seat) (set views port (left_of v)) (right_of v)
          (record { old = idle_new; same = (λ _. f.same (λ e. cc)); grown = (λ _. f.grown (λ e. cc)); holds = (λ e. absurd (idle_holding e)); sits = second_sits r.seat port to v.histories f.sits; fit = second_fit r.now v.histories f.fit })
          (all_set (Fits r.now items r.holder seat) views port (left_of v)
          (record { old = idle_new; same = (λ _. f.same (λ e. cc)); grown = (λ _. f.grown (λ e. cc)); holds = (λ e. absurd (idle_holding e)); sits = first_sits r.seat port to v.histories f.sits; fit = first_fit r.now v.histories f.fit })
          (λ j u apart e. let fu = r.all j u e in record { old = fu.old; same = fu.same; grown = fu.grown; holds = fu.holds; sits = (λ i c k. cut_else r.seat port to c.pass j i (fu.sits i c k) apart); fit = fu.fit }));
    }

pub parts : (port : ℕ) (v : Known) → v.state ≡ Idle → Forks RuleHolds port v (left_of v) (right_of v)
parts port v is items views (inl e) at = absurd (idle_new (sym is ∙ not_new views port v e.1 at))
parts port v is items views (inr r) at = inr (part_runs port v items views is r at)
