-- Each step keeps the rule of the lock.
use Rattle.std.proofs.Common.{◌≡◌, ◌≢◌, ◌⊎◌, ℕ, ◌≤◌, List, [], ◌∷◌, ◌++◌, length, set, sym, refl, ap, ◌∙◌, subst, inl, inr, arith}
use mathlib.Core.Option.{some}
use lib.ListN.{get_elem?}
use Rattle.crossbeam_channel.specs.Fifo.{Pushes, Pops, Forks, Learns}
use Rattle.folder_calls.specs.declared.history.History.{History}
use Rattle.folder_shared.specs.declared.known.TokenState.TheVariants.{New, Idle, Holding}
use Rattle.folder_shared.specs.declared.known.Known.{Known}
use Rattle.folder_shared.specs.Rule.{Agree, known, newcomer, AreFit, SitAt, IsSame, Fits, Runs, RuleHolds, Opened, Taken, blank_of}
use Rattle.folder_shared.proofs.Lists.{at_none, at_one, all_set, all_end}

pub idle_new : Idle ≢ New
idle_new e = cc

pub idle_holding : Idle ≢ Holding
idle_holding e = cc

pub same_trans : (a b c : History) → IsSame a b → IsSame b c → IsSame a c
same_trans a b c p q = (p.0 ∙ q.0, p.1 ∙ q.1)

pub same_sym : (a b : History) → IsSame a b → IsSame b a
same_sym a b p = (sym p.0, sym p.1)

pub same_of : (a b : History) → a ≡ b → IsSame a b
same_of a b p = (ap (λ (m : History). m.opening) p, ap (λ (m : History). m.limit) p)

-- before the first put there is one view, which is new
new_is : (views : List Known) (port : ℕ) (v : Known) → views ≡ newcomer ∷ [] → get_elem? views port ≡ some v → (port ≡ 0) × (newcomer ≡ v)
new_is views port v is at = at_one newcomer port v (ap (λ l. get_elem? l port) (sym is) ∙ at)

pub not_new : (views : List Known) (port : ℕ) (v : Known) → views ≡ newcomer ∷ [] → get_elem? views port ≡ some v → v.state ≡ New
not_new views port v is at = ap (λ (w : Known). w.state) (sym (new_is views port v is at).1)

pub no_claims : (m : History) → AreFit m []
no_claims m i c e = absurd (at_none i c e)

pub no_seats : (seat : ℕ → ℕ × ℕ) (port : ℕ) → SitAt seat port []
no_seats seat port i c e = absurd (at_none i c e)

-- a token without histories that holds nothing
pub bare : (m : History) (items : List History) (holder : ℕ) (seat : ℕ → ℕ × ℕ) (port : ℕ) (n : History) → IsSame n m → n.passes ≤ m.passes → Fits m items holder seat port (known Idle n [])
bare m items holder seat port n same low = record { old = idle_new; same = λ _. same; grown = λ _. low; holds = λ e. absurd (idle_holding e); sits = no_seats seat port; fit = no_claims m }

pub begins : RuleHolds [] (newcomer ∷ [])
begins = inl (refl, refl)

opens_runs : (port : ℕ) (x : History) (items : List History) (views : List Known) (v : Known) → items ≡ [] → views ≡ newcomer ∷ [] → get_elem? views port ≡ some v → Runs (items ++ x ∷ []) (set views port (known Idle x []))
opens_runs port x items views v none is at = record {
  now = x;
  holder = 0;
  seat = λ _. (0, 0);
  place = inl (ap (λ l. l ++ x ∷ []) none);
  all = all_set (Fits x (items ++ x ∷ []) 0 (λ _. (0, 0))) views port (known Idle x []) (bare x (items ++ x ∷ []) 0 (λ _. (0, 0)) port x (refl, refl) (omega arith))
      (λ j u apart e. absurd (apart ((new_is views j u is e).0 ∙ sym (new_is views port v is at).0)));
}

pub opens : (n port : ℕ) (v : Known) (m : History) → v.state ≡ New → Pushes RuleHolds n port v m (Opened v m)
opens n port v m new items views room h at = (known Idle m [], inr (elim h [ inl e ↦ opens_runs port m items views v e.0 e.1 at | inr r ↦ absurd ((r.all port v at).old new) ]), refl)

-- what stays of another view at a take
other_at_take : (x now : History) (items : List History) (holder port : ℕ) (seat : ℕ → ℕ × ℕ) (j : ℕ) (u : Known) → Fits now (x ∷ items) holder seat j u → Fits now items port seat j u
other_at_take x now items holder port seat j u f = record { old = f.old; same = f.same; grown = f.grown; holds = λ e. let h = (f.holds e).0 in absurd (cc); sits = f.sits; fit = f.fit }

takes_runs : (port : ℕ) (v : Known) (x : History) (items : List History) (views : List Known) → v.state ≡ Idle → (r : Runs (x ∷ items) views) → get_elem? views port ≡ some v
    → (x ≡ r.now) → (items ≡ []) → Runs items (set views port (known Holding x v.histories))
takes_runs port v x items views is r at here none = let f = r.all port v at in record {
  now = r.now;
  holder = port;
  seat = r.seat;
  place = inr none;
  all = all_set (Fits r.now items port r.seat) views port (known Holding x v.histories)
      (record { old = (λ e. cc); same = λ _. same_of x r.now here; grown = λ _. (let p = ap (λ (m : History). m.passes) here in omega arith); holds = λ _. (none, refl, here); sits = f.sits; fit = f.fit })
      (λ j u apart e. other_at_take x r.now items r.holder port r.seat j u (r.all j u e));
}

takes_fact : (port : ℕ) (v : Known) (x : History) (items : List History) (views : List Known) → v.state ≡ Idle → (r : Runs (x ∷ items) views) → get_elem? views port ≡ some v
    → (x ≡ r.now) → Taken v x (known Holding x v.histories)
takes_fact port v x items views is r at here = let f = r.all port v at in record {
  after = refl;
  same = same_trans x r.now v.memo (same_of x r.now here) (same_sym v.memo r.now (f.same (λ e. cc)));
  fit = subst (λ (m : History). AreFit m v.histories) (sym here) f.fit;
  apart = (λ i j c d e k same. ap (λ (y : ℕ × ℕ). y.1) (sym (f.sits i c e) ∙ ap r.seat same ∙ f.sits j d k));
}

first_is : (x now : History) (items : List History) → (x ∷ items ≡ now ∷ []) ⊎ (x ∷ items ≡ []) → (x ≡ now) × (items ≡ [])
first_is x now items (inl e) = (cc, cc)
first_is x now items (inr e) = absurd (cc)

takes_step : (port : ℕ) (v : Known) (x : History) (items : List History) (views : List Known) → v.state ≡ Idle → RuleHolds (x ∷ items) views → get_elem? views port ≡ some v
    → (w : Known) × RuleHolds items (set views port w) × Taken v x w
takes_step port v x items views is (inl e) at = let n = e.0 in absurd (cc)
takes_step port v x items views is (inr r) at = let p = first_is x r.now items r.place in
    (known Holding x v.histories, inr (takes_runs port v x items views is r at p.0 p.1), takes_fact port v x items views is r at p.0)

pub takes : (port : ℕ) (v : Known) → v.state ≡ Idle → Pops RuleHolds port v (Taken v)
takes port v is x items views h at = takes_step port v x items views is h at

blanks_runs : (port : ℕ) (v : Known) (items : List History) (views : List Known) → v.state ≡ Idle → (r : Runs items views) → get_elem? views port ≡ some v → Runs items (set views port v ++ blank_of v ∷ [])
blanks_runs port v items views is r at = let f = r.all port v at in record {
  now = r.now;
  holder = r.holder;
  seat = r.seat;
  place = r.place;
  all = all_end (Fits r.now items r.holder r.seat) (set views port v) (blank_of v) (bare r.now items r.holder r.seat (length (set views port v)) v.memo (f.same (λ e. cc)) (f.grown (λ e. cc)))
      (all_set (Fits r.now items r.holder r.seat) views port v f (λ j u apart e. r.all j u e));
}

pub blanks : (port : ℕ) (v : Known) → v.state ≡ Idle → Forks RuleHolds port v v (blank_of v)
blanks port v is items views (inl e) at = absurd (idle_new (sym is ∙ not_new views port v e.1 at))
blanks port v is items views (inr r) at = inr (blanks_runs port v items views is r at)

pub compares : (port : ℕ) (v : Known) → v.state ≡ Idle → Learns RuleHolds port v (Agree v)
compares port v is items views (inl e) at = absurd (idle_new (sym is ∙ not_new views port v e.1 at))
compares port v is items views (inr r) at = let f = r.all port v at in (r.now, f.same (λ e. cc), f.fit)
